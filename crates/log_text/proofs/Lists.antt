-- What a list of names has at an index.
use Rattle.std.proofs.Common.{◌≡◌, ◌∙◌, ℕ, Option, Some, None, refl, ap}
use Rattle.std.specs.Option.{option_map}
use Rattle.std.specs.Prelude.{slice_get}
use Rattle.std.proofs.lemmas.Option.{slice_get-map}
use Rattle.sleep_model.specs.declared.machine.Device.{Device}
use Rattle.sleep_model.specs.declared.machine.Machine.{Machine}
use Rattle.sleep_model.specs.declared.machine.Notifier.{Notifier}
use Rattle.sleep_model.specs.declared.machine.Script.{Script}
use Rattle.sleep_model.specs.Text.{device, device_name, name_in, notifier, notifier_name, task, task_name}
use Rattle.log_text.specs.Named.{device_names, notifier_names, script_names}

-- the name of a device
pub device_at : (m : Machine) (i : ℕ) → name_in (slice_get (device_names m) i) ≡ device m i
device_at m i = ap name_in (slice_get-map (λ d. d.name) m.devices i) ∙ by (slice_get m.devices i)
  where
    by : (o : Option Device) → name_in (option_map (λ d. d.name) o) ≡ device_name o
    by None = refl
    by (Some d) = refl

-- the name of a notifier
pub notifier_at : (m : Machine) (i : ℕ) → name_in (slice_get (notifier_names m) i) ≡ notifier m i
notifier_at m i = ap name_in (slice_get-map (λ x. x.name) m.notifiers i) ∙ by (slice_get m.notifiers i)
  where
    by : (o : Option Notifier) → name_in (option_map (λ x. x.name) o) ≡ notifier_name o
    by None = refl
    by (Some x) = refl

-- the name of a script
pub task_at : (m : Machine) (i : ℕ) → name_in (slice_get (script_names m) i) ≡ task m i
task_at m i = ap name_in (slice_get-map (λ s. s.name) m.actors i) ∙ by (slice_get m.actors i)
  where
    by : (o : Option Script) → name_in (option_map (λ s. s.name) o) ≡ task_name o
    by None = refl
    by (Some s) = refl
