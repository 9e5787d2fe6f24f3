-- That lists of names are the machine's.
use Rattle.std.specs.Prelude.{◌≡◌, ℕ, List}
use Rattle.sleep_model.specs.declared.machine.Machine.{Machine}
use Rattle.sleep_model.specs.Text.{source_names}
use Rattle.log_text.specs.Named.{device_names, notifier_names, script_names}

-- each list is that of the machine's names of a kind of thing
pub record HasNames (m : Machine) (devices_are syscore_are notifiers_are sources_are marks_are scripts_are : List (List ℕ)) : Type 0 where
  pub devices : devices_are ≡ device_names m
  pub syscore : syscore_are ≡ m.syscore
  pub notifiers : notifiers_are ≡ notifier_names m
  pub sources : sources_are ≡ source_names m
  pub marks : marks_are ≡ m.marks
  pub scripts : scripts_are ≡ script_names m
