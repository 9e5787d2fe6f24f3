-- Names that are ready to be copied.
use Rattle.std.specs.Prelude.{◌≡◌, ℕ, List, [], slice_get}
use Rattle.std.specs.Option.{ForSome}
use Rattle.sleep_model.specs.declared.entry.Actor.TheVariants as actor
use Rattle.sleep_model.specs.declared.machine.Machine.{Machine}
use Rattle.sleep_model.specs.Text.{source_names}
use Rattle.log_words.specs.Front.{maker_text}
use Rattle.log_text.specs.Named.{device_names, notifier_names, script_names}

-- each list has the names of a kind of thing, or the makers of entries that the devices, the scripts or the sources' timers are
pub record IsReady (m : Machine) (none_is auto_is time_is : List ℕ) (makers_are scripts_are timers_are devices_are syscore_are notifiers_are sources_are marks_are tasks_are : List (List ℕ)) : Type 0 where
  pub none : none_is ≡ []
  pub makers : (i : ℕ) → ForSome (slice_get makers_are i) (λ t. t ≡ maker_text m (actor.Dev i))
  pub auto : auto_is ≡ maker_text m actor.Auto
  pub time : time_is ≡ maker_text m actor.Time
  pub scripts : (i : ℕ) → ForSome (slice_get scripts_are i) (λ t. t ≡ maker_text m (actor.Script i))
  pub timers : (i : ℕ) → ForSome (slice_get timers_are i) (λ t. t ≡ maker_text m (actor.Timer i))
  pub devices : devices_are ≡ device_names m
  pub syscore : syscore_are ≡ m.syscore
  pub notifiers : notifiers_are ≡ notifier_names m
  pub sources : sources_are ≡ source_names m
  pub marks : marks_are ≡ m.marks
  pub tasks : tasks_are ≡ script_names m
