-- What a request for a runtime status is answered.
use Rattle.std.specs.Prelude.{◌≡◌, List}
use Rattle.sleep_model.specs.declared.entry.Entry.{Entry}
use Rattle.sleep_model.specs.declared.entry.Kind.{Kind}
use Rattle.sleep_model.specs.declared.entry.Kind.TheVariants as kind
use Rattle.sleep_model.specs.declared.machine.Machine.{Machine}
use Rattle.sleep_model.specs.Runtime.{runtime_due}

-- a request is answered by what the device's runtime PM is and by whether it is prepared (__pm_runtime_set_status,
-- rpm_check_suspend_allowed)
abbrev pub KeepsRuntime : Machine → List Entry → Kind → Type 0
KeepsRuntime m past (kind.RuntimeAsk d to_suspended r) = r ≡ runtime_due m d to_suspended past
KeepsRuntime m past _ = Unit {0}
