-- The number of an attempt, and the count that guards it.
use Rattle.std.specs.Prelude.{◌≡◌, ◌+◌, true, List, None, is_some}
use Rattle.sleep_model.specs.declared.entry.Entry.{Entry}
use Rattle.sleep_model.specs.declared.entry.Kind.{Kind}
use Rattle.sleep_model.specs.declared.entry.Kind.TheVariants as kind
use Rattle.sleep_model.specs.Guard.{in_force}
use Rattle.sleep_model.specs.Path.{attempts, maker}

-- an attempt has the next number, the count in force guards it, and none is open; its end has its number (pm_suspend, events_check_enabled)
abbrev pub KeepsAttempts : List Entry → Kind → Type 0
KeepsAttempts past (kind.Attempt n guarded) = (n ≡ attempts past + 1) × (guarded ≡ in_force past) × (maker past ≡ None)
KeepsAttempts past (kind.Over n r) = (n ≡ attempts past) × (is_some (maker past) ≡ true)
KeepsAttempts past _ = Unit {0}
