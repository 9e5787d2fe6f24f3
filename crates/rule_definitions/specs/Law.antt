-- The law: an entry of the journal is due of its actor exactly if it obeys all rules.
use Rattle.std.specs.Prelude.{◌≡◌, ℕ, true, false, List}
use Rattle.sleep_model.specs.declared.entry.Actor.{Actor}
use Rattle.sleep_model.specs.declared.entry.Actor.TheVariants as actor
use Rattle.sleep_model.specs.declared.entry.Entry.{Entry}
use Rattle.sleep_model.specs.declared.entry.Kind.{Kind}
use Rattle.sleep_model.specs.declared.machine.Machine.{Machine}
use Rattle.sleep_model.specs.declared.progress.Due.TheVariants.{Makes}
use Rattle.sleep_model.specs.declared.word.EventNow.{EventNow}
use Rattle.sleep_model.specs.Due.{due}
use Rattle.sleep_model.specs.Legal.{JournalPart}
use Rattle.rule_definitions.specs.All.{KeepsAll, KeepsMost}
use Rattle.rule_definitions.specs.Owed.{KeepsOwed}
use Rattle.rule_definitions.specs.Questions.{is_maker}
use Rattle.rule_definitions.specs.Restored.{KeepsRestored}

-- that entry is due of its actor (kernel/power/suspend.c, kernel/power/main.c)
abbrev pub IsDue : Machine → List Entry → EventNow → Actor → Kind → Type 0
IsDue m past now who k = due m past who now ≡ Makes k

-- after a legal journal what is due obeys all rules, and, after any entries, what obeys most of them is due (kernel/power/suspend.c,
-- kernel/power/main.c)
pub record AreOne (m : Machine) (past : List Entry) (now : EventNow) (who : Actor) (k : Kind) : Type 0 where
  pub keeps : JournalPart m past → IsDue m past now who k → KeepsAll m past now who k
  pub makes : KeepsMost m past now who k → IsDue m past now who k

-- so for each script outside attempts of its own (kernel/power/main.c)
abbrev pub OneForScripts : Type 0
OneForScripts =
    (m : Machine) (past : List Entry) (now : EventNow) (i : ℕ) (k : Kind) → is_maker past (actor.Script i) ≡ false
    → AreOne m past now (actor.Script i) k

-- so for autosleep's work outside attempts of its own (try_to_suspend)
abbrev pub OneForWork : Type 0
OneForWork =
    (m : Machine) (past : List Entry) (now : EventNow) (k : Kind) → is_maker past actor.Auto ≡ false
    → AreOne m past now actor.Auto k

-- so for each asynchronous device (async_suspend, async_resume)
abbrev pub OneForDevices : Type 0
OneForDevices =
    (m : Machine) (past : List Entry) (now : EventNow) (d : ℕ) (k : Kind) → is_maker past (actor.Dev d) ≡ false
    → AreOne m past now (actor.Dev d) k

-- so for who makes the open attempt (suspend_devices_and_enter, suspend_enter)
abbrev pub OneForMakers : Type 0
OneForMakers =
    (m : Machine) (past : List Entry) (now : EventNow) (who : Actor) (k : Kind) → is_maker past who ≡ true
    → AreOne m past now who k

-- so for every actor: for each machine, after each legal journal, an entry of the journal is due exactly if it obeys all rules
-- (kernel/power/suspend.c, kernel/power/main.c)
abbrev pub OneForAll : Type 0
OneForAll = (m : Machine) (past : List Entry) (now : EventNow) (who : Actor) (k : Kind) → AreOne m past now who k

-- after a legal journal what obeys most rules undoes only what is owed, and ends an attempt only if nothing is (suspend_devices_and_enter,
-- suspend_finish)
abbrev pub OwedFollows : Type 0
OwedFollows =
    (m : Machine) (past : List Entry) (now : EventNow) (who : Actor) (k : Kind) → JournalPart m past
    → KeepsMost m past now who k → KeepsOwed m past k × KeepsRestored m past k
