-- The autosleep lock and state (kernel/power/autosleep.c, autosleep_lock and autosleep_state).
use Rattle.std.specs.Prelude.{Bool, true, false, List, [], ◌∷◌, if◌then◌else◌, Option, Some, None}
use Rattle.sleep_model.specs.declared.entry.Actor.{Actor}
use Rattle.sleep_model.specs.declared.entry.Entry.{Entry}
use Rattle.sleep_model.specs.declared.entry.Kind.{Kind}
use Rattle.sleep_model.specs.declared.entry.Kind.TheVariants.{Attempt, Over, AutoSet, AutoDone, AutoSaved, AutoOff}
use Rattle.sleep_model.specs.declared.entry.State.{State}
use Rattle.sleep_model.specs.declared.entry.State.TheVariants.{Mem, Off}
use Rattle.sleep_model.specs.Path.{is_actor}

-- who holds the lock after that actor lets it go: another keeps it (pm_autosleep_unlock)
abbrev pub let_go_by : Actor → Option Actor → Option Actor
let_go_by who before = if is_actor who before then None else before

-- who holds the lock after an entry: the maker of an attempt, who sets autosleep, and the work from its save on (pm_autosleep_lock,
-- pm_autosleep_unlock)
abbrev pub holder_after : Kind → Actor → Option Actor → Option Actor
holder_after (Attempt n guarded) who before = Some who
holder_after (Over n r) who before = let_go_by who before
holder_after (AutoSet state) who before = Some who
holder_after AutoDone who before = let_go_by who before
holder_after (AutoSaved c) who before = Some who
holder_after AutoOff who before = let_go_by who before
holder_after _ who before = before

-- who holds the autosleep lock (pm_autosleep_lock)
abbrev pub holder : List Entry → Option Actor
holder [] = None
holder (e ∷ past) = holder_after e.kind e.actor (holder past)

-- autosleep is set to a state that sleeps (pm_autosleep_set_state)
abbrev pub is_sleeping_state : State → Bool
is_sleeping_state Mem = true
is_sleeping_state Off = false

-- autosleep is on, after an entry (pm_autosleep_set_state)
abbrev pub on_after : Kind → Bool → Bool
on_after (AutoSet state) before = is_sleeping_state state
on_after _ before = before

-- autosleep is on (pm_autosleep_state)
abbrev pub is_on : List Entry → Bool
is_on [] = false
is_on (e ∷ past) = on_after e.kind (is_on past)
