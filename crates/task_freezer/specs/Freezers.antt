-- The freezer as one value, what an entry does to it, whom a freeze waits for, and how far a freeze is.
use Rattle.std.specs.Prelude.{◌≡◌, ℕ, suc, ◌+◌, Bool, true, false, not, ◌&&◌, nat_le, List, [], ◌∷◌, length, if◌then◌else◌, Option, Some, None, replicate, slice_set, slice_index_or}
use Rattle.sleep_model.specs.declared.entry.Actor.{Actor}
use Rattle.sleep_model.specs.declared.entry.Actor.TheVariants as actor
use Rattle.sleep_model.specs.declared.entry.Group.{Group}
use Rattle.sleep_model.specs.declared.entry.Kind.{Kind}
use Rattle.sleep_model.specs.declared.entry.Kind.TheVariants as kind
use Rattle.sleep_model.specs.declared.machine.Script.{Script}
use Rattle.sleep_model.specs.declared.machine.TaskKind.{TaskKind}
use Rattle.sleep_model.specs.declared.progress.Freezing.{Freezing}
use Rattle.sleep_model.specs.Attempt.{gives_up_at}
use Rattle.sleep_model.specs.Freezer.{unasked, is_in, freezings_after}
use Rattle.task_freezer.specs.declared.freezer.Round.{Round}
use Rattle.task_freezer.specs.declared.freezer.Round.TheVariants as round
use Rattle.task_freezer.specs.declared.left.Left.{Left}

-- the scripts, what the freezer has come to with each, and which of them have exited
pub record FreezerState : Type 0 where
  pub scripts : List Script
  pub freezings : List Freezing
  pub exited_flags : List Bool

-- these scripts, asked for nothing and not exited
abbrev pub first_freezer : List Script → FreezerState
first_freezer scripts = record {
  scripts = scripts;
  freezings = replicate (length scripts) unasked;
  exited_flags = replicate (length scripts) false;
}

-- ---- an entry

-- a script has exited (do_exit)
abbrev pub mark_exited : Actor → List Bool → List Bool
mark_exited (actor.Script i) before = slice_set before i true
mark_exited who before = before

-- who has exited, after an entry of that actor (do_exit)
abbrev pub exited_flags_after : Actor → Kind → List Bool → List Bool
exited_flags_after who kind.Exit before = mark_exited who before
exited_flags_after who _ before = before

-- what an entry of that actor does to the freezer (freeze_task, __refrigerator, thaw_processes)
abbrev pub freezer_after : Actor → Kind → FreezerState → FreezerState
freezer_after who kind before = record {
  scripts = before.scripts;
  freezings = freezings_after before.scripts who kind before.freezings;
  exited_flags = exited_flags_after who kind before.exited_flags;
}

-- ---- whom a freeze waits for

-- whether a script has exited, of those there are
abbrev pub exited_at : List Bool → ℕ → Bool
exited_at exited_flags i = slice_index_or exited_flags i false

-- a task keeps the freeze of its group waiting: it is asked, not frozen, and has not exited (try_to_freeze_tasks)
abbrev pub waits_for : Group → TaskKind → Freezing → Bool → Bool
waits_for g kind f exited_flags = is_in g kind && f.asked && not f.frozen && not exited_flags

-- the tasks, from number i on, that keep the freeze of a group waiting (try_to_freeze_tasks)
abbrev pub left_by : Group → ℕ → List Script → List Freezing → List Bool → List ℕ
left_by g i (s ∷ ss) (f ∷ fs) (b ∷ exited_flags) =
    if waits_for g s.kind f b then i ∷ left_by g (suc i) ss fs exited_flags else left_by g (suc i) ss fs exited_flags
left_by g i _ _ _ = []

-- the tasks that a freeze of the group still waits for, in the order of the file (try_to_freeze_tasks, todo)
abbrev pub left_of : Group → FreezerState → List ℕ
left_of g state = left_by g 0 state.scripts state.freezings state.exited_flags

-- the first, or else the other
abbrev pub first_or : Option ℕ → ℕ → Option ℕ
first_or None other = Some other
first_or (Some x) other = Some x

-- the first of these, if there is one
abbrev pub first_of : List ℕ → Option ℕ
first_of [] = None
first_of (x ∷ xs) = Some x

-- how many these are, and the first of them (try_to_freeze_tasks, todo)
pub record IsLeft (left : Left) (tasks : List ℕ) : Type 0 where
  pub count : left.count ≡ length tasks
  pub first : left.first ≡ first_of tasks

-- the first that was found, or else the first of these
abbrev pub first_from : Option ℕ → List ℕ → Option ℕ
first_from None tasks = first_of tasks
first_from (Some x) tasks = Some x

-- ---- how far a freeze is

-- a freeze that goes on since then, at that time, with these tasks left: it ends if none is, gives up if its time is over, and else looks
-- again (try_to_freeze_tasks, freeze_timeout_msecs)
abbrev pub round_of : ℕ → ℕ → List ℕ → Round
round_of since time [] = round.AllFrozen
round_of since time (x ∷ rest) =
    if nat_le (gives_up_at since) time then round.Late (length (x ∷ rest)) x else round.Again (length (x ∷ rest)) (gives_up_at since)
