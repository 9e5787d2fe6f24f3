-- Whom a freeze waits for, and how many they are, as the tasks move one by one.
use Rattle.std.specs.Prelude.{◌≡◌, ℕ, ◌+◌, Bool, true, false, List, length, Option, Some, None, slice_get}
use Rattle.sleep_model.specs.declared.entry.Actor.{Actor}
use Rattle.sleep_model.specs.declared.entry.Actor.TheVariants as actor
use Rattle.sleep_model.specs.declared.entry.Group.{Group}
use Rattle.sleep_model.specs.declared.entry.Group.TheVariants as group
use Rattle.sleep_model.specs.declared.entry.Kind.{Kind}
use Rattle.sleep_model.specs.declared.entry.Kind.TheVariants as kind
use Rattle.sleep_model.specs.declared.machine.Script.{Script}
use Rattle.sleep_model.specs.declared.progress.Freezing.{Freezing}
use Rattle.sleep_model.specs.Freezer.{freezing_at}
use Rattle.task_freezer.specs.declared.left.LeftCounts.{LeftCounts}
use Rattle.task_freezer.specs.declared.left.WaitGroups.{WaitGroups}
use Rattle.task_freezer.specs.Freezers.{exited_at, waits_for, left_by}

-- one if it is so, else none
abbrev pub as_count : Bool → ℕ
as_count true = 1
as_count false = 0

-- the number of a group
abbrev pub count_in : Group → LeftCounts → ℕ
count_in group.User counts = counts.user
count_in group.Kernel counts = counts.kernel

-- how many tasks a freeze of each group waits for (try_to_freeze_tasks, todo)
abbrev pub left_counts : List Script → List Freezing → List Bool → LeftCounts
left_counts scripts freezings exited_flags = record {
  user = length (left_by group.User 0 scripts freezings exited_flags);
  kernel = length (left_by group.Kernel 0 scripts freezings exited_flags);
}

-- a freeze of the group waits for a script, if there is one
abbrev pub waits_in : Group → Option Script → Freezing → Bool → Bool
waits_in g None freezing exited_flags = false
waits_in g (Some s) freezing exited_flags = waits_for g s.kind freezing exited_flags

-- a freeze of the group waits for that actor, one of these scripts (try_to_freeze_tasks)
abbrev pub waits_of : Group → Actor → List Script → List Freezing → List Bool → Bool
waits_of g (actor.Script i) scripts freezings exited_flags = waits_in g (slice_get scripts i) (freezing_at freezings i) (exited_at exited_flags i)
waits_of g who scripts freezings exited_flags = false

-- for which freezes that actor keeps the machine waiting
abbrev pub wait_groups : Actor → List Script → List Freezing → List Bool → WaitGroups
wait_groups who scripts freezings exited_flags = record {
  user = waits_of group.User who scripts freezings exited_flags;
  kernel = waits_of group.Kernel who scripts freezings exited_flags;
}

-- an entry moves no task but its own actor: it is no freeze and no thaw
abbrev pub IsOfOne : Kind → Type 0
IsOfOne (kind.Freeze g) = ⊥
IsOfOne (kind.Thaw those) = ⊥
IsOfOne _ = Unit {0}

-- n tasks of a group waited before, of which that actor was one or not; it may be one now
abbrev pub CountIsMoved : Group → Actor → List Script → List Freezing → List Bool → ℕ → Bool → Type 0
CountIsMoved g who scripts freezings exited_flags before waited =
    length (left_by g 0 scripts freezings exited_flags) + as_count waited ≡ before + as_count (waits_of g who scripts freezings exited_flags)

-- the tasks of both groups have moved so
pub record AreMoved (who : Actor) (scripts : List Script) (freezings : List Freezing) (exited_flags : List Bool) (before : LeftCounts) (waited : WaitGroups) : Type 0 where
  pub user : CountIsMoved group.User who scripts freezings exited_flags before.user waited.user
  pub kernel : CountIsMoved group.Kernel who scripts freezings exited_flags before.kernel waited.kernel
