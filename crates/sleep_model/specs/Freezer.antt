-- The freezer of tasks (kernel/power/process.c, kernel/freezer.c).
use Rattle.std.specs.Prelude.{ℕ, suc, Bool, true, false, not, ◌==◌, ◌&&◌, ◌||◌, List, [], ◌∷◌, length, map, if◌then◌else◌, slice_set, slice_index_or}
use Rattle.sleep_model.specs.declared.entry.Actor.{Actor}
use Rattle.sleep_model.specs.declared.entry.Actor.TheVariants as actor
use Rattle.sleep_model.specs.declared.entry.Entry.{Entry}
use Rattle.sleep_model.specs.declared.entry.Group.{Group}
use Rattle.sleep_model.specs.declared.entry.Group.TheVariants as group
use Rattle.sleep_model.specs.declared.entry.Kind.{Kind}
use Rattle.sleep_model.specs.declared.entry.Kind.TheVariants.{Frozen, Freeze, Thaw}
use Rattle.sleep_model.specs.declared.entry.Thaw.{Thaw as Thawing}
use Rattle.sleep_model.specs.declared.entry.Thaw.TheVariants as thaw
use Rattle.sleep_model.specs.declared.machine.Machine.{Machine}
use Rattle.sleep_model.specs.declared.machine.Script.{Script}
use Rattle.sleep_model.specs.declared.machine.TaskKind.{TaskKind}
use Rattle.sleep_model.specs.declared.machine.TaskKind.TheVariants.{User, Kthread}
use Rattle.sleep_model.specs.declared.progress.Freezing.{Freezing}
use Rattle.sleep_model.specs.declared.progress.ScriptPosition.{ScriptPosition}
use Rattle.sleep_model.specs.Positions.{positions}

-- a task of that kind is of the group that a freeze asks (freeze_processes, freeze_kernel_threads)
abbrev pub is_in : Group → TaskKind → Bool
is_in group.User User = true
is_in group.Kernel Kthread = true
is_in g k = false

-- that actor is script i
abbrev pub is_task : ℕ → Actor → Bool
is_task i (actor.Script j) = j == i
is_task i _ = false

-- what the freezer has come to with a task that it asks for nothing
abbrev pub unasked : Freezing
unasked = record { asked = false; frozen = false }

-- what it has come to with a task among others (freezing, frozen)
abbrev pub freezing_at : List Freezing → ℕ → Freezing
freezing_at those i = slice_index_or those i unasked

-- a freeze of group g by that actor asks a task of the group, script i, unless it makes the freeze itself; who froze before has to freeze
-- anew (freeze_task)
abbrev pub asked_by : Group → Actor → ℕ → TaskKind → Freezing → Freezing
asked_by g who i kind before =
    if is_in g kind then record { asked = before.asked || not (is_task i who); frozen = false } else before

-- the tasks, from number i on, after a freeze of group g by that actor (freeze_processes, freeze_kernel_threads)
abbrev pub all_asked : Group → Actor → ℕ → List Script → List Freezing → List Freezing
all_asked g who i (s ∷ ss) (f ∷ fs) = asked_by g who i s.kind f ∷ all_asked g who (suc i) ss fs
all_asked g who i _ _ = []

-- a thaw of kernel threads lets those go, a thaw of all lets each go (thaw_kernel_threads, thaw_processes)
abbrev pub let_go : Thawing → TaskKind → Freezing → Freezing
let_go thaw.All kind before = unasked
let_go thaw.Kernel Kthread before = unasked
let_go thaw.Kernel kind before = before

-- the tasks after a thaw (thaw_kernel_threads, thaw_processes)
abbrev pub all_let_go : Thawing → List Script → List Freezing → List Freezing
all_let_go those (s ∷ ss) (f ∷ fs) = let_go those s.kind f ∷ all_let_go those ss fs
all_let_go those _ _ = []

-- a task that freezes (__refrigerator)
abbrev pub put_frozen : Actor → List Freezing → List Freezing
put_frozen (actor.Script i) before = slice_set before i (record (freezing_at before i) { frozen = true })
put_frozen who before = before

-- what the freezer has come to with these tasks, after an entry of that actor (freeze_task, __refrigerator, thaw_processes)
abbrev pub freezings_after : List Script → Actor → Kind → List Freezing → List Freezing
freezings_after scripts who (Freeze g) before = all_asked g who 0 scripts before
freezings_after scripts who (Thaw those) before = all_let_go those scripts before
freezings_after scripts who Frozen before = put_frozen who before
freezings_after scripts who k before = before

-- what the freezer has come to with these tasks (freezing, frozen)
abbrev pub freezings : List Script → List Entry → List Freezing
freezings scripts [] = map (λ s. unasked) scripts
freezings scripts (e ∷ past) = freezings_after scripts e.actor e.kind (freezings scripts past)

-- a task keeps the freeze of its group waiting: it is asked, not frozen, and has not exited (try_to_freeze_tasks)
abbrev pub keeps_waiting : Group → TaskKind → Freezing → ScriptPosition → Bool
keeps_waiting g kind f position = is_in g kind && f.asked && not f.frozen && not position.exited

-- the tasks, from number i on, that keep the freeze of a group waiting
abbrev pub left_from : Group → ℕ → List Script → List Freezing → List ScriptPosition → List ℕ
left_from g i (s ∷ ss) (f ∷ fs) (position ∷ positions) =
    if keeps_waiting g s.kind f position then i ∷ left_from g (suc i) ss fs positions else left_from g (suc i) ss fs positions
left_from g i _ _ _ = []

-- the tasks that a freeze of the group still waits for, in the order of the file (try_to_freeze_tasks, todo)
abbrev pub left : Machine → Group → List Entry → List ℕ
left m g past = left_from g 0 m.actors (freezings m.actors past) (positions (length m.actors) past)

-- what the freezer has come to with script i (freezing, frozen)
abbrev pub freezing : Machine → ℕ → List Entry → Freezing
freezing m i past = freezing_at (freezings m.actors past) i
