-- Reads and saves of the count, and writes to the state and to autosleep (kernel/power/main.c).
use Rattle.std.specs.Prelude.{◌≡◌, ◌+◌, ℕ, Bool, true, false, ◌==◌, ◌||◌, List, Option, Some, None, is_some}
use Rattle.sleep_model.specs.declared.entry.Actor.{Actor}
use Rattle.sleep_model.specs.declared.entry.Actor.TheVariants as actor
use Rattle.sleep_model.specs.declared.entry.Entry.{Entry}
use Rattle.sleep_model.specs.declared.entry.Kind.{Kind}
use Rattle.sleep_model.specs.declared.entry.Kind.TheVariants as kind
use Rattle.sleep_model.specs.declared.machine.Machine.{Machine}
use Rattle.sleep_model.specs.declared.machine.Op.{Op}
use Rattle.sleep_model.specs.declared.machine.Op.TheVariants as op
use Rattle.sleep_model.specs.declared.progress.Due.TheVariants.{Makes}
use Rattle.sleep_model.specs.declared.progress.ScriptPosition.{ScriptPosition}
use Rattle.sleep_model.specs.declared.progress.Work.{Work}
use Rattle.sleep_model.specs.declared.progress.Work.TheVariants.{Reading, Saving, Attempting}
use Rattle.sleep_model.specs.declared.word.EventNow.{EventNow}
use Rattle.sleep_model.specs.Autosleep.{auto_save, work}
use Rattle.sleep_model.specs.Freezer.{freezing}
use Rattle.sleep_model.specs.Guard.{in_force}
use Rattle.sleep_model.specs.Lock.{holder, is_on}
use Rattle.sleep_model.specs.Path.{attempts, is_actor}
use Rattle.sleep_model.specs.Steps.{read_due, count_due, saved_number, state_due, unless_unsaved}
use Rattle.sleep_model.specs.Tasks.{is_mem, is_off}
use Rattle.sleep_model.specs.Word.{visible}
use Rattle.rule_definitions.specs.Questions.{is_maker, position_of, op_of}

-- ---- an entry of anybody whose own step is another: there it waits nowhere, and has no text and no number

-- a read that nobody waits in: the count if no event is in progress, else that it waits (pm_get_wakeup_count)
abbrev pub IsReadElse : EventNow → Kind → Type 0
IsReadElse now k = read_due now false false ≡ Makes k

-- a save that nobody waits in, of whatever number: by the lock, which another holds or nobody, by autosleep and the count
-- (wakeup_count_store, pm_save_wakeup_count)
abbrev pub IsSaveElse : List Entry → EventNow → Actor → ℕ → Kind → Type 0
IsSaveElse past now who c k =
    (is_actor who (holder past) ≡ false) × (count_due (is_some (holder past)) (is_on past) false false now c ≡ Makes k)

-- a write to the state that nobody waits in: by the lock, which another holds or nobody, and by autosleep; it wants no save and has no text
-- that is bad (state_store)
abbrev pub IsWriteElse : List Entry → Actor → Kind → Type 0
IsWriteElse past who k =
    (is_actor who (holder past) ≡ false)
    × (state_due (is_some (holder past)) (is_on past) false false true (kind.Attempt (attempts past + 1) (in_force past)) ≡ Makes k)

-- a save of the work: while the lock is free, by its number and the count (try_to_suspend)
abbrev pub IsAutoSave : List Entry → EventNow → ℕ → Kind → Type 0
IsAutoSave past now c k = (holder past ≡ None) × (auto_save now c ≡ k)

-- reads, saves and writes to the state of anybody whose own step is another (kernel/power/main.c)
abbrev pub ReadsElse : List Entry → EventNow → Actor → Kind → Type 0
ReadsElse past now who kind.ReadWait = IsReadElse now kind.ReadWait
ReadsElse past now who (kind.Read c) = IsReadElse now (kind.Read c)
ReadsElse past now who kind.ReadIntr = IsReadElse now kind.ReadIntr
ReadsElse past now who (kind.SaveWait c) = IsSaveElse past now who c (kind.SaveWait c)
ReadsElse past now who (kind.Saved c) = IsSaveElse past now who c (kind.Saved c)
ReadsElse past now who (kind.SaveErr c r) = IsSaveElse past now who c (kind.SaveErr c r)
ReadsElse past now who kind.StateWait = IsWriteElse past who kind.StateWait
ReadsElse past now who (kind.StateErr r) = IsWriteElse past who (kind.StateErr r)
ReadsElse past now who kind.StateUnsaved = IsWriteElse past who kind.StateUnsaved
ReadsElse past now who (kind.AutoSaved c) = IsAutoSave past now c (kind.AutoSaved c)
ReadsElse past now who (kind.AutoUnsaved c) = IsAutoSave past now c (kind.AutoUnsaved c)
ReadsElse past now who _ = Unit {0}

-- ---- an entry of a task at its operation

-- at a read: the count if no event is in progress, else that it waits, or gives up (pm_get_wakeup_count)
abbrev pub IsRead : EventNow → ScriptPosition → Bool → Option Op → Kind → Type 0
IsRead now position asked (Some op.Read) k = read_due now position.waits asked ≡ Makes k
IsRead now position asked _ k = IsReadElse now k

-- at a save: by the lock, by autosleep, by its number and the count (wakeup_count_store, pm_save_wakeup_count)
abbrev pub IsSave : List Entry → EventNow → Actor → ScriptPosition → Bool → Option Op → ℕ → Kind → Type 0
IsSave past now who position asked (Some (op.Save count)) c k =
    count_due (is_some (holder past)) (is_on past) position.waits asked now (saved_number count position.last_read) ≡ Makes k
IsSave past now who position asked _ c k = IsSaveElse past now who c k

-- at a write to the state: by the task's last save, by the lock, by autosleep and by its text (state_store)
abbrev pub IsWrite : List Entry → Actor → ScriptPosition → Bool → Option Op → Kind → Type 0
IsWrite past who position asked (Some (op.State text if_saved)) k =
    unless_unsaved if_saved position.saved
    (state_due (is_some (holder past)) (is_on past) position.waits asked (is_mem text) (kind.Attempt (attempts past + 1) (in_force past))) ≡ Makes k
IsWrite past who position asked _ k = IsWriteElse past who k

-- a good write begins an attempt (state_store, pm_suspend)
abbrev pub IsGoodWrite : List Entry → ScriptPosition → Bool → Option Op → Kind → Type 0
IsGoodWrite past position asked (Some (op.State text if_saved)) k =
    unless_unsaved if_saved position.saved (state_due (is_some (holder past)) (is_on past) position.waits asked (is_mem text) k) ≡ Makes k
IsGoodWrite past position asked _ k = Unit {0}

-- a write to autosleep is refused only if its text is neither (autosleep_store)
abbrev pub IsBadText : Option Op → Type 0
IsBadText (Some (op.Autosleep text)) = (is_mem text || is_off text) ≡ false
IsBadText _ = Unit {0}

-- autosleep is set only if the lock is free (pm_autosleep_lock)
abbrev pub IsFree : List Entry → Option Op → Type 0
IsFree past (Some (op.Autosleep text)) = is_some (holder past) ≡ false
IsFree past _ = Unit {0}

-- an entry of a task at its operation (kernel/power/main.c)
abbrev pub ReadsTask : List Entry → EventNow → Actor → ScriptPosition → Bool → Option Op → Kind → Type 0
ReadsTask past now who position asked o kind.ReadWait = IsRead now position asked o kind.ReadWait
ReadsTask past now who position asked o (kind.Read c) = IsRead now position asked o (kind.Read c)
ReadsTask past now who position asked o kind.ReadIntr = IsRead now position asked o kind.ReadIntr
ReadsTask past now who position asked o (kind.SaveWait c) = IsSave past now who position asked o c (kind.SaveWait c)
ReadsTask past now who position asked o (kind.Saved c) = IsSave past now who position asked o c (kind.Saved c)
ReadsTask past now who position asked o (kind.SaveErr c r) = IsSave past now who position asked o c (kind.SaveErr c r)
ReadsTask past now who position asked o kind.StateWait = IsWrite past who position asked o kind.StateWait
ReadsTask past now who position asked o (kind.StateErr r) = IsWrite past who position asked o (kind.StateErr r)
ReadsTask past now who position asked o kind.StateUnsaved = IsWrite past who position asked o kind.StateUnsaved
ReadsTask past now who position asked o (kind.Attempt n guarded) = IsGoodWrite past position asked o (kind.Attempt n guarded)
ReadsTask past now who position asked o kind.AutoBad = IsBadText o
ReadsTask past now who position asked o (kind.AutoSet state) = IsFree past o
ReadsTask past now who position asked o k = ReadsElse past now who k

-- ---- an entry of autosleep's work, and of all others

-- an entry of autosleep's work: it reads if no event is in progress, saves if the lock is free, and begins an attempt if autosleep is on
-- (try_to_suspend)
abbrev pub ReadsWork : List Entry → EventNow → Work → Kind → Type 0
ReadsWork past now Reading (kind.Read c) = ((now.inpr == 0) ≡ true) × (c ≡ visible now)
ReadsWork past now (Saving c) (kind.AutoSaved b) = (holder past ≡ None) × (auto_save now c ≡ kind.AutoSaved b)
ReadsWork past now (Saving c) (kind.AutoUnsaved b) = (holder past ≡ None) × (auto_save now c ≡ kind.AutoUnsaved b)
ReadsWork past now (Attempting c) (kind.Attempt n guarded) = is_on past ≡ true
ReadsWork past now _ k = ReadsElse past now actor.Auto k

-- by who makes it: a task or the work outside attempts of its own, or anybody else (kernel/power/main.c, kernel/power/autosleep.c)
abbrev pub ReadsActor : Machine → List Entry → EventNow → Actor → Bool → Kind → Type 0
ReadsActor m past now (actor.Script i) false k = ReadsTask past now (actor.Script i) (position_of m past i) (freezing m i past).asked (op_of m past i) k
ReadsActor m past now actor.Auto false k = ReadsWork past now (work past) k
ReadsActor m past now who _ k = ReadsElse past now who k

-- reads, saves and writes answer by the word, the lock, autosleep, their number and their text (kernel/power/main.c,
-- drivers/base/power/wakeup.c)
abbrev pub KeepsReads : Machine → List Entry → EventNow → Actor → Kind → Type 0
KeepsReads m past now who k = ReadsActor m past now who (is_maker past who) k
