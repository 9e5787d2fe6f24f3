-- The room in the journal that an open attempt may still need: its maker's entries, and those of its devices (kernel/power/suspend.c,
-- enter_state).
use Rattle.std.specs.Prelude.{◌≡◌, ◌≤◌, ℕ, zero, suc, ◌+◌, ◌*◌, Bool, true, false, not, List, ◌∷◌, length, Option, Some, None, is_some}
use Rattle.sleep_model.specs.declared.entry.Entry.{Entry}
use Rattle.sleep_model.specs.declared.entry.Group.TheVariants as group
use Rattle.sleep_model.specs.declared.entry.Kind.{Kind}
use Rattle.sleep_model.specs.declared.entry.Kind.TheVariants as kind
use Rattle.sleep_model.specs.declared.entry.Thaw.TheVariants as thaw
use Rattle.sleep_model.specs.declared.machine.Machine.{Machine}
use Rattle.sleep_model.specs.declared.machine.PlatDo.TheVariants as down
use Rattle.sleep_model.specs.declared.machine.PlatUndo.TheVariants as undo
use Rattle.sleep_model.specs.declared.progress.Stage.{Stage}
use Rattle.sleep_model.specs.declared.progress.Stage.TheVariants as stage
use Rattle.sleep_model.specs.declared.progress.PhaseState.{PhaseState}
use Rattle.sleep_model.specs.declared.progress.PhaseState.TheVariants as state
use Rattle.phase_table.specs.declared.phase.Phase.TheVariants as phase
use Rattle.sleep_model.specs.Accepted.{IsAccepted}
use Rattle.sleep_model.specs.Attempt.{freeze_since, sleep_of}
use Rattle.sleep_model.specs.Devices.{is_device, phase_failed, state_in}
use Rattle.sleep_model.specs.Legal.{JournalPart}
use Rattle.sleep_model.specs.Notifiers.{notified_flags, cpus_off, stopped}
use Rattle.sleep_model.specs.Path.{is_actor, maker}
use Rattle.sleep_model.specs.Table.{stage_of}
use Rattle.sleep_model.specs.Walk.{is_so}

-- the sum of what each of the first n numbers weighs
abbrev pub sum_below : ℕ → (ℕ → ℕ) → ℕ
sum_below zero weight = 0
sum_below (suc n) weight = weight n + sum_below n weight

-- ---- the rows of the table

-- one more, unless it has begun
abbrev pub one_unless : Bool → ℕ
one_unless true = 0
one_unless false = 1

-- the entries of the table's fixed rows from a stage on, by the longest way; the flags say whether its freeze or sleep has begun
-- (suspend_enter)
abbrev pub rows_from : Stage → Bool → Bool → ℕ
rows_from stage.Notifies freezes sleeps = 26
rows_from (stage.Freezes group.User) freezes sleeps = 25 + one_unless freezes
rows_from (stage.Freezes group.Kernel) freezes sleeps = 23 + one_unless freezes
rows_from (stage.PlatformDo down.Begin) freezes sleeps = 22
rows_from stage.Prepares freezes sleeps = 21
rows_from (stage.Downs phase.Suspend) freezes sleeps = 20
rows_from (stage.PlatformDo down.Prepare) freezes sleeps = 19
rows_from (stage.Downs phase.Late) freezes sleeps = 18
rows_from (stage.Downs phase.Noirq) freezes sleeps = 17
rows_from (stage.PlatformDo down.PrepareLate) freezes sleeps = 16
rows_from stage.StopsCpus freezes sleeps = 15
rows_from stage.StopsIrqs freezes sleeps = 15
rows_from stage.ChecksWakeup freezes sleeps = 14
rows_from stage.StopsSyscore freezes sleeps = 13
rows_from stage.Enters freezes sleeps = 12 + one_unless sleeps
rows_from stage.StartsSyscore freezes sleeps = 11
rows_from stage.StartsIrqs freezes sleeps = 11
rows_from stage.StartsCpus freezes sleeps = 10
rows_from (stage.PlatformUndo undo.Wake) freezes sleeps = 10
rows_from (stage.Ups phase.ResumeNoirq) freezes sleeps = 9
rows_from (stage.Ups phase.Early) freezes sleeps = 8
rows_from (stage.PlatformUndo undo.Finish) freezes sleeps = 7
rows_from (stage.PlatformUndo undo.Recover) freezes sleeps = 7
rows_from (stage.Ups phase.Resume) freezes sleeps = 6
rows_from stage.Completes freezes sleeps = 5
rows_from (stage.PlatformUndo undo.End) freezes sleeps = 4
rows_from stage.ClearsEventsCheck freezes sleeps = 3
rows_from (stage.Thaws thaw.Kernel) freezes sleeps = 3
rows_from (stage.Thaws thaw.All) freezes sleeps = 2
rows_from stage.NotifiesPost freezes sleeps = 1
rows_from stage.Ends freezes sleeps = 1
rows_from _ freezes sleeps = 0

-- ---- notifiers, processors and syscore operations

-- a thing that is done, and is to be undone, needs one entry; one that may still be done needs two (pm_notifier_call_chain,
-- syscore_suspend)
abbrev pub thing_needs : Bool → Bool → ℕ
thing_needs true ahead = 1
thing_needs false true = 2
thing_needs false false = 0

-- what the first n things need, by the flags of those that are done
abbrev pub things_need : ℕ → Bool → List Bool → ℕ
things_need n ahead flags = sum_below n (λ x. thing_needs (is_so flags x) ahead)

-- notifiers may still be called (PM_SUSPEND_PREPARE)
abbrev pub notifies_ahead : Stage → Bool
notifies_ahead stage.Notifies = true
notifies_ahead _ = false

-- the way down to the stopping of processors (freeze_secondary_cpus)
abbrev pub cpus_ahead : Stage → Bool
cpus_ahead stage.Notifies = true
cpus_ahead (stage.Freezes g) = true
cpus_ahead (stage.PlatformDo step) = true
cpus_ahead stage.Prepares = true
cpus_ahead (stage.Downs p) = true
cpus_ahead stage.StopsCpus = true
cpus_ahead _ = false

-- the way down to the suspending of syscore operations (syscore_suspend)
abbrev pub syscore_ahead : Stage → Bool
syscore_ahead stage.StopsIrqs = true
syscore_ahead stage.ChecksWakeup = true
syscore_ahead stage.StopsSyscore = true
syscore_ahead here = cpus_ahead here

-- ---- devices

-- the entries that a device may still make in a phase and its mirror (__device_suspend, device_resume)
abbrev pub state_needs : PhaseState → ℕ
state_needs state.Prepared = 6
state_needs state.Scheduled = 5
state_needs state.Suspending = 4
state_needs state.Suspended = 3
state_needs state.Rescheduled = 2
state_needs state.Resuming = 1
state_needs _ = 0

-- a prepared device is to be completed; if more may be prepared another needs all that a device does (device_prepare, device_complete)
abbrev pub prepared_needs : PhaseState → Bool → ℕ
prepared_needs state.Unprepared true = 20
prepared_needs state.Unprepared false = 0
prepared_needs _ ahead = 1

-- what a device in those states of suspend, late and noirq, and their mirrors, needs
abbrev pub device_needs : Bool → PhaseState → PhaseState → PhaseState → ℕ
device_needs ahead suspend late noirq =
    prepared_needs suspend ahead + (state_needs suspend + (state_needs late + state_needs noirq))

-- what device d needs
abbrev pub device_need : Machine → Bool → List Entry → ℕ → ℕ
device_need m ahead past d =
    device_needs ahead (state_in m past phase.Suspend d) (state_in m past phase.Late d) (state_in m past phase.Noirq d)

-- what the devices need
abbrev pub devices_need : Machine → Bool → List Entry → ℕ
devices_need m ahead past = sum_below (length m.devices) (λ d. device_need m ahead past d)

-- devices may still be prepared, by whether the phase has an error (dpm_prepare)
abbrev pub prepares_ahead : Stage → Bool → Bool
prepares_ahead stage.Notifies error = true
prepares_ahead (stage.Freezes g) error = true
prepares_ahead (stage.PlatformDo down.Begin) error = true
prepares_ahead stage.Prepares error = not error
prepares_ahead _ error = false

-- ---- the attempt

-- what an attempt at that stage may still need (enter_state)
abbrev pub needed_at : Machine → List Entry → Option Stage → ℕ
needed_at m past None = 0
needed_at m past (Some here) =
    rows_from here (is_some (freeze_since past)) (is_some (sleep_of past))
    + (things_need (length m.notifiers) (notifies_ahead here) (notified_flags m past)
    + (things_need m.cpus (cpus_ahead here) (cpus_off m.cpus past)
    + (things_need (length m.syscore) (syscore_ahead here) (stopped (length m.syscore) past)
    + devices_need m (prepares_ahead here (is_some (phase_failed past))) past)))

-- the room in the journal that the open attempt may still need: 0 if none is open (enter_state)
unfoldable pub needed : Machine → List Entry → ℕ
needed m past = needed_at m past (stage_of past)

-- room for so many entries is enough for an attempt, with the entry that begins it
abbrev pub enough : Machine → ℕ
enough m = 40 + 20 * length m.devices + 2 * (length m.notifiers + length m.syscore + m.cpus)

-- ---- the laws

-- an attempt is begun there
abbrev pub is_attempt : Kind → Bool
is_attempt (kind.Attempt n guarded) = true
is_attempt _ = false

-- if no attempt is open none is needed (own)
abbrev pub NoneNeededOutside : Type 0
NoneNeededOutside = (m : Machine) (past : List Entry) → JournalPart m past → maker past ≡ None → needed m past ≡ 0

-- an attempt that begins needs, with its first entry, no more than that
abbrev pub AttemptNeedsFew : Type 0
AttemptNeedsFew =
    (m : Machine) (past : List Entry) (e : Entry) → JournalPart m (e ∷ past) → is_attempt e.kind ≡ true
    → needed m (e ∷ past) + 1 ≤ enough m

-- each entry of the attempt's maker, or of a device, makes what is needed fall
abbrev pub OwnEntrySpends : Type 0
OwnEntrySpends =
    (m : Machine) (past : List Entry) (e : Entry) → IsAccepted m → JournalPart m (e ∷ past)
    → is_actor e.actor (maker past) ≡ true → needed m (e ∷ past) + 1 ≤ needed m past

-- the same of a device's own entry
abbrev pub DeviceEntrySpends : Type 0
DeviceEntrySpends =
    (m : Machine) (past : List Entry) (e : Entry) → JournalPart m (e ∷ past) → is_device e.actor ≡ true
    → needed m (e ∷ past) + 1 ≤ needed m past

-- an entry of anybody else, which begins no attempt, leaves it
abbrev pub OthersNeedNothing : Type 0
OthersNeedNothing =
    (m : Machine) (past : List Entry) (e : Entry) → JournalPart m (e ∷ past) → is_actor e.actor (maker past) ≡ false
    → is_device e.actor ≡ false → is_attempt e.kind ≡ false → needed m (e ∷ past) ≡ needed m past
