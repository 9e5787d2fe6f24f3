-- The phases of devices: who is next, what has to wait, and what callbacks answer (drivers/base/power/main.c).
use Rattle.std.specs.Prelude.{◌≡◌, ℕ, ℤ, Bool, true, false, ◌&&◌, ◌||◌, List, Option, Some, None, is_some, is_none}
use Rattle.sleep_base.specs.declared.errno.Errno.{Errno}
use Rattle.sleep_model.specs.declared.entry.Entry.{Entry}
use Rattle.sleep_model.specs.declared.entry.Kind.{Kind}
use Rattle.sleep_model.specs.declared.entry.Kind.TheVariants as kind
use Rattle.sleep_model.specs.declared.machine.Machine.{Machine}
use Rattle.sleep_model.specs.declared.machine.What.TheVariants as what
use Rattle.sleep_model.specs.declared.progress.Callback.{Callback}
use Rattle.sleep_model.specs.declared.progress.Stage.{Stage}
use Rattle.sleep_model.specs.declared.progress.Stage.TheVariants as stage
use Rattle.sleep_model.specs.declared.progress.PhaseState.TheVariants as state
use Rattle.sleep_model.specs.declared.word.EventNow.{EventNow}
use Rattle.phase_table.specs.declared.phase.Phase.{Phase}
use Rattle.phase_table.specs.declared.phase.Phase.TheVariants as phase
use Rattle.phase_table.specs.Phases.{is_down, mirror}
use Rattle.sleep_model.specs.Answers.{answer, answer_number}
use Rattle.sleep_model.specs.Devices.{async_work, callback, device_error, phase_failed, is_async_device, state_in, waits_above, waits_down, waits_up, next_down, next_to_schedule, next_up, next_prepared, next_completed}
use Rattle.sleep_model.specs.Path.{attempts}
use Rattle.rule_definitions.specs.Questions.{row_now, turn_of}
use Rattle.rule_definitions.specs.Skip.{IsNextDown, IsScheduledDown}
use Rattle.sleep_model.specs.declared.entry.Actor.{Actor}
use Rattle.sleep_model.specs.declared.entry.Actor.TheVariants as actor
use Rattle.sleep_model.specs.declared.progress.AsyncWork.{AsyncWork}
use Rattle.sleep_model.specs.declared.progress.AsyncWork.TheVariants.{Inside}
use Rattle.sleep_model.specs.Legal.{IsOwnTurn, IsOwnCall}
use Rattle.sleep_model.specs.Numbers.{numbers}
use Rattle.sleep_model.specs.EntryClasses.{EntryClass, OfJournal, Notes, Moves, OfTime, journal}
use Rattle.sleep_model.specs.Sources.{history}
use Rattle.rule_definitions.specs.Questions.{is_maker}
use Rattle.rule_definitions.specs.Steps.{is_inside}

-- ---- prepare and complete

-- while prepare is under way and there is no error the next device is prepared, and answers what the machine answers (dpm_prepare,
-- device_prepare)
abbrev pub PreparesAt : Machine → List Entry → ℕ → ℤ → Option Stage → Type 0
PreparesAt m past d r (Some stage.Prepares) =
    (phase_failed past ≡ None) × (next_prepared m past ≡ Some d)
    × (r ≡ answer_number (answer m (what.Device d phase.Prepare) (attempts past)))
PreparesAt m past d r _ = ⊥

-- while complete is under way the last prepared device is completed (dpm_complete)
abbrev pub CompletesAt : Machine → List Entry → ℕ → Option Stage → Type 0
CompletesAt m past d (Some stage.Completes) = next_completed m past ≡ Some d
CompletesAt m past d _ = ⊥

-- ---- a device is scheduled

-- a phase on the way down schedules the device that is next, if it is asynchronous; one on the way up each of those that are down, first of
-- all (dpm_suspend, dpm_resume, dpm_async_fn)
abbrev pub SchedulesAt : Machine → List Entry → Phase → ℕ → Option Stage → Type 0
SchedulesAt m past p d (Some (stage.Downs q)) =
    (p ≡ q) × (callback past ≡ None) × (phase_failed past ≡ None) × (next_down m past q ≡ Some d) × (is_async_device m d ≡ true)
SchedulesAt m past p d (Some (stage.Ups q)) = (p ≡ q) × (callback past ≡ None) × (next_to_schedule m past (mirror q) ≡ Some d)
SchedulesAt m past p d _ = ⊥

-- ---- a callback begins

-- an asynchronous device that was scheduled begins once all below it are done, or all above it are up (async_suspend, async_resume)
abbrev pub BeginsAsync : Machine → List Entry → EventNow → Phase → ℕ → Bool → Type 0
BeginsAsync m past now p d true = IsScheduledDown m past p d × (turn_of m past now p d ≡ kind.Begin p d)
BeginsAsync m past now p d false = (state_in m past (mirror p) d ≡ state.Rescheduled) × (waits_above m past (mirror p) d ≡ None)

-- the walk up is at device d: no callback runs, none is left to be scheduled, d is the first that is down, and all above it are up
-- (dpm_resume, dpm_wait_for_superior)
pub record IsNextUp (m : Machine) (past : List Entry) (p : Phase) (d : ℕ) : Type 0 where
  pub free : callback past ≡ None
  pub scheduled : next_to_schedule m past p ≡ None
  pub next : next_up m past p ≡ Some d
  pub waits : waits_above m past p d ≡ None

-- a synchronous device begins if the walk is at it, and nothing passes it over (dpm_suspend, dpm_resume)
abbrev pub BeginsAt : Machine → List Entry → EventNow → Phase → ℕ → Option Stage → Type 0
BeginsAt m past now p d (Some (stage.Downs q)) = (p ≡ q) × IsNextDown m past q d × (turn_of m past now q d ≡ kind.Begin q d)
BeginsAt m past now p d (Some (stage.Ups q)) = (p ≡ q) × IsNextUp m past (mirror q) d
BeginsAt m past now p d _ = ⊥

-- by whether the device is asynchronous (dpm_async_fn)
abbrev pub BeginsBy : Machine → List Entry → EventNow → Phase → ℕ → Bool → Option Stage → Type 0
BeginsBy m past now p d true row = BeginsAsync m past now p d (is_down p)
BeginsBy m past now p d false row = BeginsAt m past now p d row

-- ---- a callback ends

-- an asynchronous device ends if it is inside its callback (async_suspend, async_resume)
abbrev pub EndsAsync : Machine → List Entry → Phase → ℕ → Bool → Type 0
EndsAsync m past p d true = state_in m past p d ≡ state.Suspending
EndsAsync m past p d false = state_in m past (mirror p) d ≡ state.Resuming

-- the maker is inside the callback of that device (dpm_run_callback)
abbrev pub IsInside : ℕ → Option Callback → Type 0
IsInside d None = ⊥
IsInside d (Some c) = d ≡ c.device

-- a synchronous device ends if the walk is inside its callback (dpm_run_callback)
abbrev pub EndsAt : List Entry → Phase → ℕ → Option Stage → Type 0
EndsAt past p d (Some (stage.Downs q)) = (p ≡ q) × IsInside d (callback past)
EndsAt past p d (Some (stage.Ups q)) = (p ≡ q) × IsInside d (callback past)
EndsAt past p d _ = ⊥

-- by whether the device is asynchronous (dpm_async_fn)
abbrev pub EndsBy : Machine → List Entry → Phase → ℕ → Bool → Option Stage → Type 0
EndsBy m past p d true row = EndsAsync m past p d (is_down p)
EndsBy m past p d false row = EndsAt past p d row

-- ---- a phase is done

-- no device is left, or an error ends the phase early (dpm_suspend, dpm_prepare)
abbrev pub is_done : Option Errno → Option ℕ → Bool
is_done error next = is_some error || is_none next

-- a phase on the way down is done if no callback runs, none that was scheduled is under way, and the walk is done (dpm_suspend,
-- async_synchronize_full)
pub record IsDownDone (m : Machine) (past : List Entry) (p : Phase) : Type 0 where
  pub free : callback past ≡ None
  pub waits : waits_down m past p ≡ None
  pub through : is_done (phase_failed past) (next_down m past p) ≡ true

-- a phase on the way up, whose mirror is p, is done if no callback runs and all are up (dpm_resume, async_synchronize_full)
pub record IsUpDone (m : Machine) (past : List Entry) (p : Phase) : Type 0 where
  pub free : callback past ≡ None
  pub scheduled : next_to_schedule m past p ≡ None
  pub next : next_up m past p ≡ None
  pub waits : waits_up m past p ≡ None

-- the phase under way is done (dpm_prepare, dpm_suspend, dpm_resume, dpm_complete)
abbrev pub DoneAt : Machine → List Entry → Phase → Option Stage → Type 0
DoneAt m past p (Some stage.Prepares) = (p ≡ phase.Prepare) × (is_done (phase_failed past) (next_prepared m past) ≡ true)
DoneAt m past p (Some (stage.Downs q)) = (p ≡ q) × IsDownDone m past q
DoneAt m past p (Some (stage.Ups q)) = (p ≡ q) × IsUpDone m past (mirror q)
DoneAt m past p (Some stage.Completes) = (p ≡ phase.Complete) × (next_completed m past ≡ None)
DoneAt m past p _ = ⊥

-- ---- all

-- devices are taken in order, each after those that it waits for, while their phase is under way, and answer what the machine answers
-- (drivers/base/power/main.c)
abbrev pub KeepsWalk : Machine → List Entry → EventNow → Kind → Type 0
KeepsWalk m past now (kind.Prepare d r) = PreparesAt m past d r (row_now m past)
KeepsWalk m past now (kind.Complete d) = CompletesAt m past d (row_now m past)
KeepsWalk m past now (kind.Schedule p d) = SchedulesAt m past p d (row_now m past)
KeepsWalk m past now (kind.Begin p d) = BeginsBy m past now p d (is_async_device m d) (row_now m past)
KeepsWalk m past now (kind.End p d r) = EndsBy m past p d (is_async_device m d) (row_now m past) × (r ≡ device_error m past p d)
KeepsWalk m past now (kind.Done p r) = DoneAt m past p (row_now m past)
KeepsWalk m past now _ = Unit {0}

-- ---- among all entries

-- inside a callback of its own (async_suspend, async_resume)
abbrev pub is_inside_work : AsyncWork → Bool
is_inside_work (Inside p) = true
is_inside_work _ = false

-- the actor is inside a device's callback: an asynchronous device in its own, who makes the attempt in that of the walk (dpm_run_callback)
abbrev pub is_in_callback : Machine → List Entry → Actor → Bool
is_in_callback m past (actor.Dev d) = is_inside_work (async_work m past d)
is_in_callback m past who = is_maker past who && is_some (callback past)

-- a callback ends once its reports are made (pm_wakeup_event in a callback)
abbrev pub ReportsMade : Machine → List Entry → Actor → Kind → Type 0
ReportsMade m past who (kind.End p d r) = IsOwnTurn m (journal past) (λ s. history s past) who
ReportsMade m past who _ = Unit {0}

-- it is the device whose callback the actor is inside: an asynchronous device itself, for anybody else the one that the walk is inside
-- (dpm_run_callback)
abbrev pub IsOwnCallback : List Entry → Actor → ℕ → Type 0
IsOwnCallback past (actor.Dev d) e = e ≡ d
IsOwnCallback past who e = IsInside e (callback past)

-- the end of that callback (dpm_run_callback)
abbrev pub EndsOwn : List Entry → Actor → Kind → Type 0
EndsOwn past who (kind.End p e r) = IsOwnCallback past who e
EndsOwn past who _ = ⊥

-- devices are taken in order and answer what the machine answers; inside a callback its maker makes its reports in order, with their steps,
-- then its end, and nothing else (drivers/base/power/main.c)
abbrev pub WalkEntry : Machine → List Entry → Entry → EntryClass → Type 0
WalkEntry m past e OfJournal =
    KeepsWalk m (journal past) (numbers past) e.kind × ReportsMade m past e.actor e.kind
    × (is_in_callback m (journal past) e.actor ≡ true → EndsOwn (journal past) e.actor e.kind)
WalkEntry m past e (Notes s call) =
    is_in_callback m (journal past) e.actor ≡ true → IsOwnCall m (journal past) (λ t. history t past) e.actor e.kind
WalkEntry m past e (Moves s step) = is_in_callback m (journal past) e.actor ≡ true → is_inside (history s past) e.actor ≡ true
WalkEntry m past e OfTime = is_in_callback m (journal past) e.actor ≡ false
