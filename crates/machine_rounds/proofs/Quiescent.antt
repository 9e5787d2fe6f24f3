-- Who can make nothing if the run is quiescent.
use Rattle.std.proofs.Common.{◌≡◌, ◌≤◌, ◌<◌, ◌∙◌, ℕ, zero, suc, Bool, true, false, not, ◌&&◌, ◌||◌, nat_lt, length, is_some, Option, Some, None, refl, sym, ap₂, arith}
use Rattle.std.proofs.lemmas.Bool.{true≢false}
use Rattle.std.proofs.lemmas.Bool.Decides.{nat_tests}
use Rattle.sleep_model.specs.declared.entry.Actor.{Actor}
use Rattle.sleep_model.specs.declared.entry.Actor.TheVariants as actor
use Rattle.sleep_model.specs.declared.machine.Machine.{Machine}
use Rattle.sleep_model.specs.declared.word.EventNow.{EventNow}
use Rattle.sleep_model.specs.declared.progress.Work.TheVariants.{Resting}
use Rattle.sleep_model.specs.Autosleep.{is_queued, work}
use Rattle.sleep_model.specs.Calls.{calls_due}
use Rattle.sleep_model.specs.Due.{due}
use Rattle.sleep_model.specs.Legal.{is_made, is_enabled, none_enabled}
use Rattle.sleep_model.specs.Numbers.{time_of}
use Rattle.sleep_model.specs.Path.{maker}
use Rattle.sleep_model.specs.Positions.{positions, position_at}
use Rattle.sleep_state.specs.JournalRooms.{entries}
use Rattle.sleep_state.specs.Sleepers.{is_stopped, AreStopped}
use Rattle.sleep_core.specs.Cores.{IsActor}
use Rattle.sleep_core.proofs.Stopped.{still_rests, device_rests, work_waits}
use Rattle.sleep_script.proofs.Following.{all_made}
use Rattle.running_laws.specs.Running.{IsRunning, calls_made, histories}
use Rattle.running_laws.proofs.Asked.{legal_journal}
use Rattle.running_laws.proofs.Invariant.{enabled_is}
use Rattle.machine_rounds.specs.JobsOf.{AreAllJobs, JobsState, job_at, OweNone}
use Rattle.machine_rounds.specs.Runs.{IsQuiescent, IsGoingOn, RunState}
use Rattle.machine_rounds.proofs.JobsChanged.{has_job}
use Rattle.machine_rounds.proofs.Idling.{seats_len}

none_there : (o : Option Actor) → is_some o ≡ false → o ≡ None
none_there None e = refl
none_there (Some w) e = absurd (true≢false e)

-- if no job has a call to make, and no attempt is open, the run is quiescent
pub quiescent_is : (run : RunState) (jobs : JobsState) → IsRunning run.machine run.journal run.sources (job_at jobs) run.floor → AreAllJobs run.machine jobs → OweNone jobs → is_some (maker (entries run.journal)) ≡ false → IsQuiescent run
quiescent_is run jobs r all none shut = record {
  closed = none_there (maker (entries run.journal)) shut;
  made = λ who a. (all_made run.machine who (entries run.journal) (calls_made run.machine run.sources who) (job_at jobs who) (r.jobs_are who a)).0 (none who (has_job run.machine jobs who all a));
}

module _ (run : RunState) (on : IsGoingOn run) where
  abbrev m : Machine
  m = run.machine

  -- one of whom nothing is due is not enabled
  rests : IsQuiescent run → (now : EventNow) (who : Actor) → IsActor m who → is_made (due m (entries run.journal) who now) ≡ false → is_enabled m (entries run.journal) (histories run.sources) now who ≡ false
  rests quiescent now who a none =
      sym (enabled_is m run.journal run.sources on.jobs on.running now who (calls_made m run.sources who) refl)
      ∙ ap₂ (λ (x y : Bool). x || y) (let all = quiescent.made who a in let no : nat_lt (calls_made m run.sources who) (calls_due m who (entries run.journal)) ≡ false = grind (arith, nat_tests) in no) none

  -- a script that is stopped is not
  pub script_rests : IsQuiescent run → (now : EventNow) (i : ℕ) → i < length m.actors → is_stopped (position_at (positions (length m.actors) (entries run.journal)) i) (time_of (entries run.journal)) ≡ true
      → is_enabled m (entries run.journal) (histories run.sources) now (actor.Script i) ≡ false
  script_rests quiescent now i l still = rests quiescent now (actor.Script i) l (still_rests m (entries run.journal) now i (legal_journal m run.journal run.sources on.jobs on.running) quiescent.closed still)

  scripts_rest : IsQuiescent run → (now : EventNow) → AreStopped (positions (length m.actors) (entries run.journal)) (time_of (entries run.journal)) → (n : ℕ) → n ≤ length m.actors
      → none_enabled m (entries run.journal) (histories run.sources) now actor.Script n ≡ true
  scripts_rest quiescent now still zero l = refl
  scripts_rest quiescent now still (suc n) l =
      ap₂ (λ (x y : Bool). not x && y) (script_rests quiescent now n (omega (arith, l)) (still n (omega (arith, l, seats_len (length m.actors) (entries run.journal))))) (scripts_rest quiescent now still n (omega (arith, l)))

  -- no script is, if all are stopped
  pub no_script : IsQuiescent run → (now : EventNow) → AreStopped (positions (length m.actors) (entries run.journal)) (time_of (entries run.journal))
      → none_enabled m (entries run.journal) (histories run.sources) now actor.Script (length m.actors) ≡ true
  no_script quiescent now still = scripts_rest quiescent now still (length m.actors) (omega arith)

  -- nor is the autosleep work, while it rests and is not queued
  pub work_rests : IsQuiescent run → (now : EventNow) → work (entries run.journal) ≡ Resting → is_queued (entries run.journal) ≡ false → is_enabled m (entries run.journal) (histories run.sources) now actor.Auto ≡ false
  work_rests quiescent now rest unqueued = rests quiescent now actor.Auto tt (work_waits m (entries run.journal) now quiescent.closed rest unqueued)

  devices_rest : IsQuiescent run → (now : EventNow) (n : ℕ) → n ≤ length m.devices → none_enabled m (entries run.journal) (histories run.sources) now actor.Dev n ≡ true
  devices_rest quiescent now zero l = refl
  devices_rest quiescent now (suc n) l =
      ap₂ (λ (x y : Bool). not x && y)
      (rests quiescent now (actor.Dev n) (omega (arith, l)) (device_rests m (entries run.journal) now n (legal_journal m run.journal run.sources on.jobs on.running) quiescent.closed))
      (devices_rest quiescent now n (omega (arith, l)))

  -- no device is
  pub no_device : IsQuiescent run → (now : EventNow) → none_enabled m (entries run.journal) (histories run.sources) now actor.Dev (length m.devices) ≡ true
  no_device quiescent now = devices_rest quiescent now (length m.devices) (omega arith)
