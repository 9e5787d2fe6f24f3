-- Proof that `Run::make_own` keeps the invariant of its type, and that it meets what `told_core` requires.
use Rattle.std.proofs.Common.{◌≡◌, ◌∙◌, length, true, sym, ap, subst, arith}
use Rattle.sleep_model.specs.Fits.{is_word64}
use Rattle.sleep_model.specs.Numbers.{time_of}
use Rattle.sleep_model.specs.Path.{attempts}
use Rattle.sleep_state.specs.JournalRooms.{entries}
use Rattle.event_word.specs.Seats.{AreAllSeats, WordToken}
use Rattle.sleep_core.specs.Cores.{CoreState, IsActor}
use Rattle.sleep_script.specs.Jobs.{after_turn}
use Rattle.run_objects.specs.Objects.{seats_of}
use Rattle.machine_rounds.specs.JobsOf.{AreAllJobs, job_at}
use Rattle.machine_rounds.specs.Runs.{IsLastLook, RunState}
use Rattle.machine_rounds.specs.Tries.{HasCalled}
use Rattle.machine_rounds.proofs.JobsChanged.{all_jobs_with}
use Rattle.machine_rounds.proofs.Turning.{few_turns, looked_machine, looked_running, running_after}
use Rattle.machine_rounds.proofs.run.Run.make_own.Goals as goal

pub told_core-requires-clause-few : goal.told_core-requires-clause-few
told_core-requires-clause-few g c =
    let r = c.self.inside in
    omega (
      arith,
      few_turns r c.self.invariant c.args.who (subst (λ (x : RunState). IsActor x.machine c.args.who) (sym c.self.view_is) c.requires.actor),
      c.len-made.ensures.small,
      ap (λ (x : CoreState). length x.past) c.core.ensures.is,
      ap (λ (x : RunState). length x.journal) c.self.view_is,
    )

pub invariant_of-self : goal.invariant_of-self
invariant_of-self g c =
    let r = c.self.inside in
    let k = c.self.invariant in
    let new = c.make_own.new.self in
    record {
      machine_is = looked_machine r k new c.in_err-stamp.ensures.err;
      running = looked_running r k new c.in_err-stamp.ensures.err;
      all_jobs = k.all_jobs;
      table = ap (λ (t : WordToken). t.table_id) c.in_err-stamp.ensures.seat ∙ k.table;
      seats = subst (λ (t : WordToken). AreAllSeats t (seats_of r.sources.items)) (sym c.in_err-stamp.ensures.seat) k.seats;
    }

pub invariant_of-self-2 : goal.invariant_of-self-2
invariant_of-self-2 g c =
    let r = c.self.inside in
    let k = c.self.invariant in
    let who = c.args.who in
    let word = c.args.word in
    let kind = c.args.kind in
    let did = c.in_ok-stamp.ensures.ok in
    let stamp = c.in_ok-stamp.stamp in
    let attempt = c.attempts-attempt.result in
    let timed : is_word64 (time_of (entries r.seated.core.past)) ≡ true =
    ap is_word64 (ap (λ (x : RunState). time_of (entries x.journal)) c.self.view_is ∙ (sym (ap (λ (x : CoreState). time_of (entries x.past)) c.core-2.ensures.is) ∙ sym c.time.ensures.time)) ∙ c.moments_are_ranged.ensures in
    record {
      machine_is = ap (λ (x : CoreState). x.machine) did.1 ∙ k.machine_is;
      running =
          running_after r k who word kind
          (subst (λ (x : RunState). IsActor x.machine who) (sym c.self.view_is) c.requires.actor)
          (subst (λ (x : RunState). HasCalled x who) (sym c.self.view_is) c.requires.calls)
          (subst (λ (x : RunState). IsLastLook x word) (sym c.self.view_is) c.requires.seen).high
          c.make_own.new.self.core did.1 c.in_ok-stamp.ensures.legal stamp did.0 attempt
          (c.attempts-attempt.ensures.is ∙ ap (λ (x : CoreState). attempts (entries x.past)) c.core-3.ensures.is)
          c.told_core.new.self c.told_core.ensures timed c.kinds_are_ranged.ensures;
      all_jobs = subst (AreAllJobs r.machine.now) (sym c.told_core.ensures) (all_jobs_with r.machine.now r.jobs who (after_turn stamp kind attempt (job_at r.jobs who)) k.all_jobs);
      table = ap (λ (t : WordToken). t.table_id) c.in_ok-stamp.ensures.seat ∙ k.table;
      seats = subst (λ (t : WordToken). AreAllSeats t (seats_of r.sources.items)) (sym c.in_ok-stamp.ensures.seat) k.seats;
    }
