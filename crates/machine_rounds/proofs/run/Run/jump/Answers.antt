-- Proof that `Run::jump` keeps the invariant of its type, and that it meets what `jump` requires.
use Rattle.std.proofs.Common.{◌≡◌, ◌∙◌, List, ◌∷◌, sym, ap, subst, arith}
use Rattle.sleep_model.specs.declared.entry.Actor.TheVariants as actor
use Rattle.sleep_model.specs.declared.entry.JournalEntry.{JournalEntry}
use Rattle.sleep_model.specs.Legal.{JumpStep}
use Rattle.sleep_state.specs.JournalRooms.{entries}
use Rattle.event_word.specs.Seats.{AreAllSeats, WordToken}
use Rattle.sleep_core.specs.Cores.{CoreState, jump_entry}
use Rattle.run_objects.specs.Objects.{seats_of, sources_of}
use Rattle.running_laws.specs.Running.{IsRunning, histories}
use Rattle.running_laws.proofs.Few.{next_small, tick_small}
use Rattle.running_laws.proofs.Invariant.{last_known}
use Rattle.running_laws.proofs.Turns.{running_jump}
use Rattle.machine_rounds.specs.JobsOf.{job_at}
use Rattle.machine_rounds.specs.Runs.{IsLastLook, RunState}
use Rattle.machine_rounds.proofs.Turning.{legal_after, looked_machine, looked_running}
use Rattle.machine_rounds.proofs.run.Run.jump.Goals as goal

pub invariant_of-self : goal.invariant_of-self
invariant_of-self c =
    let r = c.self.inside in
    let k = c.self.invariant in
    let new = c.jump.new.self in
    record {
      machine_is = looked_machine r k new c.in_err-self-inside.ensures.err;
      running = looked_running r k new c.in_err-self-inside.ensures.err;
      all_jobs = k.all_jobs;
      table = ap (λ (t : WordToken). t.table_id) c.in_err-self-inside.ensures.seat ∙ k.table;
      seats = subst (λ (t : WordToken). AreAllSeats t (seats_of r.sources.items)) (sym c.in_err-self-inside.ensures.seat) k.seats;
    }

pub invariant_of-self-2 : goal.invariant_of-self-2
invariant_of-self-2 c =
    let r = c.self.inside in
    let k = c.self.invariant in
    let m = r.machine.now in
    let journal = r.seated.core.past in
    let sources = sources_of r.sources.items in
    let new = c.jump.new.self in
    let e : JournalEntry = jump_entry journal c.args.word c.args.to r.floor in
    let ok = c.in_ok-self-inside.ensures.ok in
    let step = subst (λ (x : RunState). JumpStep x.machine (entries x.journal) (histories x.sources) c.args.word c.args.to) (sym c.self.view_is) c.requires.least in
    let seen = subst (λ (x : RunState). IsLastLook x c.args.word) (sym c.self.view_is) c.requires.seen in
    let past : new.core.past ≡ e ∷ journal = ap (λ (x : CoreState). x.past) ok.1 in
    record {
      machine_is = ap (λ (x : CoreState). x.machine) ok.1 ∙ k.machine_is;
      running =
          subst (λ (p : List JournalEntry). IsRunning m p sources (job_at r.jobs) c.in_ok-self-inside.field-0) (sym past)
          (running_jump m journal sources (job_at r.jobs) k.running c.args.word c.args.to step seen.high (legal_after r k new.core e ok.1 c.in_ok-self-inside.ensures.legal)
          c.in_ok-self-inside.field-0 ok.0 c.moments_are_ranged.ensures);
      all_jobs = k.all_jobs;
      table = ap (λ (t : WordToken). t.table_id) c.in_ok-self-inside.ensures.seat ∙ k.table;
      seats = subst (λ (t : WordToken). AreAllSeats t (seats_of r.sources.items)) (sym c.in_ok-self-inside.ensures.seat) k.seats;
    }

pub jump-requires-clause-tick : goal.jump-requires-clause-tick
jump-requires-clause-tick c =
    let r = c.self.inside in
    tick_small r.machine.now r.seated.core.past (sources_of r.sources.items) (job_at r.jobs) c.self.invariant.running actor.Time

pub jump-requires-clause-last_tick : goal.jump-requires-clause-last_tick
jump-requires-clause-last_tick c =
    let r = c.self.inside in
    omega (
      arith,
      last_known r.machine.now r.seated.core.past (sources_of r.sources.items) (job_at r.jobs) c.self.invariant.running,
      tick_small r.machine.now r.seated.core.past (sources_of r.sources.items) (job_at r.jobs) c.self.invariant.running actor.Time,
    )

pub jump-requires-clause-small : goal.jump-requires-clause-small
jump-requires-clause-small c =
    let r = c.self.inside in
    let step = subst (λ (x : RunState). JumpStep x.machine (entries x.journal) (histories x.sources) c.args.word c.args.to) (sym c.self.view_is) c.requires.least in
    next_small r.machine.now r.seated.core.past (sources_of r.sources.items) (job_at r.jobs) c.self.invariant.running c.args.word c.args.to step
