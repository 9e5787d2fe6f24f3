-- Proof that `Run::look` keeps the invariant of its type.
use Rattle.machine_rounds.proofs.Turning.{looked_machine, looked_running, looked_seats, looked_table}
use Rattle.machine_rounds.proofs.run.Run.look.Goals as goal

pub invariant_of-self : goal.invariant_of-self
invariant_of-self g c =
    let r = c.self.inside in
    let k = c.self.invariant in
    let new = c.word.new.self in
    record {
      machine_is = looked_machine r k new c.word.ensures.core;
      running = looked_running r k new c.word.ensures.core;
      all_jobs = k.all_jobs;
      table = looked_table r k new c.word.ensures.table;
      seats = looked_seats r k new c.word.ensures.table c.word.ensures.sources;
    }
