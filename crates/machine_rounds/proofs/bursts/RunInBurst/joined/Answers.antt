-- Proof that `RunInBurst::joined` keeps the invariant of its type.
use Rattle.machine_rounds.proofs.bursts.RunInBurst.joined.Goals as goal

pub invariant_of-result : goal.invariant_of-result
invariant_of-result c =
    let joined = c.requires in
    record {
      machine_is = joined.machine_is;
      running = joined.running;
      all_jobs = joined.all_jobs;
      table = joined.table_is;
      seats = joined.seats;
    }
