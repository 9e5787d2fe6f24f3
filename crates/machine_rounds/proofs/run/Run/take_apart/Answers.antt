-- Proof that `Run::take_apart` meets its contract.
use Rattle.std.proofs.Common.{◌≡◌, ◌+◌, ◌∙◌, ℕ, length, sym, ap, arith}
use Rattle.std.proofs.lemmas.List.{length-map}
use Rattle.run_objects.specs.Objects.{SeatedSourceState}
use Rattle.machine_rounds.specs.Runs.{RunState, entries_made}
use Rattle.machine_rounds.specs.TasksOf.{all_tasks}
use Rattle.machine_rounds.proofs.run.Run.take_apart.Goals as goal

pub returns-clause-during : goal.returns-clause-during
returns-clause-during c =
    let r = c.self.inside in
    let k = c.self.invariant in
    let count : length r.sources.items ≡ length r.machine.now.sources + 1 = sym (length-map r.sources.items (λ (s : SeatedSourceState). s.source)) ∙ k.running.sources_are.count in
    let many : c.len.result ≡ length r.machine.now.sources + 1 = omega (arith, c.len.ensures, count) in
    record {
      jobs = r.jobs;
      all_jobs = k.all_jobs;
      machine_is = k.machine_is;
      running = k.running;
      tasks_are = c.in-Ok.ensures ∙ ap (λ (n : ℕ). all_tasks r.floor n r.jobs) many;
      few = omega (arith, c.requires, ap (λ (s : RunState). length s.journal) c.self.view_is);
      table_is = k.table;
      seats = k.seats;
    }

pub returns-clause-entries : goal.returns-clause-entries
returns-clause-entries c = ap entries_made c.self.view_is
