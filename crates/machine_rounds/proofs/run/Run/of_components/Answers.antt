-- Proof that `Run::of_components` keeps the invariant of its type.
use Rattle.std.proofs.Common.{◌∙◌, List, sym, ap, subst, arith}
use Rattle.std.proofs.lemmas.List.{length-map}
use Rattle.sleep_model.specs.declared.entry.JournalEntry.{JournalEntry}
use Rattle.sleep_core.specs.Cores.{CoreState}
use Rattle.running_laws.specs.Running.{IsRunning}
use Rattle.running_laws.proofs.Firsts.{running_first}
use Rattle.run_objects.specs.Objects.{SeatedSourceState, sources_of}
use Rattle.sleep_script.specs.Jobs.{no_stamp}
use Rattle.machine_rounds.specs.JobsOf.{AreAllJobs, JobsState, job_at}
use Rattle.machine_rounds.proofs.JobsChanged.{all_jobs_first, job_first}
use Rattle.machine_rounds.proofs.SeatedSources.{uncalled_at}
use Rattle.machine_rounds.proofs.run.Run.of_components.Goals as goal

pub invariant_of-result : goal.invariant_of-result
invariant_of-result c =
    let m = c.args.machine.now in
    let xs = c.args.sources.items in
    record {
      machine_is = ap (λ (x : CoreState). x.machine) c.requires.core;
      running =
          subst (λ (j : List JournalEntry). IsRunning m j (sources_of xs) (job_at c.args.jobs) no_stamp) (sym (ap (λ (x : CoreState). x.past) c.requires.core))
          (running_first m (sources_of xs) (omega (arith, length-map xs (λ (s : SeatedSourceState). s.source), c.requires.count, c.args.sources.ok)) (uncalled_at xs c.requires.sources) (job_at c.args.jobs) c.requires.accepted
          (λ who a. ap (λ (j : JobsState). job_at j who) c.requires.jobs ∙ job_first m who a));
      all_jobs = subst (AreAllJobs m) (sym c.requires.jobs) (all_jobs_first m);
      table = c.requires.table;
      seats = c.requires.seats.all_are;
    }
