-- Proof that `Run::closed` meets its contract.
use Rattle.std.proofs.Common.{◌≡◌, ◌∙◌, List, reverse, ap, subst}
use Rattle.sleep_model.specs.declared.entry.SourceEntry.{SourceEntry}
use Rattle.event_word.specs.Seats.{looked_of}
use Rattle.run_objects.specs.Closed.{IsClosedTable, histories_of}
use Rattle.running_laws.specs.Running.{journal_histories}
use Rattle.machine_rounds.specs.declared.run.Run.TheInside.{Inside}
use Rattle.machine_rounds.specs.JobsOf.{job_at}
use Rattle.machine_rounds.specs.RunFields.{state}
use Rattle.machine_rounds.specs.Runs.{RunState}
use Rattle.machine_rounds.proofs.Fields.{goes_on}
use Rattle.machine_rounds.proofs.SeatedSources.{histories_preserved}
use Rattle.machine_rounds.proofs.run.Run.closed.Goals as goal

same : (r : Inside) (s : RunState) → state r ≡ s → histories_of r.sources.items ≡ journal_histories s.sources
same r s is = histories_preserved r.sources.items ∙ ap (λ (x : RunState). journal_histories x.sources) is

pub returns-clause-histories : goal.returns-clause-histories
returns-clause-histories c = c.in_ok-kept.ensures.histories ∙ same c.self.inside c.args.self c.self.view_is

pub returns-clause-closed_over : goal.returns-clause-closed_over
returns-clause-closed_over c =
    let r = c.self.inside in
    let s = c.args.self in
    record {
      on = record { jobs = job_at r.jobs; running = goes_on r s c.self.view_is c.self.invariant };
      closed_over =
          subst (λ (hs : List (List SourceEntry)). IsClosedTable (looked_of s.seat) (reverse s.journal) hs) (same r s c.self.view_is)
          (subst (λ (x : RunState). IsClosedTable (looked_of x.seat) (reverse x.journal) (histories_of r.sources.items)) c.self.view_is c.in_ok-kept.ensures.closed_over);
    }
