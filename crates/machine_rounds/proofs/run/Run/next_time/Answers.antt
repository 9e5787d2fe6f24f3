-- Proof that `Run::next_time` meets its contract.
use Rattle.std.proofs.Common.{◌<◌, ◌∙◌, IfSome, Option, ℕ, sym, ap, subst}
use Rattle.sleep_model.specs.Legal.{JournalPart, journal_time, sooner}
use Rattle.sleep_model.specs.Numbers.{time_of}
use Rattle.sleep_state.specs.JournalRooms.{entries}
use Rattle.sleep_core.specs.Cores.{CoreState}
use Rattle.end_laws.proofs.Moments.{lie_ahead}
use Rattle.running_laws.specs.Running.{histories}
use Rattle.running_laws.proofs.Asked.{closes}
use Rattle.running_laws.proofs.Lists.{entries_unstamped}
use Rattle.machine_rounds.proofs.run.Run.next_time.Goals as goal

pub returns-clause-is : goal.returns-clause-is
returns-clause-is c =
    let s = c.args.self.now in
    c.sooner.ensures
    ∙ (ap (λ (o : Option ℕ). sooner o c.args.soonest) (c.next_time.ensures ∙ ap (λ (x : CoreState). journal_time x.machine (entries x.past)) c.core.ensures.is)
    ∙ ap (sooner (journal_time s.machine (entries s.journal))) c.requires)

pub returns-clause-closed : goal.returns-clause-closed
returns-clause-closed c word none rests =
    let s = c.args.self.now in
    let on = c.core.ensures.kept in
    closes s.machine s.journal s.sources on.jobs on.running word (sym (returns-clause-is c) ∙ none) rests

pub returns-clause-ahead : goal.returns-clause-ahead
returns-clause-ahead c word rests going =
    let s = c.args.self.now in
    let legal = subst (JournalPart s.machine) (sym (entries_unstamped s.journal)) c.core.ensures.kept.running.invariant.of_journal in
    subst (λ (o : Option ℕ). IfSome o (λ at. time_of (entries s.journal) < at)) (sym (returns-clause-is c)) (lie_ahead s.machine (entries s.journal) (histories s.sources) word legal rests going)
