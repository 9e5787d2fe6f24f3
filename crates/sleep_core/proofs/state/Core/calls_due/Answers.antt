-- Proof that `Core::calls_due` meets its contract.
use Rattle.std.proofs.Common.{◌≡◌, ◌∙◌, ◌+◌, ap, sym, subst}
use Rattle.sleep_model.specs.Calls.{calls_due}
use Rattle.sleep_state.specs.JournalRooms.{entries}
use Rattle.sleep_core.specs.Cores.{CoreState, IsActor}
use Rattle.sleep_core.specs.Reports.{reported_by, counts_of}
use Rattle.sleep_core.proofs.Calling.{script_calls_due, other_calls_due}
use Rattle.sleep_core.proofs.state.Core.calls_due.Goals as goal

pub returns-in-Script : goal.returns-in-Script
returns-in-Script c =
    let s = c.args.self.now in
    let reported : c.of-reported.result ≡ reported_by c.args.who (counts_of s.machine (entries s.past)) =
    c.of-reported.ensures.is ∙ (ap (reported_by c.args.who) c.self.invariant.reports_are ∙ ap (λ (t : CoreState). reported_by c.args.who (counts_of t.machine (entries t.past))) c.self.view_is) in
    subst (λ who. c.script_calls_due.result + c.of-reported.result ≡ calls_due s.machine who (entries s.past)) (sym c.in-Script.is)
    (script_calls_due s.machine c.in-Script.script (entries s.past) c.script_calls_due.result c.of-reported.result
    (subst (λ who. IsActor s.machine who) c.in-Script.is c.requires) c.script_calls_due.ensures
    (subst (λ who. c.of-reported.result ≡ reported_by who (counts_of s.machine (entries s.past))) c.in-Script.is reported))

pub returns-in_default : goal.returns-in_default
returns-in_default c =
    let s = c.args.self.now in
    let reported : c.of-reported.result ≡ reported_by c.args.who (counts_of s.machine (entries s.past)) =
    c.of-reported.ensures.is ∙ (ap (reported_by c.args.who) c.self.invariant.reports_are ∙ ap (λ (t : CoreState). reported_by c.args.who (counts_of t.machine (entries t.past))) c.self.view_is) in
    other_calls_due s.machine (entries s.past) c.args.who c.of-reported.result c.requires c.in_default.not-Script reported
