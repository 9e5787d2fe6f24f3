-- Proof by hand of `next`: what it returns, by the lemmas of `Nexting`.
use Rattle.std.proofs.Common.{◌∙◌, ap, sym, slice_get}
use Rattle.sleep_model.specs.Calls.{calls_of_turn}
use Rattle.check_sources.specs.Calling.{CallsOf, later_at, calls_by}
use Rattle.check_sources.proofs.Nexting.{after_first_noted}
use Rattle.check_sources.proofs.callers.Callers.next.Goals as goal

pub returns-else-made-first : goal.returns-else-made-first
returns-else-made-first c =
    let m = c.args.self.now.machine in
    let st = c.args.self.now.state in
    let first = c.calls_of_turn-first.ensures ∙ ap (λ (x : CallsOf). calls_of_turn x.machine c.args.who 0) c.self.view_is in
    c.later_call.ensures
    ∙ (sym (after_first_noted c.calls_of_turn-first.result.now (calls_of_turn m c.args.who 0) (later_at m st c.args.who) c.made-made.result first c.if-made-first.false)
    ∙ ap (slice_get (calls_by m st c.args.who)) c.made-made.ensures)
