-- Proof that `close_table` meets its contract.
use Rattle.std.proofs.Common.{◌++◌, [], ◌∷◌, subst}
use Rattle.event_word.specs.Histories.{AreClosed}
use Rattle.event_word.specs.Lists.{looked_lists, made_lists}
use Rattle.event_word.specs.Seats.{WordToken, looked_of}
use Rattle.run_objects.proofs.Laying.{closed_over}
use Rattle.run_objects.proofs.closing.close_table.Goals as goal

pub returns-clause-closed_over : goal.returns-clause-closed_over
returns-clause-closed_over c =
    let parts = c.into_components-look.ensures in
    let seats = c.in_ok-seats.seats.items in
    closed_over seats c.args.sources.items (looked_of c.args.machine.seat) c.args.machine.core.past c.in_ok-close.field-0 c.in_ok-seats.ensures.seats c.in_ok-seats.ensures.kept
    parts.kept.seen c.requires.kept
    (subst (λ (t : WordToken). AreClosed (made_lists seats) (looked_lists seats ++ looked_of t ∷ []) c.in_ok-close.field-0) parts.seat c.in_ok-close.ensures.closed)
