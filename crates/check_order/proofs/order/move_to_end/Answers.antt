-- Proof by hand of `move_to_end`: what it returns, by the lemmas of `Ordering`.
use Rattle.std.proofs.Common.{◌≡◌, ◌++◌, ◌∙◌, false, length, filter, get_or, not, ap}
use Rattle.std.proofs.lemmas.Result.{IfOk-weaker}
use Rattle.device_rows.specs.Table.{row_at}
use Rattle.check_order.specs.Graphs.{moved_to_end}
use Rattle.check_order.proofs.Ordering.{after_is}
use Rattle.check_order.proofs.order.move_to_end.Goals as goal

pub returns : goal.returns
returns c =
    let t = c.args.table.now in
    let order = c.args.order.now in
    let v = c.in_ok-out.field-0 in
    let b = after_is (length t.rows) (row_at t) c.args.device order c.requires.within v c.in_ok-out.ensures in
    let devices = c.deref.ensures.value ∙ c.into_vec.ensures in
    IfOk-weaker c.with_last.result (λ w. w.items ≡ filter (λ d. not (get_or v.marks d false)) order ++ c.deref.result.now) (λ w. w.items ≡ moved_to_end (length t.rows) (row_at t) c.args.device order)
    (λ w e. e ∙ (ap (λ ds. filter (λ d. not (get_or v.marks d false)) order ++ ds) devices ∙ b))
    c.with_last.ensures
