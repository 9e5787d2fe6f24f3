-- Proof by hand of `visit`: the call of `visit`, by the lemmas of `Walking`.
use Rattle.std.proofs.Common.{◌≡◌, ◌<◌, ◌-◌, ◌∙◌, ℕ, length, get_or, ap, sym, subst, arith, true}
use Rattle.sleep_model.specs.Order.{is_among}
use Rattle.device_rows.specs.Table.{row_at}
use Rattle.check_order.proofs.Walking.{among_at, marked_as}
use Rattle.check_order.proofs.walk.+visit.Goals as goal

pub visit-requires : goal.visit-requires
visit-requires t c =
    let n = length c.args.visits.now.marks in
    let m = c.loop-i.invariant.marked in
    let row = c.row-row.result.now in
    let k = c.loop-i.i - 1 in
    let x = get_or row k 0 in
    let within : k < length row = omega arith in
    let is_among_links : is_among (row_at c.args.table.now c.args.device) x ≡ true = ap (λ xs. is_among xs x) (sym c.row-row.ensures) ∙ among_at row k within in (
      omega arith,
      (
        (λ d y i. subst (λ (j : ℕ). y < j) (sym m.count) (c.requires.within d y i)),
        (marked_as n c.loop-i.visits m, subst (λ (j : ℕ). x < j) (sym m.count) (c.requires.within c.args.device x is_among_links)),
      ),
    )
