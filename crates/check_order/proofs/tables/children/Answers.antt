-- Proof by hand of `children`: the call of `hang` and its loop, by the lemmas of `Tabling`.
use Rattle.std.proofs.Common.{length, List, ℕ, ◌+◌, take, sym, subst}
use Rattle.sleep_model.specs.Order.{children_from}
use Rattle.check_order.specs.Graphs.{IsTableOf}
use Rattle.check_order.proofs.Tabling.{child_next, no_children, parent_below}
use Rattle.check_order.proofs.tables.children.Goals as goal

pub hang-requires : goal.hang-requires
hang-requires c = parent_below c.args.parents.now c.loop-number.number (length c.loop-number.table.rows) c.requires.after c.loop-number-test.true c.loop-number.invariant.count

pub loop-number-preserved : goal.loop-number-preserved
loop-number-preserved c =
    let ps = c.args.parents.now in
    let i = c.loop-number.number in
    subst (λ (rs : List (List ℕ)). IsTableOf (length ps) (λ d. children_from d 0 (take (i + 1) ps)) rs) (sym c.in_ok-hang.ensures)
    (child_next ps i c.loop-number.table.rows c.requires.after c.loop-number-test.true c.loop-number.invariant)

pub loop-number-init : goal.loop-number-init
loop-number-init c = no_children c.args.parents.now c.in_ok-table.table.rows c.in_ok-table.ensures
