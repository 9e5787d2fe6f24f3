-- Proof by hand of `children_of`: the call of `dependents_of` and its loop, by the lemmas of `RowsMade`.
use Rattle.std.proofs.Common.{◌≡◌, ◌+◌, ◌++◌, ◌∷◌, [], ℕ, List, Option, None, length, take, get_or, sym, subst, arith}
use Rattle.std.proofs.lemmas.List.{take_more, length-take-le}
use Rattle.sleep_model.specs.Order.{children_from}
use Rattle.device_rows.specs.Table.{with_number}
use Rattle.link_rows.specs.Rows.{IsTableOf}
use Rattle.link_rows.proofs.RowsMade.{table_child, parent_within, weaker}
use Rattle.link_rows.proofs.rows.children_of.Goals as goal

pub dependents_of-requires : goal.dependents_of-requires
dependents_of-requires c =
    let ps = c.args.parents.now in
    let i = c.loop-number.number in
    weaker (get_or ps i None) (0 + i) (length c.loop-number.table.rows) (omega (arith, c.loop-number.invariant.count)) (parent_within 0 ps i c.requires.after c.loop-number-test.true)

pub loop-number-preserved : goal.loop-number-preserved
loop-number-preserved c =
    let ps = c.args.parents.now in
    let i = c.loop-number.number in
    let n = length ps in
    let p = get_or ps i None in
    let rows = c.loop-number.table.rows in
    let fits : length (take i ps) ≡ i = length-take-le i ps (omega arith) in
    let below = weaker p (0 + i) n (omega arith) (parent_within 0 ps i c.requires.after c.loop-number-test.true) in
    subst (λ (rs : List (List ℕ)). IsTableOf n (λ d. children_from d 0 (take (i + 1) ps)) rs) (sym c.in_ok-dependents_of.ensures)
    (subst (λ (qs : List (Option ℕ)). IsTableOf n (λ d. children_from d 0 qs) (with_number rows p i)) (sym (take_more ps i None c.loop-number-test.true))
    (subst (λ (k : ℕ). IsTableOf n (λ d. children_from d 0 (take i ps ++ p ∷ [])) (with_number rows p k)) fits
    (table_child n (take i ps) p rows c.loop-number.invariant below)))
