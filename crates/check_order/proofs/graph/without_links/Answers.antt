-- Proof by hand of `without_links`: the invariants of its types, by the lemmas of `Making` and `Tying`.
use Rattle.std.proofs.Common.{[], List, Option, ℕ, reverse, refl, ap, sym, subst}
use Rattle.check_order.specs.Graphs.{IsMade}
use Rattle.check_order.proofs.Making.{made_as, made_none}
use Rattle.check_order.proofs.Tying.{graph}
use Rattle.check_order.proofs.graph.without_links.Goals as goal

pub invariant_of-result : goal.invariant_of-result
invariant_of-result c =
    let order = c.in-Ok-registered.order.items in
    let hanging = c.in_ok-hanging.hanging.rows in
    let supplied = c.in-Ok-with_rows.supplied.rows in
    let consumed = c.in-Ok-with_rows-2.consumed.rows in
    let made = made_none c.args.parents.now hanging supplied consumed c.in-Ok.below c.in-Ok-of_parents.above order c.requires.numbered c.requires.after c.in_ok-hanging.ensures c.in-Ok-with_rows.ensures c.in-Ok-with_rows-2.ensures c.in-Ok.ensures c.in-Ok-of_parents.ensures c.in-Ok-registered.ensures in
    made_as order (sym (ap reverse c.new.ensures.items)) refl refl refl refl refl
    (subst (λ (ps : List (Option ℕ)). IsMade (graph ps []) hanging supplied consumed c.in-Ok.below c.in-Ok-of_parents.above order) (sym c.in-Ok-from_slice.ensures.items) made)
