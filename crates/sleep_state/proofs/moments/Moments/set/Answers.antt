-- Proof that `Moments::set` meets its contract.
use Rattle.std.proofs.Common.{◌+◌, ◌∙◌, ℕ, List, drop, length, slice_set, ap, arith}
use Rattle.std.proofs.lemmas.List.{drop-set-add, length-set, with_items_is}
use Rattle.std.specs.Vec.{with_item}
use Rattle.sleep_state.proofs.moments.Moments.set.Goals as goal

pub returns : goal.returns
returns c =
    let m = c.self.inside in
    ap (λ (xs : List ℕ). drop m.many xs)
    (with_items_is (with_item m.nodes (m.many + c.args.thing) c.args.moment) c.rise.new.nodes
    (omega (arith, c.rise.ensures.size, ap (λ (xs : List ℕ). length xs) c.as_mut_slice.ensures.value, length-set m.nodes.items (m.many + c.args.thing) c.args.moment, m.nodes.ok.0)))
    ∙ (c.rise.ensures.own
    ∙ (ap (λ (xs : List ℕ). drop m.many xs) c.as_mut_slice.ensures.value
    ∙ (drop-set-add m.many m.nodes.items c.args.thing c.args.moment ∙ ap (λ (xs : List ℕ). slice_set xs c.args.thing c.args.moment) c.self.view_is)))
