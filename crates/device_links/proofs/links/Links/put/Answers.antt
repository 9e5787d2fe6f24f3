-- Proof by hand of `put`: the invariants of its types, by the lemmas of `Invariant` and `Numbering`.
use Rattle.std.proofs.Common.{◌≡◌, ◌≤◌, ℕ, List, arith, ◌++◌, ◌∷◌, ◌∙◌, [], Some, length, cond, reverse, ap, sym, subst, refl}
use Rattle.std.specs.Prelude.{slice_index_or}
use Rattle.std.proofs.lemmas.List.{length-reverse, reverse-append}
use Rattle.sleep_model.specs.declared.machine.Link.{Link}
use Rattle.sleep_model.specs.Order.{dependents, superiors, order_by}
use Rattle.device_rows.specs.Table.{with_number, room_at}
use Rattle.link_rows.specs.Rows.{is_left_out}
use Rattle.device_links.specs.Linked.{Linked}
use Rattle.device_links.specs.Moves.{LeavesOrder, after_move}
use Rattle.device_links.specs.Adds.{IsOpen}
use Rattle.device_links.specs.Invariant.{HaveRoomForAll, AreNumbered}
use Rattle.device_links.proofs.Invariant.{preserved_more, kept_as, room_more, dependents_count, holding_count}
use Rattle.device_links.proofs.Numbering.{numbered_more}
use Rattle.device_links.proofs.links.Links.put.Goals as goal

pub invariant_of-self-2 : goal.invariant_of-self-2
invariant_of-self-2 c =
    let old = c.self.inside in
    let ps = old.parents.items in
    let ls = reverse old.links.items in
    let l = c.args.link in
    let s = l.supplier in
    let d = l.consumer in
    let k = c.self.invariant.kept in
    let open' = subst (λ (v : Linked). IsOpen v s d) (sym c.self.view_is) c.requires.open in
    let leaves = subst (λ (v : Linked). LeavesOrder v l (after_move c.args.moved (order_by v.parents v.links))) (sym c.self.view_is) c.requires.leaves in
    let left_out = c.is_left_out-left_out.result in
    let is : left_out ≡ is_left_out ps l = c.is_left_out-left_out.ensures ∙ ap (λ qs. is_left_out qs l) c.deref.ensures.value in
    let links : reverse c.push-3.new.self.items ≡ l ∷ ls = ap reverse (c.in-Ok.ensures.items ∙ ap (λ xs. xs ++ l ∷ []) c.make_room.ensures.links) ∙ reverse-append old.links.items (l ∷ []) in
    let same = c.make_room.ensures.tables in
    let put = c.push.ensures in
    let hangs = put.dependents ∙ ap (λ r. with_number r (Some s) d) same.dependents in
    let below = put.below ∙ ap (λ r. cond left_out r (with_number r (Some s) d)) same.below in
    let suppliers = put.suppliers ∙ ap (λ r. with_number r (Some d) s) same.suppliers in
    let above = put.above ∙ ap (λ r. cond left_out r (with_number r (Some d) s)) same.above in
    let order = c.take_order.ensures ∙ ap (after_move c.args.moved) k.ordered in
    let seen = c.push.new.self.below in
    let seen' = c.push.new.self.above in
    let more_below : (x : ℕ) → room_at old.tables.below x ≤ room_at seen x = λ x. let p = same.places_below x in let q = put.places_below x in omega (arith, p, q) in
    let more_above : (x : ℕ) → room_at old.tables.above x ≤ room_at seen' x = λ x. let p = same.places_above x in let q = put.places_above x in omega (arith, p, q) in
    let fits_below : length (dependents ps (l ∷ ls) s) ≤ room_at seen s =
    let p = c.in_ok-make_room.ensures.room.most_below in let q = put.places_below s in let n = ap (λ r. length (slice_index_or r s [])) same.dependents in let e = ap length (k.all_dependents.each s) in let m = dependents_count ps l ls in
    omega (arith, p, q, n, e, m) in
    let fits_above : length (superiors ps (l ∷ ls) d) ≤ room_at seen' d =
    let p = c.in_ok-make_room.ensures.room.most_above in let q = put.places_above d in let n = ap (λ r. length (slice_index_or r d [])) same.suppliers in let e = ap length (k.all_suppliers.each d) in let m = holding_count ps l ls in
    omega (arith, p, q, n, e, m) in
    let places : HaveRoomForAll ps (reverse c.push-3.new.self.items) seen seen' =
    subst (λ (x : List Link). HaveRoomForAll ps x seen seen') (sym links) (room_more ps k.after l ls old.tables.below old.tables.above seen seen' c.self.invariant.places more_below fits_below more_above fits_above) in
    let n = c.len.result in
    let count : n ≡ length ls = let a = c.len.ensures in let b = length-reverse old.links.items in let e = ap length c.make_room.ensures.links in let g = c.make_room.new.links.ok.0 in omega (arith, a, b, e, g) in
    let supplied = c.push-2.ensures.by_supplier ∙ ap (λ r. with_number r (Some s) n) c.make_room.ensures.by_supplier in
    let consumed = c.push-2.ensures.by_consumer ∙ ap (λ r. with_number r (Some d) n) c.make_room.ensures.by_consumer in
    let told = c.push-2.new.self in
    let numbers : AreNumbered (length ps) (reverse c.push-3.new.self.items) told.by_supplier.rows told.by_consumer.rows =
    subst (λ (x : List Link). AreNumbered (length ps) x told.by_supplier.rows told.by_consumer.rows) (sym links)
    (subst (λ (r : List (List ℕ)). AreNumbered (length ps) (l ∷ ls) r told.by_consumer.rows) (sym supplied)
    (subst (λ (r : List (List ℕ)). AreNumbered (length ps) (l ∷ ls) (with_number old.numbers.by_supplier.rows (Some s) n) r) (sym consumed)
    (numbered_more (length ps) l ls n old.numbers.by_supplier.rows old.numbers.by_consumer.rows c.self.invariant.numbers open'.stand.0 open'.stand.1 count))) in
    record {
      kept = kept_as refl (sym links) (sym hangs) (sym below) (sym suppliers) (sym above) (sym order) (preserved_more ps ls old.tables.dependents.rows old.tables.below.rows old.tables.suppliers.rows old.tables.above.rows old.order.items k l open' leaves.missing (after_move c.args.moved (order_by ps ls)) leaves.ordered left_out is);
      places = places;
      numbers = numbers;
    }
