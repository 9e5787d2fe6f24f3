-- The invariant of links, one of whose states is set.
use Rattle.std.proofs.Common.{◌≡◌, ◌<◌, ◌≤◌, ◌-◌, ◌∙◌, ℕ, Bool, true, false, ◌==◌, ◌&&◌, List, [], ◌∷◌, ◌++◌, length, map, reverse, take, get_or, set, slice_get, Option, Some, None, refl, sym, ap, subst, cond, arith, length-append, length-set}
use Rattle.std.proofs.lemmas.Bool.{true≢false, eqb-true, eqb-false}
use Rattle.std.proofs.lemmas.List.{length-map, reverse-append, get_or-set_same, get_or-set_other}
use Rattle.sleep_model.specs.declared.machine.Link.{Link}
use Rattle.sleep_model.specs.Links.{first_occurrences, is_linked}
use Rattle.sleep_model.specs.Order.{is_link, with_state, active_of, children_from, consumers_of, suppliers_of, parent_of, dependents, superiors}
use Rattle.sleep_model.proofs.Changing.{same_supplier, same_consumer, suppliers_preserved, dependents_preserved, links_kept, order_preserved}
use Rattle.device_rows.specs.Table.{Table, room_at}
use Rattle.link_rows.specs.Rows.{IsTableOf}
use Rattle.device_links.specs.declared.fault.LinkFault.{LinkFault}
use Rattle.device_links.specs.Adds.{AreRegistered, Lacks}
use Rattle.device_links.specs.Invariant.{LinksInvariant, IsWhole, HaveRoomForAll, active_below, active_above, numbers_of}
use Rattle.device_links.specs.Linked.{Linked}
use Rattle.device_links.specs.Passes.{AreApart}
use Rattle.device_links.proofs.Ordered.{linked_apart}
use Rattle.device_links.proofs.InPlace.{take_whole}
use Rattle.device_links.proofs.Numbering.{consumers_past, suppliers_past, numbered_preserved, supplied_count}
use Rattle.link_rows.proofs.RowsMade.{table_same}

-- the newest first, as they were
pub reversed_map : {A : Type 0} (f : A → A) (xs : List A) → reverse (map f xs) ≡ map f (reverse xs)
reversed_map f [] = refl
reversed_map {A = A} f (x ∷ xs) =
    reverse-append (f x ∷ []) (map f xs) ∙ (ap (λ ys. ys ++ f x ∷ []) (reversed_map f xs) ∙ (sym (mapped (reverse xs)) ∙ ap (map f) (sym (reverse-append (x ∷ []) xs))))
  where
    mapped : (ys : List A) → map f (ys ++ x ∷ []) ≡ map f ys ++ f x ∷ []
    mapped [] = refl
    mapped (y ∷ ys) = ap (λ zs. f y ∷ zs) (mapped ys)

-- these parents and links
abbrev pub linked : List (Option ℕ) → List Link → Linked
linked ps ls = record { parents = ps; links = ls }

-- if nothing is lacking there is that link
pub stands_then : (l : Linked) (supplier consumer : ℕ) (o : Option LinkFault) → ((x : LinkFault) → o ≡ Some x → ⊥) → Lacks l supplier consumer o → AreRegistered l supplier consumer × (is_linked l.links supplier consumer ≡ true)
stands_then l supplier consumer None f h = h
stands_then l supplier consumer (Some x) f h = absurd (f x refl)

-- the children come first in the row of what depends on a device
pub children_first : (ps : List (Option ℕ)) (ls : List Link) (d : ℕ) (row supplied : List ℕ) → row ≡ dependents ps ls d → supplied ≡ numbers_of (λ l. l.supplier == d) ls → take (length row - length supplied) row ≡ children_from d 0 ps
children_first ps ls d row supplied e f =
    ap (λ k. take k row) count ∙ (ap (take (length (children_from d 0 ps))) e ∙ take_whole (children_from d 0 ps) (consumers_of d ls) (length (children_from d 0 ps)) refl)
  where
    count : length row - length supplied ≡ length (children_from d 0 ps)
    count =
        let whole = ap length e in
        let parts = length-append (children_from d 0 ps) (consumers_of d ls) in
        let links = ap length f in
        let many = supplied_count d ls in
        omega (arith, whole, parts, links, many)

pub supplied_few : (ps : List (Option ℕ)) (ls : List Link) (d : ℕ) (row supplied : List ℕ) → row ≡ dependents ps ls d → supplied ≡ numbers_of (λ l. l.supplier == d) ls → length supplied ≤ length row
supplied_few ps ls d row supplied e f =
    let whole = ap length e in
    let parts = length-append (children_from d 0 ps) (consumers_of d ls) in
    let links = ap length f in
    let many = supplied_count d ls in
    omega (arith, whole, parts, links, many)

-- one row is made anew
table_set : (n : ℕ) (f g : ℕ → List ℕ) (rows : List (List ℕ)) → IsTableOf n f rows → (r : ℕ) → r < n → ((d : ℕ) → (r == d) ≡ false → g d ≡ f d) → IsTableOf n g (set rows r (g r))
table_set n f g rows h r l other = record {
  count = length-set rows r (g r) ∙ h.count;
  each = λ d. by_test d (r == d) refl;
}
  where
    by_test : (d : ℕ) (b : Bool) → (r == d) ≡ b → get_or (set rows r (g r)) d [] ≡ g d
    by_test d true e =
        subst (λ (k : ℕ). get_or (set rows r (g r)) k [] ≡ g k) (eqb-true r d e) (get_or-set_same rows r (g r) [] (omega (arith, h.count)))
    by_test d false e = get_or-set_other rows r d (g r) [] (λ k. eqb-false r d e (sym k)) ∙ (h.each d ∙ sym (other d e))

and_first : (a b : Bool) → (a && b) ≡ true → a ≡ true
and_first true b e = refl
and_first false b e = absurd (true≢false (sym e))

and_second : (a b : Bool) → (a && b) ≡ true → b ≡ true
and_second true b e = e
and_second false b e = absurd (true≢false (sym e))

module _ (s c : ℕ) (to : Bool) where
  -- others see the same
  consumers_other : (d : ℕ) → (s == d) ≡ false → (ls : List Link) → consumers_of d (active_of (map (with_state s c to) ls)) ≡ consumers_of d (active_of ls)
  consumers_other d apart [] = refl
  consumers_other d apart (l ∷ ls) = by_test (consumers_other d apart ls) (is_link s c l) refl
    where
      rest : List Link
      rest = active_of (map (with_state s c to) ls)

      by_state : consumers_of d (active_of (map (with_state s c to) ls)) ≡ consumers_of d (active_of ls) → (b : Bool) → consumers_of d (cond b (l ∷ active_of (map (with_state s c to) ls)) (active_of (map (with_state s c to) ls))) ≡ consumers_of d (cond b (l ∷ active_of ls) (active_of ls))
      by_state same true = ap (λ xs. xs ++ cond (l.supplier == d) (l.consumer ∷ []) []) same
      by_state same false = same

      by_test : consumers_of d (active_of (map (with_state s c to) ls)) ≡ consumers_of d (active_of ls) → (t : Bool) → is_link s c l ≡ t → consumers_of d (cond (cond t (record l { active = to }) l).active (cond t (record l { active = to }) l ∷ active_of (map (with_state s c to) ls)) (active_of (map (with_state s c to) ls))) ≡ consumers_of d (cond l.active (l ∷ active_of ls) (active_of ls))
      by_test same false e = by_state same l.active
      by_test same true e =
          let is : l.supplier ≡ s = eqb-true l.supplier s (and_first (l.supplier == s) (l.consumer == c) e) in
          let other : (l.supplier == d) ≡ false = ap (λ x. x == d) is ∙ apart in
          consumers_past d to (record l { active = to }) rest other ∙ (same ∙ sym (consumers_past d l.active l (active_of ls) other))

  suppliers_other : (d : ℕ) → (c == d) ≡ false → (ls : List Link) → suppliers_of d (active_of (map (with_state s c to) ls)) ≡ suppliers_of d (active_of ls)
  suppliers_other d apart [] = refl
  suppliers_other d apart (l ∷ ls) = by_test (suppliers_other d apart ls) (is_link s c l) refl
    where
      rest : List Link
      rest = active_of (map (with_state s c to) ls)

      by_state : suppliers_of d (active_of (map (with_state s c to) ls)) ≡ suppliers_of d (active_of ls) → (b : Bool) → suppliers_of d (cond b (l ∷ active_of (map (with_state s c to) ls)) (active_of (map (with_state s c to) ls))) ≡ suppliers_of d (cond b (l ∷ active_of ls) (active_of ls))
      by_state same true = ap (λ xs. xs ++ cond (l.consumer == d) (l.supplier ∷ []) []) same
      by_state same false = same

      by_test : suppliers_of d (active_of (map (with_state s c to) ls)) ≡ suppliers_of d (active_of ls) → (t : Bool) → is_link s c l ≡ t → suppliers_of d (cond (cond t (record l { active = to }) l).active (cond t (record l { active = to }) l ∷ active_of (map (with_state s c to) ls)) (active_of (map (with_state s c to) ls))) ≡ suppliers_of d (cond l.active (l ∷ active_of ls) (active_of ls))
      by_test same false e = by_state same l.active
      by_test same true e =
          let is : l.consumer ≡ c = eqb-true l.consumer c (and_second (l.supplier == s) (l.consumer == c) e) in
          let other : (l.consumer == d) ≡ false = ap (λ x. x == d) is ∙ apart in
          suppliers_past d to (record l { active = to }) rest other ∙ (same ∙ sym (suppliers_past d l.active l (active_of ls) other))

  module _ (ps : List (Option ℕ)) (ls : List Link) where
    dependents_same : (d : ℕ) → dependents ps (map (with_state s c to) ls) d ≡ dependents ps ls d
    dependents_same d = ap (λ (dependents_of : ℕ → List ℕ). dependents_of d) (dependents_preserved (with_state s c to) (same_supplier s c to) (same_consumer s c to) ps ls)

    holding_same : (d : ℕ) → superiors ps (map (with_state s c to) ls) d ≡ superiors ps ls d
    holding_same d = ap (λ xs. parent_of (slice_get ps d) ++ xs) (suppliers_preserved (with_state s c to) (same_supplier s c to) (same_consumer s c to) d ls)

    pub set_apart : (hangs below suppliers above : List (List ℕ)) (order : List ℕ) → LinksInvariant ps ls hangs below suppliers above order → AreApart ps (map (with_state s c to) ls)
    set_apart hangs below suppliers above order k = linked_apart ps (map (with_state s c to) ls) (links_kept (with_state s c to) (same_supplier s c to) (same_consumer s c to) ps ls k.linked)

    pub set_below : (below above : Table) → HaveRoomForAll ps ls below above → (d : ℕ) → length (dependents ps (map (with_state s c to) ls) d) ≤ room_at below d
    set_below below above h d = let e = ap length (dependents_same d) in let l = h.below d in omega (arith, e, l)

    pub set_above : (below above : Table) → HaveRoomForAll ps ls below above → (d : ℕ) → length (superiors ps (map (with_state s c to) ls) d) ≤ room_at above d
    set_above below above h d = let e = ap length (holding_same d) in let l = h.above d in omega (arith, e, l)

    -- the invariant holds if the rows of both ends are made anew
    pub whole_set : (hangs : List (List ℕ)) (below : Table) (suppliers : List (List ℕ)) (above : Table) (a b : List (List ℕ)) (order : List ℕ) → IsWhole ps ls hangs below suppliers above a b order → s < length ps → c < length ps → (below' above' : Table)
        → below'.rows ≡ set below.rows s (active_below ps (map (with_state s c to) ls) s) → ((d : ℕ) → room_at below d ≤ room_at below' d)
        → above'.rows ≡ set above.rows c (active_above ps (map (with_state s c to) ls) c) → ((d : ℕ) → room_at above d ≤ room_at above' d)
        → IsWhole ps (map (with_state s c to) ls) hangs below' suppliers above' a b order
    whole_set hangs below suppliers above a b order w sl cl below' above' br bp ar ap' = record {
      kept = record {
        numbered = w.kept.numbered;
        after = w.kept.after;
        few = omega (arith, w.kept.few, length-map ls (with_state s c to));
        linked = links_kept (with_state s c to) (same_supplier s c to) (same_consumer s c to) ps ls w.kept.linked;
        all_dependents = table_same (length ps) (dependents ps ls) (dependents ps (map (with_state s c to) ls)) hangs w.kept.all_dependents dependents_same;
        once_below =
            subst (IsTableOf (length ps) (active_below ps (map (with_state s c to) ls))) (sym br)
            (table_set (length ps) (active_below ps ls) (active_below ps (map (with_state s c to) ls)) below.rows w.kept.once_below s sl
            (λ d e. ap (λ xs. first_occurrences (children_from d 0 ps ++ xs)) (consumers_other d e ls)));
        all_suppliers = table_same (length ps) (λ d. suppliers_of d ls) (λ d. suppliers_of d (map (with_state s c to) ls)) suppliers w.kept.all_suppliers (λ d. suppliers_preserved (with_state s c to) (same_supplier s c to) (same_consumer s c to) d ls);
        once_above =
            subst (IsTableOf (length ps) (active_above ps (map (with_state s c to) ls))) (sym ar)
            (table_set (length ps) (active_above ps ls) (active_above ps (map (with_state s c to) ls)) above.rows w.kept.once_above c cl
            (λ d e. ap (λ xs. first_occurrences (parent_of (slice_get ps d) ++ xs)) (suppliers_other d e ls)));
        ordered = w.kept.ordered ∙ sym (order_preserved (with_state s c to) (same_supplier s c to) (same_consumer s c to) ps ls);
      };
      places = record {
        below = λ d. let l = set_below below above w.places d in let m = bp d in omega (arith, l, m);
        above = λ d. let l = set_above below above w.places d in let m = ap' d in omega (arith, l, m);
      };
      numbers = numbered_preserved (with_state s c to) (same_supplier s c to) (same_consumer s c to) (length ps) ls a b w.numbers;
    }
