-- The order that links leave, one link after the other.
use Rattle.std.proofs.Common.{◌≡◌, ◌<◌, ◌+◌, ◌∙◌, ℕ, true, false, not, List, [], ◌∷◌, ◌++◌, length, take, drop, reverse, filter, get_or, Option, refl, sym, ap, subst, cond}
use Rattle.std.proofs.lemmas.List.{take-append-drop, reverse-append}
use Rattle.std.proofs.lemmas.List.Elements.{filter_agree}
use Rattle.sleep_model.specs.declared.machine.Link.{Link}
use Rattle.sleep_model.specs.Order.{is_among, dependents, EachAfterParent, last_occurrences, moved, moved_last, order_by}
use Rattle.sleep_model.specs.Links.{AreLinks}
use Rattle.sleep_model.proofs.Dependents.{among_first, among_rest}
use Rattle.sleep_model.proofs.Acyclic.{among_last, dependents_within, moved_before, order_within}
use Rattle.device_rows.specs.Table.{Table, row_at}
use Rattle.check_order.specs.declared.walk.VisitedDevices.{VisitedDevices}
use Rattle.check_order.specs.Visited.{visited, AreMarked, Leaves}
use Rattle.check_order.specs.Graphs.{IsTableOf, moved_to_end, put_last}
use Rattle.check_order.proofs.Walking.{visited_is}
use Rattle.check_order.proofs.Tabling.{newest}

-- the unmarked ones are those that were not visited
pub by_marks : (n : ℕ) (v : VisitedDevices) → AreMarked n v → (xs : List ℕ) → ((d : ℕ) → is_among xs d ≡ true → d < n) → filter (λ d. not (get_or v.marks d false)) xs ≡ filter (λ d. not (is_among v.out d)) xs
by_marks n v m [] h = refl
by_marks n v m (x ∷ xs) h =
    ap (λ b. cond (not b) (x ∷ filter (λ d. not (get_or v.marks d false)) xs) (filter (λ d. not (get_or v.marks d false)) xs)) (m.marked x (h x (among_first x xs)))
    ∙ ap (λ ys. cond (not (is_among v.out x)) (x ∷ ys) ys) (by_marks n v m xs (λ d i. h d (among_rest x xs d i)))

-- what a walk leaves is what the device is moved after with
pub after_is : (n : ℕ) (dependents_of : ℕ → List ℕ) (d : ℕ) (order : List ℕ) → ((x : ℕ) → is_among order x ≡ true → x < n) → (v : VisitedDevices) → Leaves n (visited n dependents_of d []) v → filter (λ x. not (get_or v.marks x false)) order ++ v.out ≡ moved_to_end n dependents_of d order
after_is n dependents_of d order within v h =
    ap (λ xs. xs ++ v.out) (by_marks n v h.marked order within)
    ∙ ap (λ out. put_last out order) h.visited

module _ (ps : List (Option ℕ)) (after : EachAfterParent 0 ps) where
  -- the older links of those that may be added in turn
  older : (xs ys : List Link) → AreLinks ps (xs ++ ys) → AreLinks ps ys
  older [] ys h = h
  older (x ∷ xs) ys h = older xs ys h.4

  pub first_links : (ls : List Link) → AreLinks ps (reverse ls) → (k : ℕ) → AreLinks ps (reverse (take k ls))
  first_links ls h k =
      older (reverse (drop k ls)) (reverse (take k ls))
      (subst (AreLinks ps) (ap reverse (sym (take-append-drop k ls)) ∙ reverse-append (take k ls) (drop k ls)) h)

  module _ (links : List Link) (linked : AreLinks ps links) (t : Table) (h : IsTableOf (length ps) (dependents ps links) t.rows) where
    rows_are : row_at t ≡ dependents ps links
    rows_are = λ i d. h.each d i

    pub hang_within : (d x : ℕ) → is_among (row_at t d) x ≡ true → x < length t.rows
    hang_within d x m = subst (λ (n : ℕ). x < n) (sym h.count) (dependents_within ps after links linked d x (ap (λ ys. is_among ys x) (sym (h.each d)) ∙ m))

    -- a walk over the table is a walk over what depends on it
    pub table_walk : (d : ℕ) → d < length ps → visited (length t.rows) (row_at t) d [] ≡ last_occurrences (moved (length ps) (dependents ps links) d)
    table_walk d l =
        ap (λ n. visited n (row_at t) d []) h.count
        ∙ (ap (λ (f : ℕ → List ℕ). visited (length ps) f d []) rows_are
        ∙ visited_is ps after links linked d l)

  put_places : (M order : List ℕ) → put_last (last_occurrences M) order ≡ moved_last M order
  put_places M order = ap (λ xs. xs ++ last_occurrences M) (filter_agree (λ d. not (is_among (last_occurrences M) d)) (λ d. not (is_among M d)) (λ x. ap not (among_last ps after M x)) order)

  -- a link moves what depended on its consumer before
  pub order_next : (l : Link) (ls : List Link) → AreLinks ps (l ∷ ls) → (t : Table) → IsTableOf (length ps) (dependents ps ls) t.rows → moved_to_end (length t.rows) (row_at t) l.consumer (order_by ps ls) ≡ order_by ps (l ∷ ls)
  order_next l ls linked t h =
      ap (λ out. put_last out (order_by ps ls)) (table_walk ls linked.4 t h l.consumer linked.1)
      ∙ (put_places (moved (length ps) (dependents ps ls) l.consumer) (order_by ps ls)
      ∙ ap (λ (ds : List ℕ). moved_last ds (order_by ps ls)) (sym (moved_before ps after l ls linked.3)))

  -- the order has only registered devices
  pub stand_within : (ls : List Link) → AreLinks ps ls → (t : Table) → IsTableOf (length ps) (dependents ps ls) t.rows → (now : List ℕ) → now ≡ order_by ps ls → (x : ℕ) → is_among now x ≡ true → x < length t.rows
  stand_within ls linked t h now is x m = subst (λ (n : ℕ). x < n) (sym h.count) (order_within ps after ls linked x (ap (λ o. is_among o x) (sym is) ∙ m))

  -- the next link
  pub link_next : (ls : List Link) → AreLinks ps (reverse ls) → (k : ℕ) (d : Link) → k < length ls → AreLinks ps (get_or ls k d ∷ reverse (take k ls))
  link_next ls linked k d here = subst (AreLinks ps) (newest ls k d here) (first_links ls linked (k + 1))
