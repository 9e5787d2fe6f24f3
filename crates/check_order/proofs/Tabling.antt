-- Tables of rows, as they are made.
use Rattle.std.proofs.Common.{◌≡◌, ◌<◌, ◌≤◌, ◌+◌, ◌∙◌, ℕ, zero, suc, Bool, true, false, ◌==◌, List, [], ◌∷◌, ◌++◌, length, map, take, reverse, get_or, set, slice_get, option_to_list, replicate, Option, Some, None, IfSome, refl, sym, ap, subst, cond, arith, length-set}
use Rattle.std.specs.List.{range_with_len}
use Rattle.std.proofs.lemmas.List.{append-nil, take_more, length-take-le, length-map, length-replicate, reverse-append, get_or-set_same, get_or-set_other}
use Rattle.std.proofs.lemmas.Bool.{eqb-true, eqb-false}
use Rattle.sleep_model.specs.declared.machine.Link.{Link}
use Rattle.sleep_model.specs.Order.{children_from, dependents, superiors, parent_of, EachAfterParent}
use Rattle.sleep_model.proofs.Children.{children_push}
use Rattle.sleep_model.proofs.FirstOccurrences.{dependents_new, holding_new, holding_other}
use Rattle.sleep_model.proofs.Acyclic.{others_same}
use Rattle.sleep_model.proofs.Walks.{same_eq}
use Rattle.device_rows.specs.Table.{with_number}
use Rattle.check_order.specs.Graphs.{IsTableOf}

-- a run of numbers with one more
pub run_push : (a n : ℕ) → range_with_len a n ++ (a + n) ∷ [] ≡ range_with_len a (n + 1)
run_push a zero = let e : a + 0 ≡ a = omega arith in ap (λ k. k ∷ []) e
run_push a (suc n) = let e : a + suc n ≡ a + 1 + n = omega arith in ap (λ xs. a ∷ xs) (ap (λ k. range_with_len (a + 1) n ++ k ∷ []) e ∙ run_push (a + 1) n) ∙ ap (range_with_len a) next
  where
    next : suc (n + 1) ≡ suc n + 1
    next = omega arith

-- ---- one more number

pub same_number : (k : ℕ) → (k == k) ≡ true
same_number k = grind (arith)

-- one row is another
pub table_set : (n : ℕ) (f g : ℕ → List ℕ) (rows : List (List ℕ)) → IsTableOf n f rows → (r : ℕ) (row : List ℕ) → r < n → row ≡ g r → ((d : ℕ) → (r == d) ≡ false → g d ≡ f d) → IsTableOf n g (set rows r row)
table_set n f g rows h r row l here other = record {
  count = length-set rows r row ∙ h.count;
  each = λ d. by_test d (r == d) refl;
}
  where
    by_test : (d : ℕ) (b : Bool) → (r == d) ≡ b → get_or (set rows r row) d [] ≡ g d
    by_test d true e =
        subst (λ (k : ℕ). get_or (set rows r row) k [] ≡ g k) (eqb-true r d e)
        (get_or-set_same rows r row [] (omega (arith, h.count)) ∙ here)
    by_test d false e = get_or-set_other rows r d row [] (λ k. eqb-false r d e (sym k)) ∙ (h.each d ∙ sym (other d e))

-- one row has one more
pub table_push : (n : ℕ) (f g : ℕ → List ℕ) (rows : List (List ℕ)) → IsTableOf n f rows → (r x : ℕ) → r < n → g r ≡ f r ++ x ∷ [] → ((d : ℕ) → (r == d) ≡ false → g d ≡ f d) → IsTableOf n g (set rows r (get_or rows r [] ++ x ∷ []))
table_push n f g rows h r x l here other = table_set n f g rows h r (get_or rows r [] ++ x ∷ []) l (ap (λ xs. xs ++ x ∷ []) (h.each r) ∙ sym here) other

pub table_same : (n : ℕ) (f g : ℕ → List ℕ) (rows : List (List ℕ)) → IsTableOf n f rows → ((d : ℕ) → g d ≡ f d) → IsTableOf n g rows
table_same n f g rows h e = record { count = h.count; each = λ d. h.each d ∙ sym (e d) }

-- ---- parents

-- one more device under its parent
table_child : (n : ℕ) (ps : List (Option ℕ)) (p : Option ℕ) (rows : List (List ℕ)) → IsTableOf n (λ d. children_from d 0 ps) rows → IfSome p (λ q. q < n) → IsTableOf n (λ d. children_from d 0 (ps ++ p ∷ [])) (with_number rows p (length ps))
table_child n ps None rows h i = table_same n (λ d. children_from d 0 ps) (λ d. children_from d 0 (ps ++ None ∷ [])) rows h (λ d. children_push d 0 ps None ∙ append-nil (children_from d 0 ps))
table_child n ps (Some p) rows h i =
    table_push n (λ d. children_from d 0 ps) (λ d. children_from d 0 (ps ++ Some p ∷ [])) rows h p (length ps) i
    (children_push p 0 ps (Some p) ∙ ap (λ b. children_from p 0 ps ++ cond b ((0 + length ps) ∷ []) []) (same_eq p) ∙ ap (λ k. children_from p 0 ps ++ k ∷ []) zero_less)
    (λ d e. children_push d 0 ps (Some p) ∙ (ap (λ b. children_from d 0 ps ++ cond b ((0 + length ps) ∷ []) []) e ∙ append-nil (children_from d 0 ps)))
  where
    zero_less : 0 + length ps ≡ length ps
    zero_less = omega arith

-- a parent is registered
parent_within : (n : ℕ) (ps : List (Option ℕ)) (k m : ℕ) → EachAfterParent n ps → k < length ps → n + k ≤ m → IfSome (get_or ps k None) (λ q. q < m)
parent_within n [] k m h l i = absurd (omega arith)
parent_within n (p ∷ ps) zero m h l i = below p h.0
  where
    below : (q : Option ℕ) → IfSome q (λ x. x < n) → IfSome q (λ x. x < m)
    below None b = tt
    below (Some x) b = omega arith
parent_within n (p ∷ ps) (suc k) m h l i = parent_within (suc n) ps k m h.1 (omega arith) (omega arith)

pub parent_below : (ps : List (Option ℕ)) (k n : ℕ) → EachAfterParent 0 ps → k < length ps → n ≡ length ps → IfSome (get_or ps k None) (λ q. q < n)
parent_below ps k n h l e = parent_within 0 ps k n h l (omega arith)

pub child_next : (ps : List (Option ℕ)) (k : ℕ) (rows : List (List ℕ)) → EachAfterParent 0 ps → k < length ps → IsTableOf (length ps) (λ d. children_from d 0 (take k ps)) rows → IsTableOf (length ps) (λ d. children_from d 0 (take (k + 1) ps)) (with_number rows (get_or ps k None) k)
child_next ps k rows after l h =
    subst (λ (qs : List (Option ℕ)). IsTableOf (length ps) (λ d. children_from d 0 qs) (with_number rows (get_or ps k None) k)) (sym (take_more ps k None l))
    (subst (λ (j : ℕ). IsTableOf (length ps) (λ d. children_from d 0 (take k ps ++ get_or ps k None ∷ [])) (with_number rows (get_or ps k None) j)) (length-take-le k ps (omega arith))
    (table_child (length ps) (take k ps) (get_or ps k None) rows h (parent_below ps k (length ps) after l refl)))

-- no row has anything
pub empty_rows : (n d : ℕ) → get_or {A = List ℕ} (replicate n []) d [] ≡ []
empty_rows zero d = refl
empty_rows (suc n) zero = refl
empty_rows (suc n) (suc d) = empty_rows n d

pub no_children : (ps : List (Option ℕ)) (rows : List (List ℕ)) → rows ≡ replicate (length ps) [] → IsTableOf (length ps) (λ d. children_from d 0 (take 0 ps)) rows
no_children ps rows e = record {
  count = ap length e ∙ length-replicate (length ps) [];
  each = λ d. ap (λ rs. get_or rs d []) e ∙ empty_rows (length ps) d;
}

parent_row : (ps : List (Option ℕ)) (d : ℕ) → get_or (map option_to_list ps) d [] ≡ parent_of (slice_get ps d)
parent_row [] d = refl
parent_row (p ∷ ps) zero = refl
parent_row (p ∷ ps) (suc d) = parent_row ps d

-- ---- links

pub no_links_below : (ps : List (Option ℕ)) (rows : List (List ℕ)) → IsTableOf (length ps) (λ d. children_from d 0 ps) rows → IsTableOf (length ps) (dependents ps []) rows
no_links_below ps rows h = table_same (length ps) (λ d. children_from d 0 ps) (dependents ps []) rows h (λ d. append-nil (children_from d 0 ps))

pub no_links_above : (ps : List (Option ℕ)) (rows : List (List ℕ)) → rows ≡ map option_to_list ps → IsTableOf (length ps) (superiors ps []) rows
no_links_above ps rows e = record {
  count = ap length e ∙ length-map ps option_to_list;
  each = λ d. ap (λ rs. get_or rs d []) e ∙ (parent_row ps d ∙ sym (append-nil (parent_of (slice_get ps d))));
}

-- with one more link
pub link_below : (ps : List (Option ℕ)) → EachAfterParent 0 ps → (l : Link) (ls : List Link) (rows : List (List ℕ)) → l.supplier < length ps → IsTableOf (length ps) (dependents ps ls) rows → IsTableOf (length ps) (dependents ps (l ∷ ls)) (set rows l.supplier (get_or rows l.supplier [] ++ l.consumer ∷ []))
link_below ps after l ls rows i h =
    table_push (length ps) (dependents ps ls) (dependents ps (l ∷ ls)) rows h l.supplier l.consumer i (dependents_new ps l ls) (λ d e. others_same ps after l ls d e)

pub link_above : (ps : List (Option ℕ)) (l : Link) (ls : List Link) (rows : List (List ℕ)) → l.consumer < length ps → IsTableOf (length ps) (superiors ps ls) rows → IsTableOf (length ps) (superiors ps (l ∷ ls)) (set rows l.consumer (get_or rows l.consumer [] ++ l.supplier ∷ []))
link_above ps l ls rows i h =
    table_push (length ps) (superiors ps ls) (superiors ps (l ∷ ls)) rows h l.consumer l.supplier i (holding_new ps l ls) (λ d e. holding_other ps l ls d e)

-- the newest of the first links
pub newest : (ls : List Link) (k : ℕ) (l : Link) → k < length ls → reverse (take (k + 1) ls) ≡ get_or ls k l ∷ reverse (take k ls)
newest ls k l i = ap reverse (take_more ls k l i) ∙ reverse-append (take k ls) (get_or ls k l ∷ [])
