-- Tables of rows, as they are made and grow.
use Rattle.std.proofs.Common.{◌≡◌, ◌<◌, ◌≤◌, ◌+◌, ◌∙◌, ℕ, zero, suc, Bool, true, false, ◌==◌, List, [], ◌∷◌, ◌++◌, length, map, get_or, set, slice_get, option_to_list, replicate, Option, Some, None, IfSome, refl, sym, ap, subst, cond, arith, length-set}
use Rattle.std.specs.List.{list_any}
use Rattle.std.proofs.lemmas.List.{append-nil, get_or-set_same, get_or-set_other}
use Rattle.std.proofs.lemmas.Bool.{eqb-true, eqb-false}
use Rattle.sleep_model.specs.declared.machine.Link.{Link}
use Rattle.sleep_model.specs.Order.{children_from, suppliers_of, parent_of, EachAfterParent}
use Rattle.sleep_model.specs.Links.{is_linked}
use Rattle.sleep_model.proofs.Children.{children_push}
use Rattle.sleep_model.proofs.FirstOccurrences.{list_any_among, suppliers_linked}
use Rattle.device_rows.specs.Table.{with_number}
use Rattle.link_rows.specs.Rows.{IsTableOf}

-- one row has one more
pub table_push : (n : ℕ) (f g : ℕ → List ℕ) (rows : List (List ℕ)) → IsTableOf n f rows → (r x : ℕ) → r < n → g r ≡ f r ++ x ∷ [] → ((d : ℕ) → (r == d) ≡ false → g d ≡ f d) → IsTableOf n g (set rows r (get_or rows r [] ++ x ∷ []))
table_push n f g rows h r x l here other = record {
  count = length-set rows r (get_or rows r [] ++ x ∷ []) ∙ h.count;
  each = λ d. by_test d (r == d) refl;
}
  where
    by_test : (d : ℕ) (b : Bool) → (r == d) ≡ b → get_or (set rows r (get_or rows r [] ++ x ∷ [])) d [] ≡ g d
    by_test d true e =
        subst (λ (k : ℕ). get_or (set rows r (get_or rows r [] ++ x ∷ [])) k [] ≡ g k) (eqb-true r d e)
        (get_or-set_same rows r (get_or rows r [] ++ x ∷ []) [] (omega (arith, h.count)) ∙ (ap (λ xs. xs ++ x ∷ []) (h.each r) ∙ sym here))
    by_test d false e = get_or-set_other rows r d (get_or rows r [] ++ x ∷ []) [] (λ k. eqb-false r d e (sym k)) ∙ (h.each d ∙ sym (other d e))

pub table_same : (n : ℕ) (f g : ℕ → List ℕ) (rows : List (List ℕ)) → IsTableOf n f rows → ((d : ℕ) → g d ≡ f d) → IsTableOf n g rows
table_same n f g rows h e = record { count = h.count; each = λ d. h.each d ∙ sym (e d) }

-- one row has one more, if it is not there
pub table_unless : (n : ℕ) (f g : ℕ → List ℕ) (rows : List (List ℕ)) → IsTableOf n f rows → (known : Bool) (r x : ℕ) → r < n → g r ≡ cond known (f r) (f r ++ x ∷ []) → ((d : ℕ) → (r == d) ≡ false → g d ≡ f d) → IsTableOf n g (cond known rows (with_number rows (Some r) x))
table_unless n f g rows h true r x l here other = table_same n f g rows h (λ d. by_test d (r == d) refl)
  where
    by_test : (d : ℕ) (b : Bool) → (r == d) ≡ b → g d ≡ f d
    by_test d true e = subst (λ (k : ℕ). g k ≡ f k) (eqb-true r d e) here
    by_test d false e = other d e
table_unless n f g rows h false r x l here other = table_push n f g rows h r x l here other

-- one more device under its parent
pub table_child : (n : ℕ) (ps : List (Option ℕ)) (p : Option ℕ) (rows : List (List ℕ)) → IsTableOf n (λ d. children_from d 0 ps) rows → IfSome p (λ q. q < n) → IsTableOf n (λ d. children_from d 0 (ps ++ p ∷ [])) (with_number rows p (length ps))
table_child n ps None rows h i = table_same n (λ d. children_from d 0 ps) (λ d. children_from d 0 (ps ++ None ∷ [])) rows h (λ d. children_push d 0 ps None ∙ append-nil (children_from d 0 ps))
table_child n ps (Some p) rows h i =
    table_push n (λ d. children_from d 0 ps) (λ d. children_from d 0 (ps ++ Some p ∷ [])) rows h p (length ps) i
    (children_push p 0 ps (Some p) ∙ ap (λ b. children_from p 0 ps ++ cond b ((0 + length ps) ∷ []) []) (same p) ∙ ap (λ k. children_from p 0 ps ++ k ∷ []) zero_less)
    (λ d e. children_push d 0 ps (Some p) ∙ (ap (λ b. children_from d 0 ps ++ cond b ((0 + length ps) ∷ []) []) e ∙ append-nil (children_from d 0 ps)))
  where
    zero_less : 0 + length ps ≡ length ps
    zero_less = omega arith

    same : (k : ℕ) → (k == k) ≡ true
    same k = eq_self k
      where
        eq_self : (j : ℕ) → (j == j) ≡ true
        eq_self j = grind (arith)

pub parent_within : (n : ℕ) (ps : List (Option ℕ)) (k : ℕ) → EachAfterParent n ps → k < length ps → IfSome (get_or ps k None) (λ q. q < n + k)
parent_within n [] k h l = absurd (omega arith)
parent_within n (p ∷ ps) zero h l = below p h.0
  where
    below : (q : Option ℕ) → IfSome q (λ x. x < n) → IfSome q (λ x. x < n + 0)
    below None i = tt
    below (Some x) i = omega arith
parent_within n (p ∷ ps) (suc k) h l = below (get_or ps k None) (parent_within (suc n) ps k h.1 (omega arith))
  where
    below : (q : Option ℕ) → IfSome q (λ x. x < suc n + k) → IfSome q (λ x. x < n + suc k)
    below None i = tt
    below (Some x) i = omega arith

pub weaker : (q : Option ℕ) (k n : ℕ) → k ≤ n → IfSome q (λ x. x < k) → IfSome q (λ x. x < n)
weaker None k n l i = tt
weaker (Some x) k n l i = omega arith

-- a row for each parent
pub parent_rows : (ps : List (Option ℕ)) (d : ℕ) → get_or (map option_to_list ps) d [] ≡ parent_of (slice_get ps d)
parent_rows [] d = refl
parent_rows (p ∷ ps) zero = refl
parent_rows (p ∷ ps) (suc d) = parent_rows ps d

-- no row has anything
pub empty_rows : (n d : ℕ) → get_or {A = List ℕ} (replicate n []) d [] ≡ []
empty_rows zero d = refl
empty_rows (suc n) zero = refl
empty_rows (suc n) (suc d) = empty_rows n d

-- what the row of a consumer says
pub linked_is : (ls : List Link) (rows : List (List ℕ)) (n : ℕ) → IsTableOf n (λ d. suppliers_of d ls) rows → (s c : ℕ) (row : List ℕ) → row ≡ get_or rows c [] → list_any (λ y. y == s) row ≡ is_linked ls s c
linked_is ls rows n h s c row e = ap (list_any (λ y. y == s)) (e ∙ h.each c) ∙ (list_any_among (suppliers_of c ls) s ∙ suppliers_linked ls s c)
