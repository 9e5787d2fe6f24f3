-- Lists of devices without duplicates, and what one more link adds to them.
use Rattle.std.proofs.Common.{◌≡◌, ◌<◌, ◌+◌, ◌∙◌, ℕ, zero, suc, Bool, true, false, not, ◌==◌, ◌||◌, ◌&&◌, List, [], ◌∷◌, ◌++◌, length, filter, get_or, slice_get, Option, Some, None, refl, sym, ap, cond, arith}
use Rattle.std.specs.List.{list_any}
use Rattle.std.proofs.lemmas.List.{append-nil, append_assoc}
use Rattle.std.proofs.lemmas.Bool.{eqb-true, eqb-false, or_parts, ne_eqb, eq-eqb}
use Rattle.std.proofs.Math.Bool.{or-false}
use Rattle.sleep_model.specs.declared.machine.Link.{Link}
use Rattle.sleep_model.specs.Order.{is_among, is_parent, children_from, consumers_of, suppliers_of, dependents, superiors, parent_of}
use Rattle.sleep_model.specs.Links.{first_occurrences, is_linked}
use Rattle.sleep_model.proofs.Walks.{AllDifferent, same_eq}
use Rattle.sleep_model.proofs.Dependents.{among_app}

-- ---- first positions

filter_push : (p : ℕ → Bool) (xs : List ℕ) (c : ℕ) → filter p (xs ++ c ∷ []) ≡ filter p xs ++ cond (p c) (c ∷ []) []
filter_push p [] c = refl
filter_push p (x ∷ xs) c = by_test (filter_push p xs c) (p x)
  where
    by_test : filter p (xs ++ c ∷ []) ≡ filter p xs ++ cond (p c) (c ∷ []) [] → (b : Bool) → cond b (x ∷ filter p (xs ++ c ∷ [])) (filter p (xs ++ c ∷ [])) ≡ cond b (x ∷ filter p xs) (filter p xs) ++ cond (p c) (c ∷ []) []
    by_test rest true = ap (λ ys. x ∷ ys) rest
    by_test rest false = rest

-- one more device comes at the end, if it was not there before
pub first_occurrences_push : (xs : List ℕ) (c : ℕ) → first_occurrences (xs ++ c ∷ []) ≡ cond (is_among xs c) (first_occurrences xs) (first_occurrences xs ++ c ∷ [])
first_occurrences_push [] c = refl
first_occurrences_push (x ∷ xs) c = ap (λ ys. x ∷ filter (λ y. not (y == x)) ys) (first_occurrences_push xs c) ∙ by_tests (is_among xs c) (x == c) refl
  where
    p : ℕ → Bool
    p = λ y. not (y == x)

    same : (b : Bool) → (x == c) ≡ b → (c == x) ≡ b
    same true e = eq-eqb c x (sym (eqb-true x c e))
    same false e = ne_eqb c x (λ f. eqb-false x c e (sym f))

    by_tests : (a b : Bool) → (x == c) ≡ b → x ∷ filter (λ y. not (y == x)) (cond a (first_occurrences xs) (first_occurrences xs ++ c ∷ [])) ≡ cond (b || a) (x ∷ filter (λ y. not (y == x)) (first_occurrences xs)) (x ∷ filter (λ y. not (y == x)) (first_occurrences xs) ++ c ∷ [])
    by_tests true true e = refl
    by_tests true false e = refl
    by_tests false true e = ap (λ ys. x ∷ ys) (filter_push (λ y. not (y == x)) (first_occurrences xs) c ∙ (ap (λ b. filter (λ y. not (y == x)) (first_occurrences xs) ++ cond (not b) (c ∷ []) []) (same true e) ∙ append-nil (filter (λ y. not (y == x)) (first_occurrences xs))))
    by_tests false false e = ap (λ ys. x ∷ ys) (filter_push (λ y. not (y == x)) (first_occurrences xs) c ∙ ap (λ b. filter (λ y. not (y == x)) (first_occurrences xs) ++ cond (not b) (c ∷ []) []) (same false e))

among_others : (x d : ℕ) (ys : List ℕ) → (x == d) ≡ false → is_among (filter (λ y. not (y == x)) ys) d ≡ is_among ys d
among_others x d [] e = refl
among_others x d (y ∷ ys) e = by_test (among_others x d ys e) (y == x) refl
  where
    by_test : is_among (filter (λ z. not (z == x)) ys) d ≡ is_among ys d → (b : Bool) → (y == x) ≡ b → is_among (cond (not b) (y ∷ filter (λ z. not (z == x)) ys) (filter (λ z. not (z == x)) ys)) d ≡ ((y == d) || is_among ys d)
    by_test rest true f = rest ∙ sym (ap (λ b. b || is_among ys d) (ap (λ z. z == d) (eqb-true y x f) ∙ e))
    by_test rest false f = ap (λ b. (y == d) || b) rest

-- the same devices are there
pub among_first_occurrences : (xs : List ℕ) (d : ℕ) → is_among (first_occurrences xs) d ≡ is_among xs d
among_first_occurrences [] d = refl
among_first_occurrences (x ∷ xs) d = by_test (among_first_occurrences xs d) (x == d) refl
  where
    by_test : is_among (first_occurrences xs) d ≡ is_among xs d → (b : Bool) → (x == d) ≡ b → (b || is_among (filter (λ y. not (y == x)) (first_occurrences xs)) d) ≡ (b || is_among xs d)
    by_test rest true e = refl
    by_test rest false e = among_others x d (first_occurrences xs) e ∙ rest

-- ---- what one more link adds

pub list_any_among : (xs : List ℕ) (d : ℕ) → list_any (λ y. y == d) xs ≡ is_among xs d
list_any_among [] d = refl
list_any_among (x ∷ xs) d = ap (λ b. (x == d) || b) (list_any_among xs d)

pub dependents_new : (ps : List (Option ℕ)) (l : Link) (ls : List Link) → dependents ps (l ∷ ls) l.supplier ≡ dependents ps ls l.supplier ++ l.consumer ∷ []
dependents_new ps l ls =
    ap (λ b. children_from l.supplier 0 ps ++ (consumers_of l.supplier ls ++ cond b (l.consumer ∷ []) [])) (same_eq l.supplier)
    ∙ sym (append_assoc (children_from l.supplier 0 ps) (consumers_of l.supplier ls) (l.consumer ∷ []))

pub suppliers_new : (l : Link) (ls : List Link) → suppliers_of l.consumer (l ∷ ls) ≡ suppliers_of l.consumer ls ++ l.supplier ∷ []
suppliers_new l ls = ap (λ b. suppliers_of l.consumer ls ++ cond b (l.supplier ∷ []) []) (same_eq l.consumer)

pub suppliers_other : (l : Link) (ls : List Link) (d : ℕ) → (l.consumer == d) ≡ false → suppliers_of d (l ∷ ls) ≡ suppliers_of d ls
suppliers_other l ls d e = ap (λ b. suppliers_of d ls ++ cond b (l.supplier ∷ []) []) e ∙ append-nil (suppliers_of d ls)

pub holding_new : (ps : List (Option ℕ)) (l : Link) (ls : List Link) → superiors ps (l ∷ ls) l.consumer ≡ superiors ps ls l.consumer ++ l.supplier ∷ []
holding_new ps l ls = ap (λ xs. parent_of (slice_get ps l.consumer) ++ xs) (suppliers_new l ls) ∙ sym (append_assoc (parent_of (slice_get ps l.consumer)) (suppliers_of l.consumer ls) (l.supplier ∷ []))

pub holding_other : (ps : List (Option ℕ)) (l : Link) (ls : List Link) (d : ℕ) → (l.consumer == d) ≡ false → superiors ps (l ∷ ls) d ≡ superiors ps ls d
holding_other ps l ls d e = ap (λ xs. parent_of (slice_get ps d) ++ xs) (suppliers_other l ls d e)

-- ---- what is there already

one_link : (a b : Bool) (x y : ℕ) (rest : Bool) → (x == y) ≡ a → (rest || is_among (cond b (x ∷ []) []) y) ≡ ((a && b) || rest)
one_link a true x y true e = by_first a
  where
    by_first : (f : Bool) → true ≡ ((f && true) || true)
    by_first true = refl
    by_first false = refl
one_link a false x y true e = by_first a
  where
    by_first : (f : Bool) → true ≡ ((f && false) || true)
    by_first true = refl
    by_first false = refl
one_link true true x y false e = ap (λ b. b || false) e
one_link false true x y false e = ap (λ b. b || false) e
one_link true false x y false e = refl
one_link false false x y false e = refl

pub suppliers_linked : (ls : List Link) (s c : ℕ) → is_among (suppliers_of c ls) s ≡ is_linked ls s c
suppliers_linked [] s c = refl
suppliers_linked (l ∷ ls) s c =
    among_app (suppliers_of c ls) (cond (l.consumer == c) (l.supplier ∷ []) []) s
    ∙ (ap (λ b. b || is_among (cond (l.consumer == c) (l.supplier ∷ []) []) s) (suppliers_linked ls s c)
    ∙ one_link (l.supplier == s) (l.consumer == c) l.supplier s (is_linked ls s c) refl)

swapped : (a b r : Bool) → ((a && b) || r) ≡ ((b && a) || r)
swapped true true r = refl
swapped true false r = refl
swapped false true r = refl
swapped false false r = refl

pub consumers_linked : (ls : List Link) (s c : ℕ) → is_among (consumers_of s ls) c ≡ is_linked ls s c
consumers_linked [] s c = refl
consumers_linked (l ∷ ls) s c =
    among_app (consumers_of s ls) (cond (l.supplier == s) (l.consumer ∷ []) []) c
    ∙ (ap (λ b. b || is_among (cond (l.supplier == s) (l.consumer ∷ []) []) c) (consumers_linked ls s c)
    ∙ (one_link (l.consumer == c) (l.supplier == s) l.consumer c (is_linked ls s c) refl ∙ swapped (l.consumer == c) (l.supplier == s) (is_linked ls s c)))

children_above : (d n : ℕ) (ps : List (Option ℕ)) (x : ℕ) → x < n → is_among (children_from d n ps) x ≡ false
children_above d n [] x l = refl
children_above d n (p ∷ ps) x l = by_test (children_above d (suc n) ps x (omega arith)) (is_parent d p)
  where
    by_test : is_among (children_from d (suc n) ps) x ≡ false → (b : Bool) → is_among (cond b (n ∷ children_from d (suc n) ps) (children_from d (suc n) ps)) x ≡ false
    by_test rest true = ap (λ b. b || is_among (children_from d (suc n) ps) x) (ne_eqb n x (λ e. omega arith)) ∙ rest
    by_test rest false = rest

-- different devices are all at their first positions
first_same : (xs : List ℕ) → AllDifferent xs → first_occurrences xs ≡ xs
first_same [] h = refl
first_same (x ∷ xs) h = ap (λ ys. x ∷ filter (λ y. not (y == x)) ys) (first_same xs h.1) ∙ ap (λ ys. x ∷ ys) (all_others xs h.0)
  where
    all_others : (ys : List ℕ) → is_among ys x ≡ false → filter (λ y. not (y == x)) ys ≡ ys
    all_others [] n = refl
    all_others (y ∷ ys) n =
        let parts = or_parts (y == x) (is_among ys x) n in
        ap (λ b. cond (not b) (y ∷ filter (λ z. not (z == x)) ys) (filter (λ z. not (z == x)) ys)) parts.0 ∙ ap (λ zs. y ∷ zs) (all_others ys parts.1)

children_different : (d n : ℕ) (ps : List (Option ℕ)) → AllDifferent (children_from d n ps)
children_different d n [] = tt
children_different d n (p ∷ ps) = by_test (children_different d (suc n) ps) (is_parent d p)
  where
    by_test : AllDifferent (children_from d (suc n) ps) → (b : Bool) → AllDifferent (cond b (n ∷ children_from d (suc n) ps) (children_from d (suc n) ps))
    by_test rest true = (children_above d (suc n) ps n (omega arith), rest)
    by_test rest false = rest

-- each child is there once
pub first_children : (d n : ℕ) (ps : List (Option ℕ)) → first_occurrences (children_from d n ps) ≡ children_from d n ps
first_children d n ps = first_same (children_from d n ps) (children_different d n ps)

-- a parent is there once
pub first_parent : (ps : List (Option ℕ)) (d : ℕ) → first_occurrences (parent_of (slice_get ps d)) ≡ parent_of (slice_get ps d)
first_parent [] d = refl
first_parent (None ∷ ps) zero = refl
first_parent (Some p ∷ ps) zero = refl
first_parent (p ∷ ps) (suc d) = first_parent ps d

-- a device is only among the children of its parent
pub among_children : (d n : ℕ) (ps : List (Option ℕ)) (k : ℕ) → k < length ps → is_among (children_from d n ps) (n + k) ≡ is_parent d (get_or ps k None)
among_children d n [] k l = absurd (omega arith)
among_children d n (p ∷ ps) zero l = by_test (is_parent d p)
  where
    first : (n == n + 0) ≡ true
    first = eq-eqb n (n + 0) (omega arith)

    by_test : (b : Bool) → is_among (cond b (n ∷ children_from d (suc n) ps) (children_from d (suc n) ps)) (n + 0) ≡ b
    by_test true = ap (λ b. b || is_among (children_from d (suc n) ps) (n + 0)) first
    by_test false = children_above d (suc n) ps (n + 0) (omega arith)
among_children d n (p ∷ ps) (suc k) l = by_test (among_children d (suc n) ps k (omega arith)) (is_parent d p)
  where
    later : suc n + k ≡ n + suc k
    later = omega arith

    by_test : is_among (children_from d (suc n) ps) (suc n + k) ≡ is_parent d (get_or ps k None) → (b : Bool) → is_among (cond b (n ∷ children_from d (suc n) ps) (children_from d (suc n) ps)) (n + suc k) ≡ is_parent d (get_or ps k None)
    by_test rest true = ap (λ b. b || is_among (children_from d (suc n) ps) (n + suc k)) (ne_eqb n (n + suc k) (λ e. omega arith)) ∙ (ap (is_among (children_from d (suc n) ps)) (sym later) ∙ rest)
    by_test rest false = ap (is_among (children_from d (suc n) ps)) (sym later) ∙ rest

-- a consumer that is not linked yet hangs right below only if it is a child
pub depends_already : (ps : List (Option ℕ)) (ls : List Link) (s c : ℕ) → c < length ps → is_linked ls s c ≡ false → is_among (dependents ps ls s) c ≡ is_parent s (get_or ps c None)
depends_already ps ls s c l n =
    among_app (children_from s 0 ps) (consumers_of s ls) c
    ∙ (ap (λ b. is_among (children_from s 0 ps) c || b) (consumers_linked ls s c ∙ n)
    ∙ (or-false (is_among (children_from s 0 ps) c)
    ∙ (ap (is_among (children_from s 0 ps)) here ∙ among_children s 0 ps c l)))
  where
    here : c ≡ 0 + c
    here = omega arith

pub among_parent : (ps : List (Option ℕ)) (c s : ℕ) → is_among (parent_of (slice_get ps c)) s ≡ is_parent s (get_or ps c None)
among_parent [] c s = refl
among_parent (None ∷ ps) zero s = refl
among_parent (Some p ∷ ps) zero s = or-false (p == s)
among_parent (p ∷ ps) (suc c) s = among_parent ps c s

-- and its supplier is above it already only if it is the parent
pub holds_already : (ps : List (Option ℕ)) (ls : List Link) (s c : ℕ) → is_linked ls s c ≡ false → is_among (superiors ps ls c) s ≡ is_parent s (get_or ps c None)
holds_already ps ls s c n =
    among_app (parent_of (slice_get ps c)) (suppliers_of c ls) s
    ∙ (ap (λ b. is_among (parent_of (slice_get ps c)) s || b) (suppliers_linked ls s c ∙ n)
    ∙ (or-false (is_among (parent_of (slice_get ps c)) s) ∙ among_parent ps c s))
