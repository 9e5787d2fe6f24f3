-- Which devices come after which in the order, and what a search finds there.
use Rattle.std.proofs.Common.{◌≡◌, ◌≤◌, ◌<◌, ◌+◌, ◌∙◌, ℕ, Bool, true, false, ◌==◌, nat_lt, List, [], ◌∷◌, ◌⊎◌, inl, inr, length, slice_get, get_or, Option, Some, None, refl, sym, ap, subst, cond, arith}
use Rattle.std.proofs.lemmas.Bool.{eqb-true, true≢false, or_cases, or_left, or_right}
use Rattle.std.proofs.lemmas.Bool.Decides.{nat_tests}
use Rattle.std.proofs.lemmas.List.{get_or_past}
use Rattle.sleep_model.specs.declared.entry.Entry.{Entry}
use Rattle.sleep_model.specs.declared.machine.Machine.{Machine}
use Rattle.sleep_model.specs.declared.machine.Link.{Link}
use Rattle.sleep_model.specs.Links.{IsOrder, AreLinks}
use Rattle.sleep_model.specs.Order.{is_among, is_parent, dependents, below, above, order, links_at, active_of, parents_of, parent_of, suppliers_of, consumers_of, children_from, EachAfterParent}
use Rattle.sleep_model.specs.Walk.{first_where, last_where, or_else}
use Rattle.sleep_model.proofs.Acyclic.{order_ranked}
use Rattle.sleep_model.proofs.Changing.{active_dependents, fewer_order}
use Rattle.sleep_model.proofs.FirstOccurrences.{suppliers_linked, consumers_linked, among_children, among_parent}
use Rattle.sleep_model.proofs.Dependents.{among_app, among_first, among_rest, within_of}
use Rattle.sleep_model.proofs.Walks.{AllDifferent}
use Rattle.sleep_laws.proofs.Boards.{last_found, first_none, last_none}

-- e comes after d
abbrev pub After : List ℕ → ℕ → ℕ → Type 0
After [] d e = ⊥
After (x ∷ xs) d e = ((x ≡ d) × (is_among xs e ≡ true)) ⊎ After xs d e

pub steps_after_first : (xs : List ℕ) (d e : ℕ) → After xs d e → is_among xs d ≡ true
steps_after_first [] d e h = absurd h
steps_after_first (x ∷ xs) d e (inl h) = subst (λ (y : ℕ). is_among (x ∷ xs) y ≡ true) h.0 (among_first x xs)
steps_after_first (x ∷ xs) d e (inr h) = among_rest x xs d (steps_after_first xs d e h)

pub after_last_word : (xs : List ℕ) (d e : ℕ) → After xs d e → is_among xs e ≡ true
after_last_word [] d e h = absurd h
after_last_word (x ∷ xs) d e (inl h) = among_rest x xs e h.1
after_last_word (x ∷ xs) d e (inr h) = among_rest x xs e (after_last_word xs d e h)

-- what hangs right below a device of an order comes after it
pub order_after : (dependents_of : ℕ → List ℕ) (xs : List ℕ) → IsOrder dependents_of xs → (d e : ℕ) → is_among xs d ≡ true → is_among (dependents_of d) e ≡ true → After xs d e
order_after dependents_of [] h d e m b = absurd (true≢false (sym m))
order_after dependents_of (x ∷ xs) h d e m b = by_place (or_cases (x == d) (is_among xs d) m) (λ k. order_after dependents_of xs h.2 d e k b)
  where
    by_place : ((x == d) ≡ true) ⊎ (is_among xs d ≡ true) → (is_among xs d ≡ true → After xs d e) → After (x ∷ xs) d e
    by_place (inl s) rest = let same : x ≡ d = eqb-true x d s in inl (same, within_of xs (dependents_of x) h.1 e (subst (λ (y : ℕ). is_among (dependents_of y) e ≡ true) (sym same) b))
    by_place (inr k) rest = inr (rest k)

pub order_apart : (dependents_of : ℕ → List ℕ) (xs : List ℕ) → IsOrder dependents_of xs → AllDifferent xs
order_apart dependents_of [] h = tt
order_apart dependents_of (x ∷ xs) h = (h.0, order_apart dependents_of xs h.2)

-- ---- searches

-- none after the last that passes passes
pub last_after : (test : ℕ → Bool) (xs : List ℕ) → AllDifferent xs → (d e : ℕ) → last_where test xs ≡ Some d → After xs d e → test e ≡ false
last_after test [] h d e l b = absurd b
last_after test (x ∷ xs) h d e l b = by_rest (last_where test xs) refl (test x) l b (λ k c. last_after test xs h.1 d e k c)
  where
    in_rest : is_among xs d ≡ true → (x ≡ d) → ⊥
    in_rest m same = true≢false (sym m ∙ (ap (is_among xs) (sym same) ∙ h.0))

    by_rest : (o : Option ℕ) → last_where test xs ≡ o → (t : Bool) → or_else o (cond t (Some x) None) ≡ Some d → ((x ≡ d) × (is_among xs e ≡ true)) ⊎ After xs d e → (last_where test xs ≡ Some d → After xs d e → test e ≡ false) → test e ≡ false
    by_rest (Some y) f t g (inl c) rest = absurd (in_rest (last_found test xs d (f ∙ g)).among c.0)
    by_rest (Some y) f t g (inr c) rest = rest (f ∙ g) c
    by_rest None f true g (inl c) rest = last_none test xs f e c.1
    by_rest None f true g (inr c) rest = let same : x ≡ d = cc in absurd (in_rest (steps_after_first xs d e c) same)
    by_rest None f false g c rest = absurd (cc)

-- none before the first that passes passes
pub first_before : (test : ℕ → Bool) (xs : List ℕ) → AllDifferent xs → (d e : ℕ) → first_where test xs ≡ Some d → After xs e d → test e ≡ false
first_before test [] h d e l b = absurd b
first_before test (x ∷ xs) h d e l b = by_test (test x) refl l b (λ k c. first_before test xs h.1 d e k c)
  where
    by_test : (t : Bool) → test x ≡ t → cond t (Some x) (first_where test xs) ≡ Some d → ((x ≡ e) × (is_among xs d ≡ true)) ⊎ After xs e d → (first_where test xs ≡ Some d → After xs e d → test e ≡ false) → test e ≡ false
    by_test true f g (inl c) rest = let same : x ≡ d = cc in absurd (true≢false (sym c.1 ∙ (ap (is_among xs) (sym same) ∙ h.0)))
    by_test true f g (inr c) rest = let same : x ≡ d = cc in absurd (true≢false (sym (after_last_word xs e d c) ∙ (ap (is_among xs) (sym same) ∙ h.0)))
    by_test false f g (inl c) rest = subst (λ (y : ℕ). test y ≡ false) c.0 f
    by_test false f g (inr c) rest = rest g c

-- one that passes is the first that does, or comes after it
pub first_or_after : (test : ℕ → Bool) (xs : List ℕ) (d e : ℕ) → first_where test xs ≡ Some d → test e ≡ true → is_among xs e ≡ true → (d ≡ e) ⊎ After xs d e
first_or_after test [] d e l p m = absurd (true≢false (sym m))
first_or_after test (x ∷ xs) d e l p m = by_test (test x) refl l (or_cases (x == e) (is_among xs e) m) (λ k n. first_or_after test xs d e k p n)
  where
    wrap : (d ≡ e) ⊎ After xs d e → (d ≡ e) ⊎ After (x ∷ xs) d e
    wrap (inl s) = inl s
    wrap (inr b) = inr (inr b)

    by_test : (t : Bool) → test x ≡ t → cond t (Some x) (first_where test xs) ≡ Some d → ((x == e) ≡ true) ⊎ (is_among xs e ≡ true) → (first_where test xs ≡ Some d → is_among xs e ≡ true → (d ≡ e) ⊎ After xs d e) → (d ≡ e) ⊎ After (x ∷ xs) d e
    by_test true f g (inl s) rest = let same : x ≡ d = cc in inl (sym same ∙ eqb-true x e s)
    by_test true f g (inr n) rest = let same : x ≡ d = cc in inr (inl (same, n))
    by_test false f g (inl s) rest = absurd (true≢false (sym p ∙ (ap test (sym (eqb-true x e s)) ∙ f)))
    by_test false f g (inr n) rest = wrap (rest g n)

-- a search finds something if one passes
pub last_there : (test : ℕ → Bool) (xs : List ℕ) (d : ℕ) → is_among xs d ≡ true → test d ≡ true → (g : ℕ) × (last_where test xs ≡ Some g)
last_there test xs d m p = by_option (last_where test xs) refl
  where
    by_option : (o : Option ℕ) → last_where test xs ≡ o → (g : ℕ) × (last_where test xs ≡ Some g)
    by_option None e = absurd (true≢false (sym p ∙ last_none test xs e d m))
    by_option (Some g) e = (g, e)

pub first_there : (test : ℕ → Bool) (xs : List ℕ) (d : ℕ) → is_among xs d ≡ true → test d ≡ true → (g : ℕ) × (first_where test xs ≡ Some g)
first_there test xs d m p = by_option (first_where test xs) refl
  where
    by_option : (o : Option ℕ) → first_where test xs ≡ o → (g : ℕ) × (first_where test xs ≡ Some g)
    by_option None e = absurd (true≢false (sym p ∙ first_none test xs e d m))
    by_option (Some g) e = (g, e)

-- ---- above and below

child_of : (ps : List (Option ℕ)) (e d : ℕ) → is_parent e (get_or ps d None) ≡ true → is_among (children_from e 0 ps) d ≡ true
child_of ps e d q = by_test (nat_lt d (length ps)) refl
  where
    by_test : (b : Bool) → nat_lt d (length ps) ≡ b → is_among (children_from e 0 ps) d ≡ true
    by_test true t =
        let inside : d < length ps = grind (arith, nat_tests) in
        let same : 0 + d ≡ d = omega arith in
        subst (λ (x : ℕ). is_among (children_from e 0 ps) x ≡ true) same (among_children e 0 ps d inside ∙ q)
    by_test false t =
        let outside : length ps ≤ d = grind (arith, nat_tests) in
        absurd (true≢false (sym q ∙ ap (is_parent e) (get_or_past ps d None outside)))

-- what holds a device up has it hanging below
pub above_below : (m : Machine) (past : List Entry) (d e : ℕ) → is_among (above m past d) e ≡ true → is_among (below m past e) d ≡ true
above_below m past d e h = by_cases (or_cases (is_among (parent_of (slice_get ps d)) e) (is_among (suppliers_of d ls) e) (sym (among_app (parent_of (slice_get ps d)) (suppliers_of d ls) e) ∙ h))
  where
    ps : List (Option ℕ)
    ps = parents_of m.devices

    ls : List Link
    ls = active_of (links_at m past)

    by_cases : (is_among (parent_of (slice_get (parents_of m.devices) d)) e ≡ true) ⊎ (is_among (suppliers_of d (active_of (links_at m past))) e ≡ true) → is_among (dependents (parents_of m.devices) (active_of (links_at m past)) e) d ≡ true
    by_cases (inl p) = among_app (children_from e 0 ps) (consumers_of e ls) d ∙ or_left (is_among (children_from e 0 ps) d) (is_among (consumers_of e ls) d) (child_of ps e d (sym (among_parent ps d e) ∙ p))
    by_cases (inr s) = among_app (children_from e 0 ps) (consumers_of e ls) d ∙ or_right (is_among (children_from e 0 ps) d) (is_among (consumers_of e ls) d) (consumers_linked ls e d ∙ (sym (suppliers_linked ls e d) ∙ s))

-- the devices of a machine have an order, each before all that must sleep before it (dpm_list)
abbrev pub IsRanked : Machine → List Entry → Type 0
IsRanked m past = IsOrder (below m past) (order m past)

pub ranked : (m : Machine) (past : List Entry) → EachAfterParent 0 (parents_of m.devices) → AreLinks (parents_of m.devices) (links_at m past) → IsRanked m past
ranked m past after links =
    fewer_order (dependents (parents_of m.devices) (links_at m past)) (below m past) (active_dependents (parents_of m.devices) (links_at m past)) (order m past)
    (order_ranked (parents_of m.devices) after (links_at m past) links)
