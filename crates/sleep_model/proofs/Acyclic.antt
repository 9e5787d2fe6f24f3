-- Links that close no cycle: their order keeps each device before all that hang right below it.
use Rattle.std.proofs.Common.{◌≡◌, ◌<◌, ◌≤◌, ◌+◌, ◌∙◌, ℕ, zero, suc, Bool, true, false, not, ◌==◌, ◌||◌, List, [], ◌∷◌, ◌++◌, ◌⊎◌, inl, inr, length, filter, Option, refl, sym, ap, subst, cond, arith, length-append}
use Rattle.std.specs.List.{flat_map, range_with_len}
use Rattle.std.proofs.lemmas.List.{append-nil}
use Rattle.std.proofs.lemmas.Bool.{true≢false, false≢true, eqb-true, eqb-false, or_cases, or_parts, or_left, or_right, or_from, cases_lt, ne_eqb}
use Rattle.std.proofs.lemmas.Bool.Decides.{nat_tests}
use Rattle.std.proofs.Math.Bool.{or-false}
use Rattle.sleep_model.specs.declared.machine.Link.{Link}
use Rattle.sleep_model.specs.Links.{AllAmong}
use Rattle.sleep_model.specs.Order.{is_among, children_from, consumers_of, dependents, EachAfterParent, last_occurrences, moved, order_by}
use Rattle.sleep_model.specs.Links.{IsOrder, AreLinks}
use Rattle.sleep_model.proofs.Walks.{AllDifferent, below_run}
use Rattle.sleep_model.proofs.Ordering.{not_in_filter, preserved_passes, different_filter, order_by_different}
use Rattle.sleep_model.proofs.Children.{children_none, children_within, children_after}
use Rattle.sleep_model.proofs.Dependents.{among_app, among_first, among_rest, Within, within_of, all_of, put, onto, onto_app, among_onto, last_onto, Descends, among_flat}

-- ---- lists

flat_same : (f g : ℕ → List ℕ) (cs : List ℕ) → ((c : ℕ) → is_among cs c ≡ true → f c ≡ g c) → flat_map f cs ≡ flat_map g cs
flat_same f g [] h = refl
flat_same f g (c ∷ cs) h = ap (λ ys. ys ++ flat_map f cs) (h c (among_first c cs)) ∙ ap (λ ys. g c ++ ys) (flat_same f g cs (λ x m. h x (among_rest c cs x m)))

-- what passes is in the filtered list
pub preserved_among : (p : ℕ → Bool) (xs : List ℕ) (d : ℕ) → p d ≡ true → is_among xs d ≡ true → is_among (filter p xs) d ≡ true
preserved_among p [] d h m = absurd (false≢true m)
preserved_among p (x ∷ xs) d h m = by_place (preserved_among p xs d h) (or_cases (x == d) (is_among xs d) m)
  where
    later : (b : Bool) → is_among (filter p xs) d ≡ true → is_among (cond b (x ∷ filter p xs) (filter p xs)) d ≡ true
    later true n = among_rest x (filter p xs) d n
    later false n = n

    by_place : (is_among xs d ≡ true → is_among (filter p xs) d ≡ true) → ((x == d) ≡ true) ⊎ (is_among xs d ≡ true) → is_among (cond (p x) (x ∷ filter p xs) (filter p xs)) d ≡ true
    by_place rest (inl e) =
        let same : x ≡ d = eqb-true x d e in
        ap (λ b. is_among (cond b (x ∷ filter p xs) (filter p xs)) d) (ap p same ∙ h) ∙ ap (λ b. b || is_among (filter p xs) d) e
    by_place rest (inr e) = later (p x) (rest e)

-- what is in the filtered list was in the list
pub among_filter : (p : ℕ → Bool) (xs : List ℕ) (d : ℕ) → is_among (filter p xs) d ≡ true → is_among xs d ≡ true
among_filter p [] d m = m
among_filter p (x ∷ xs) d m = by_test (among_filter p xs d) (p x) m
  where
    by_test : (is_among (filter p xs) d ≡ true → is_among xs d ≡ true) → (b : Bool) → is_among (cond b (x ∷ filter p xs) (filter p xs)) d ≡ true → is_among (x ∷ xs) d ≡ true
    by_test rest false n = among_rest x xs d (rest n)
    by_test rest true n = by_place (or_cases (x == d) (is_among (filter p xs) d) n)
      where
        by_place : ((x == d) ≡ true) ⊎ (is_among (filter p xs) d ≡ true) → is_among (x ∷ xs) d ≡ true
        by_place (inl e) = ap (λ b. b || is_among xs d) e
        by_place (inr e) = among_rest x xs d (rest e)

-- a list of different numbers keeps all but one at most
keeps_others : (k : ℕ) (xs : List ℕ) → AllDifferent xs → length xs ≤ suc (length (filter (λ d. not (d == k)) xs))
keeps_others k [] h = omega arith
keeps_others k (x ∷ xs) h = by_test (keeps_others k xs h.1) (x == k) refl
  where
    all_preserved : (ys : List ℕ) → is_among ys k ≡ false → length (filter (λ d. not (d == k)) ys) ≡ length ys
    all_preserved [] n = refl
    all_preserved (y ∷ ys) n =
        let parts = or_parts (y == k) (is_among ys k) n in
        ap (λ b. length (cond (not b) (y ∷ filter (λ d. not (d == k)) ys) (filter (λ d. not (d == k)) ys))) parts.0 ∙ ap suc (all_preserved ys parts.1)

    by_test : length xs ≤ suc (length (filter (λ d. not (d == k)) xs)) → (b : Bool) → (x == k) ≡ b → suc (length xs) ≤ suc (length (cond (not b) (x ∷ filter (λ d. not (d == k)) xs) (filter (λ d. not (d == k)) xs)))
    by_test rest true e =
        let gone : is_among xs k ≡ false = subst (λ (y : ℕ). is_among xs y ≡ false) (eqb-true x k e) h.0 in
        let n = all_preserved xs gone in
        omega (arith, n)
    by_test rest false e = omega arith

-- different numbers below n are at most n
pub few : (n : ℕ) (xs : List ℕ) → AllDifferent xs → ((d : ℕ) → is_among xs d ≡ true → d < n) → length xs ≤ n
few zero [] h f = omega arith
few zero (x ∷ xs) h f = absurd (let l = f x (among_first x xs) in omega arith)
few (suc n) xs h f =
    let ys = filter (λ d. not (d == n)) xs in
    let rest : length ys ≤ n = few n ys (different_filter (λ d. not (d == n)) xs h) (λ d m. less d (f d (among_filter (λ d'. not (d' == n)) xs d m)) (d == n) refl m) in
    omega (arith, keeps_others n xs h, rest)
  where
    less : (d : ℕ) → d < suc n → (b : Bool) → (d == n) ≡ b → is_among (filter (λ d'. not (d' == n)) xs) d ≡ true → d < n
    less d l true e m = absurd (true≢false (sym m ∙ preserved_passes (λ d'. not (d' == n)) xs d (ap not e)))
    less d l false e m = let other : d ≡ n → ⊥ = eqb-false d n e in omega arith

-- a list that has a number keeps fewer others
drops_one : (k : ℕ) (xs : List ℕ) → is_among xs k ≡ true → suc (length (filter (λ d. not (d == k)) xs)) ≤ length xs
drops_one k [] m = absurd (false≢true m)
drops_one k (x ∷ xs) m = by_test (drops_one k xs) (x == k) refl m
  where
    at_most : (ys : List ℕ) → length (filter (λ d. not (d == k)) ys) ≤ length ys
    at_most [] = omega arith
    at_most (y ∷ ys) = by_preserved (at_most ys) (y == k)
      where
        by_preserved : length (filter (λ d. not (d == k)) ys) ≤ length ys → (b : Bool) → length (cond (not b) (y ∷ filter (λ d. not (d == k)) ys) (filter (λ d. not (d == k)) ys)) ≤ suc (length ys)
        by_preserved rest true = omega arith
        by_preserved rest false = omega arith

    by_test : (is_among xs k ≡ true → suc (length (filter (λ d. not (d == k)) xs)) ≤ length xs) → (b : Bool) → (x == k) ≡ b → (b || is_among xs k) ≡ true → suc (length (cond (not b) (x ∷ filter (λ d. not (d == k)) xs) (filter (λ d. not (d == k)) xs))) ≤ suc (length xs)
    by_test rest true e n = let l = at_most xs in omega arith
    by_test rest false e n = let l = rest n in omega arith

-- a list with each number below n has at least n
pub many : (n : ℕ) (xs : List ℕ) → ((d : ℕ) → d < n → is_among xs d ≡ true) → n ≤ length xs
many zero xs f = omega arith
many (suc n) xs f =
    let rest : n ≤ length (filter (λ d. not (d == n)) xs) = many n (filter (λ d. not (d == n)) xs) (λ d l. preserved_among (λ d'. not (d' == n)) xs d (ap not (ne_eqb d n (λ e. omega arith))) (f d (omega arith))) in
    omega (arith, rest, drops_one n xs (f n (omega arith)))

-- a run of numbers has each number within
pub among_run : (a n d : ℕ) → a ≤ d → d < a + n → is_among (range_with_len a n) d ≡ true
among_run a zero d l r = absurd (omega arith)
among_run a (suc n) d l r = by_test (λ l'. among_run (a + 1) n d l' (omega arith)) (a == d) refl
  where
    by_test : (a + 1 ≤ d → is_among (range_with_len (a + 1) n) d ≡ true) → (b : Bool) → (a == d) ≡ b → (b || is_among (range_with_len (a + 1) n) d) ≡ true
    by_test rest true e = refl
    by_test rest false e = rest (let other : a ≡ d → ⊥ = eqb-false a d e in omega arith)

within_run : (a n d : ℕ) → is_among (range_with_len a n) d ≡ true → d < a + n
within_run a zero d m = absurd (false≢true m)
within_run a (suc n) d m = by_place (within_run (a + 1) n d) (or_cases (a == d) (is_among (range_with_len (a + 1) n) d) m)
  where
    by_place : (is_among (range_with_len (a + 1) n) d ≡ true → d < a + 1 + n) → ((a == d) ≡ true) ⊎ (is_among (range_with_len (a + 1) n) d ≡ true) → d < a + suc n
    by_place rest (inl e) = let same : a ≡ d = eqb-true a d e in omega arith
    by_place rest (inr e) = let r = rest e in omega arith

-- ---- an order gives enough levels

module _ (dependents_of : ℕ → List ℕ) where
  deep : (ds : List ℕ) → IsOrder dependents_of ds → (n : ℕ) → length ds ≤ n → (d : ℕ) → is_among ds d ≡ true → moved n dependents_of d ≡ moved (suc n) dependents_of d
  deep [] h n l d m = absurd (false≢true m)
  deep (x ∷ xs) h zero l d m = absurd (omega arith)
  deep (x ∷ xs) h (suc n) l d m = by_place (deep xs h.2 n (omega arith)) (deep xs h.2 (suc n) (omega arith) d) (or_cases (x == d) (is_among xs d) m)
    where
      by_place : ((c : ℕ) → is_among xs c ≡ true → moved n dependents_of c ≡ moved (suc n) dependents_of c) → (is_among xs d ≡ true → moved (suc n) dependents_of d ≡ moved (suc (suc n)) dependents_of d)
          → ((x == d) ≡ true) ⊎ (is_among xs d ≡ true) → moved (suc n) dependents_of d ≡ moved (suc (suc n)) dependents_of d
      by_place below rest (inl e) =
          subst (λ (y : ℕ). moved (suc n) dependents_of y ≡ moved (suc (suc n)) dependents_of y) (eqb-true x d e)
          (ap (λ ys. x ∷ ys) (flat_same (moved n dependents_of) (moved (suc n) dependents_of) (dependents_of x) (λ c i. below c (within_of xs (dependents_of x) h.1 c i))))
      by_place below rest (inr e) = rest e

  -- as many levels as devices are enough
  pub descends : (order : List ℕ) → IsOrder dependents_of order → ((d : ℕ) → is_among order d ≡ false → dependents_of d ≡ []) → (n : ℕ) → length order ≤ n → Descends dependents_of (moved n dependents_of)
  descends order h unstamped n l d = by_test (is_among order d) refl
    where
      empty : (k : ℕ) → dependents_of d ≡ [] → moved k dependents_of d ≡ d ∷ flat_map (moved k dependents_of) (dependents_of d)
      empty zero e = ap (λ cs. d ∷ flat_map (moved zero dependents_of) cs) (sym e)
      empty (suc k) e = ap (λ cs. d ∷ flat_map (moved k dependents_of) cs) e ∙ ap (λ cs. d ∷ flat_map (moved (suc k) dependents_of) cs) (sym e)

      by_test : (b : Bool) → is_among order d ≡ b → moved n dependents_of d ≡ d ∷ flat_map (moved n dependents_of) (dependents_of d)
      by_test true e = deep order h n l d e
      by_test false e = empty n (unstamped d e)

  -- ---- a walk leaves an order

  module _ (W : ℕ → List ℕ) (fix : Descends dependents_of W) where
    put_order : (out : List ℕ) (d : ℕ) → IsOrder dependents_of out → Within (dependents_of d) out → IsOrder dependents_of (put out d)
    put_order out d h i = by_test (is_among out d) refl
      where
        by_test : (b : Bool) → is_among out d ≡ b → IsOrder dependents_of (cond b out (d ∷ out))
        by_test true e = h
        by_test false e = (e, all_of out (dependents_of d) i, h)

    flat_order : (k : ℕ) → ((o : List ℕ) → IsOrder dependents_of o → (d : ℕ) → length (W d) ≤ k → IsOrder dependents_of (onto (W d) o)) → (out : List ℕ) → IsOrder dependents_of out → (cs : List ℕ) → length (flat_map W cs) ≤ k → IsOrder dependents_of (onto (flat_map W cs) out)
    flat_order k rec out h [] l = h
    flat_order k rec out h (c ∷ cs) l =
        subst (IsOrder dependents_of) (sym (onto_app (W c) (flat_map W cs) out))
        (rec (onto (flat_map W cs) out) (flat_order k rec out h cs (omega (arith, length-append (W c) (flat_map W cs)))) c (omega (arith, length-append (W c) (flat_map W cs))))

    walk_order : (k : ℕ) (out : List ℕ) → IsOrder dependents_of out → (d : ℕ) → length (W d) ≤ k → IsOrder dependents_of (onto (W d) out)
    walk_order zero out h d l = let e = ap length (fix d) in absurd (omega arith)
    walk_order (suc k) out h d l =
        let cs = flat_map W (dependents_of d) in
        subst (λ (ys : List ℕ). IsOrder dependents_of (onto ys out)) (sym (fix d))
        (put_order (onto cs out) d (flat_order k (walk_order k) out h (dependents_of d) (omega (arith, ap length (fix d))))
        (λ c m. among_onto cs out c ∙ ap (λ b. b || is_among out c) (among_flat dependents_of W fix c (dependents_of d) c m (ap (λ ys. is_among ys c) (fix c) ∙ among_first c (flat_map W (dependents_of c))))))

    pub last_order : (d : ℕ) → IsOrder dependents_of (last_occurrences (W d))
    last_order d = subst (IsOrder dependents_of) (sym (last_onto (W d))) (walk_order (length (W d)) [] tt d (omega arith))

-- an order depends only on what hangs below its devices
same_order : (dependents_of dependents_of' : ℕ → List ℕ) (xs : List ℕ) → IsOrder dependents_of xs → ((d : ℕ) → is_among xs d ≡ true → dependents_of' d ≡ dependents_of d) → IsOrder dependents_of' xs
same_order dependents_of dependents_of' [] h e = tt
same_order dependents_of dependents_of' (x ∷ xs) h e = (
  h.0,
  subst (AllAmong xs) (sym (e x (among_first x xs))) h.1,
  same_order dependents_of dependents_of' xs h.2 (λ d m. e d (among_rest x xs d m)),
)

-- what was moved comes after the others
moved_order : (dependents_of dependents_of' : ℕ → List ℕ) (M back : List ℕ) → IsOrder dependents_of' back → ((d : ℕ) → is_among back d ≡ is_among M d)
    → ((d y : ℕ) → is_among M d ≡ false → is_among (dependents_of' d) y ≡ true → (is_among M y ≡ true) ⊎ (is_among (dependents_of d) y ≡ true))
    → (xs : List ℕ) → IsOrder dependents_of xs → IsOrder dependents_of' (filter (λ d. not (is_among M d)) xs ++ back)
moved_order dependents_of dependents_of' M back b same step [] h = b
moved_order dependents_of dependents_of' M back b same step (x ∷ xs) h = by_test (moved_order dependents_of dependents_of' M back b same step xs h.2) (is_among M x) refl
  where
    states : (y : ℕ) → (is_among M y ≡ true) ⊎ (is_among (dependents_of x) y ≡ true) → is_among (filter (λ d. not (is_among M d)) xs ++ back) y ≡ true
    states y (inl m) = among_app (filter (λ d. not (is_among M d)) xs) back y ∙ or_right (is_among (filter (λ d. not (is_among M d)) xs) y) (is_among back y) (same y ∙ m)
    states y (inr m) = among_app (filter (λ d. not (is_among M d)) xs) back y ∙ by_moved (is_among M y) refl
      where
        by_moved : (c : Bool) → is_among M y ≡ c → (is_among (filter (λ d. not (is_among M d)) xs) y || is_among back y) ≡ true
        by_moved true e = or_right (is_among (filter (λ d. not (is_among M d)) xs) y) (is_among back y) (same y ∙ e)
        by_moved false e = or_left (is_among (filter (λ d. not (is_among M d)) xs) y) (is_among back y) (preserved_among (λ d. not (is_among M d)) xs y (ap not e) (within_of xs (dependents_of x) h.1 y m))

    by_test : IsOrder dependents_of' (filter (λ d. not (is_among M d)) xs ++ back) → (c : Bool) → is_among M x ≡ c → IsOrder dependents_of' (cond (not c) (x ∷ filter (λ d. not (is_among M d)) xs) (filter (λ d. not (is_among M d)) xs) ++ back)
    by_test rest true e = rest
    by_test rest false e = (
      among_app (filter (λ d. not (is_among M d)) xs) back x ∙ or_from (is_among (filter (λ d. not (is_among M d)) xs) x) (is_among back x) (not_in_filter (λ d. not (is_among M d)) xs x h.0) (same x ∙ e),
      all_of (filter (λ d. not (is_among M d)) xs ++ back) (dependents_of' x) (λ y m. states y (step x y e m)),
      rest,
    )

-- ---- one more link

-- a link changes nothing for a device below which its supplier does not hang
module _ (dependents_of dependents_of' : ℕ → List ℕ) (s : ℕ) (others : (d : ℕ) → (s == d) ≡ false → dependents_of' d ≡ dependents_of d) where
  not_in_flat : (f : ℕ → List ℕ) (cs : List ℕ) → is_among (flat_map f cs) s ≡ false → (c : ℕ) → is_among cs c ≡ true → is_among (f c) s ≡ false
  not_in_flat f [] n c m = absurd (false≢true m)
  not_in_flat f (x ∷ cs) n c m = by_place (or_parts (is_among (f x) s) (is_among (flat_map f cs) s) (sym (among_app (f x) (flat_map f cs) s) ∙ n)) (λ k. not_in_flat f cs k c) (or_cases (x == c) (is_among cs c) m)
    where
      by_place : (is_among (f x) s ≡ false) × (is_among (flat_map f cs) s ≡ false) → (is_among (flat_map f cs) s ≡ false → is_among cs c ≡ true → is_among (f c) s ≡ false) → ((x == c) ≡ true) ⊎ (is_among cs c ≡ true) → is_among (f c) s ≡ false
      by_place p rest (inl e) = subst (λ (y : ℕ). is_among (f y) s ≡ false) (eqb-true x c e) p.0
      by_place p rest (inr e) = rest p.1 e

  pub same_moved : (n d : ℕ) → is_among (moved n dependents_of d) s ≡ false → moved n dependents_of' d ≡ moved n dependents_of d
  same_moved zero d h = refl
  same_moved (suc n) d h =
      let parts = or_parts (d == s) (is_among (flat_map (moved n dependents_of) (dependents_of d)) s) h in
      let other : (s == d) ≡ false = ne_eqb s d (λ e. eqb-false d s parts.0 (sym e)) in
      ap (λ cs. d ∷ flat_map (moved n dependents_of') cs) (others d other)
      ∙ ap (λ ys. d ∷ ys) (flat_same (moved n dependents_of') (moved n dependents_of) (dependents_of d) (λ c m. same_moved n c (not_in_flat (moved n dependents_of) (dependents_of d) parts.1 c m)))

-- ---- the order of links

module _ (ps : List (Option ℕ)) (after : EachAfterParent 0 ps) where
  pub consumers_within : (ls : List Link) → AreLinks ps ls → (d x : ℕ) → is_among (consumers_of d ls) x ≡ true → x < length ps
  consumers_within [] h d x m = absurd (false≢true m)
  consumers_within (l ∷ ls) h d x m = by_place (consumers_within ls h.4 d x) (or_cases (is_among (consumers_of d ls) x) (is_among (cond (l.supplier == d) (l.consumer ∷ []) []) x) (sym (among_app (consumers_of d ls) (cond (l.supplier == d) (l.consumer ∷ []) []) x) ∙ m))
    where
      of_link : (b : Bool) → is_among (cond b (l.consumer ∷ []) []) x ≡ true → x < length ps
      of_link false n = absurd (false≢true n)
      of_link true n = let same : l.consumer ≡ x = eqb-true l.consumer x (sym (or-false (l.consumer == x)) ∙ n) in let c : l.consumer < length ps = h.1 in omega arith

      by_place : (is_among (consumers_of d ls) x ≡ true → x < length ps) → (is_among (consumers_of d ls) x ≡ true) ⊎ (is_among (cond (l.supplier == d) (l.consumer ∷ []) []) x ≡ true) → x < length ps
      by_place rest (inl n) = rest n
      by_place rest (inr n) = of_link (l.supplier == d) n

  pub dependents_within : (ls : List Link) → AreLinks ps ls → (d x : ℕ) → is_among (dependents ps ls d) x ≡ true → x < length ps
  dependents_within ls h d x m = by_place (or_cases (is_among (children_from d 0 ps) x) (is_among (consumers_of d ls) x) (sym (among_app (children_from d 0 ps) (consumers_of d ls) x) ∙ m))
    where
      by_place : (is_among (children_from d 0 ps) x ≡ true) ⊎ (is_among (consumers_of d ls) x ≡ true) → x < length ps
      by_place (inl n) = let l = children_within d 0 ps x n in omega arith
      by_place (inr n) = consumers_within ls h d x n

  no_consumers : (ls : List Link) → AreLinks ps ls → (d : ℕ) → length ps ≤ d → consumers_of d ls ≡ []
  no_consumers [] h d l = refl
  no_consumers (k ∷ ls) h d l =
      let s : k.supplier < length ps = h.0 in
      let other : (k.supplier == d) ≡ false = grind (arith, nat_tests) in
      ap (λ xs. xs ++ cond (k.supplier == d) (k.consumer ∷ []) []) (no_consumers ls h.4 d l) ∙ ap (λ b. cond b (k.consumer ∷ []) []) other

  -- nothing hangs below a device that is not registered
  pub nothing_below : (ls : List Link) → AreLinks ps ls → (d : ℕ) → length ps ≤ d → dependents ps ls d ≡ []
  nothing_below ls h d l = ap (λ xs. xs ++ consumers_of d ls) (children_none d 0 ps after (omega arith)) ∙ no_consumers ls h d l

  moved_within : (dependents_of : ℕ → List ℕ) → ((d x : ℕ) → is_among (dependents_of d) x ≡ true → x < length ps) → (n d : ℕ) → d < length ps → (x : ℕ) → is_among (moved n dependents_of d) x ≡ true → x < length ps
  moved_within dependents_of f zero d l x m = let same : d ≡ x = eqb-true d x (sym (or-false (d == x)) ∙ m) in omega arith
  moved_within dependents_of f (suc n) d l x m = by_place (λ c i. moved_within dependents_of f n c (f d c i) x) (or_cases (d == x) (is_among (flat_map (moved n dependents_of) (dependents_of d)) x) m)
    where
      each : (cs : List ℕ) → ((c : ℕ) → is_among cs c ≡ true → is_among (moved n dependents_of c) x ≡ true → x < length ps) → is_among (flat_map (moved n dependents_of) cs) x ≡ true → x < length ps
      each [] g n' = absurd (false≢true n')
      each (c ∷ cs) g n' = by_first (each cs (λ y i. g y (among_rest c cs y i))) (or_cases (is_among (moved n dependents_of c) x) (is_among (flat_map (moved n dependents_of) cs) x) (sym (among_app (moved n dependents_of c) (flat_map (moved n dependents_of) cs) x) ∙ n'))
        where
          by_first : (is_among (flat_map (moved n dependents_of) cs) x ≡ true → x < length ps) → (is_among (moved n dependents_of c) x ≡ true) ⊎ (is_among (flat_map (moved n dependents_of) cs) x ≡ true) → x < length ps
          by_first rest (inl p) = g c (among_first c cs) p
          by_first rest (inr p) = rest p

      by_place : ((c : ℕ) → is_among (dependents_of d) c ≡ true → is_among (moved n dependents_of c) x ≡ true → x < length ps) → ((d == x) ≡ true) ⊎ (is_among (flat_map (moved n dependents_of) (dependents_of d)) x ≡ true) → x < length ps
      by_place g (inl e) = let same : d ≡ x = eqb-true d x e in omega arith
      by_place g (inr e) = each (dependents_of d) g e

  pub among_last : (xs : List ℕ) (d : ℕ) → is_among (last_occurrences xs) d ≡ is_among xs d
  among_last xs d = ap (λ ys. is_among ys d) (last_onto xs) ∙ (among_onto xs [] d ∙ or-false (is_among xs d))

  -- the order has registered devices
  pub order_within : (ls : List Link) → AreLinks ps ls → (d : ℕ) → is_among (order_by ps ls) d ≡ true → d < length ps
  order_within [] h d m = let r = within_run 0 (length ps) d m in omega arith
  order_within (l ∷ ls) h d m = by_place (order_within ls h.4 d) (or_cases (is_among (filter (λ x. not (is_among M x)) (order_by ps ls)) d) (is_among (last_occurrences M) d) (sym (among_app (filter (λ x. not (is_among M x)) (order_by ps ls)) (last_occurrences M) d) ∙ m))
    where
      M : List ℕ
      M = moved (length ps) (dependents ps (l ∷ ls)) l.consumer

      by_place : (is_among (order_by ps ls) d ≡ true → d < length ps) → (is_among (filter (λ x. not (is_among M x)) (order_by ps ls)) d ≡ true) ⊎ (is_among (last_occurrences M) d ≡ true) → d < length ps
      by_place rest (inl n) = rest (among_filter (λ x. not (is_among M x)) (order_by ps ls) d n)
      by_place rest (inr n) = moved_within (dependents ps (l ∷ ls)) (dependents_within (l ∷ ls) h) (length ps) l.consumer h.1 d (sym (among_last M d) ∙ n)

  -- and all of them
  pub order_covers : (ls : List Link) → (d : ℕ) → d < length ps → is_among (order_by ps ls) d ≡ true
  order_covers [] d l = among_run 0 (length ps) d (omega arith) (omega arith)
  order_covers (l ∷ ls) d i = among_app (filter (λ x. not (is_among M x)) (order_by ps ls)) (last_occurrences M) d ∙ by_test (order_covers ls d i) (is_among M d) refl
    where
      M : List ℕ
      M = moved (length ps) (dependents ps (l ∷ ls)) l.consumer

      by_test : is_among (order_by ps ls) d ≡ true → (b : Bool) → is_among M d ≡ b → (is_among (filter (λ x. not (is_among M x)) (order_by ps ls)) d || is_among (last_occurrences M) d) ≡ true
      by_test rest true e = or_right (is_among (filter (λ x. not (is_among M x)) (order_by ps ls)) d) (is_among (last_occurrences M) d) (among_last M d ∙ e)
      by_test rest false e = or_left (is_among (filter (λ x. not (is_among M x)) (order_by ps ls)) d) (is_among (last_occurrences M) d) (preserved_among (λ x. not (is_among M x)) (order_by ps ls) d (ap not e) rest)

  -- each of them once
  pub order_length : (ls : List Link) → AreLinks ps ls → length (order_by ps ls) ≡ length ps
  order_length ls h = omega (arith, few (length ps) (order_by ps ls) (order_by_different ps ls) (order_within ls h), many (length ps) (order_by ps ls) (order_covers ls))

  run_order : (a n : ℕ) → a + n ≡ length ps → IsOrder (dependents ps []) (range_with_len a n)
  run_order a zero e = tt
  run_order a (suc n) e = (
    below_run (a + 1) n a (omega arith),
    subst (AllAmong (range_with_len (a + 1) n)) (sym (append-nil (children_from a 0 ps))) (children_after (range_with_len (a + 1) n) a 0 ps after (λ c l r. among_run (a + 1) n c (omega arith) (omega arith))),
    run_order (a + 1) n (omega arith),
  )

  -- levels enough for what hangs below by these links
  pub links_descend : (ls : List Link) → AreLinks ps ls → IsOrder (dependents ps ls) (order_by ps ls) → Descends (dependents ps ls) (moved (length ps) (dependents ps ls))
  links_descend ls h o =
      descends (dependents ps ls) (order_by ps ls) o
      (λ d n. by_place d n (cases_lt d (length ps)))
      (length ps) (few (length ps) (order_by ps ls) (order_by_different ps ls) (order_within ls h))
    where
      by_place : (d : ℕ) → is_among (order_by ps ls) d ≡ false → (d < length ps) ⊎ (length ps ≤ d) → dependents ps ls d ≡ []
      by_place d n (inl l) = absurd (true≢false (sym (order_covers ls d l) ∙ n))
      by_place d n (inr l) = nothing_below ls h d l

  -- what hangs below is the same but for the supplier of a new link
  pub others_same : (l : Link) (ls : List Link) (d : ℕ) → (l.supplier == d) ≡ false → dependents ps (l ∷ ls) d ≡ dependents ps ls d
  others_same l ls d e = ap (λ xs. children_from d 0 ps ++ xs) (ap (λ b. consumers_of d ls ++ cond b (l.consumer ∷ []) []) e ∙ append-nil (consumers_of d ls))

  -- a new link moves what hung below its consumer before
  pub moved_before : (l : Link) (ls : List Link) → is_among (moved (length ps) (dependents ps ls) l.consumer) l.supplier ≡ false → moved (length ps) (dependents ps (l ∷ ls)) l.consumer ≡ moved (length ps) (dependents ps ls) l.consumer
  moved_before l ls n = same_moved (dependents ps ls) (dependents ps (l ∷ ls)) l.supplier (others_same l ls) (length ps) l.consumer n

  -- each device comes before all that hang right below it
  pub order_ranked : (ls : List Link) → AreLinks ps ls → IsOrder (dependents ps ls) (order_by ps ls)
  order_ranked [] h = run_order 0 (length ps) (omega arith)
  order_ranked (l ∷ ls) h = with_link (order_ranked ls h.4)
    where
      M : List ℕ
      M = moved (length ps) (dependents ps (l ∷ ls)) l.consumer

      same : moved (length ps) (dependents ps (l ∷ ls)) l.consumer ≡ moved (length ps) (dependents ps ls) l.consumer
      same = moved_before l ls h.3

      not_supplier : (d : ℕ) → is_among M d ≡ true → (l.supplier == d) ≡ false
      not_supplier d m = ne_eqb l.supplier d (λ e. true≢false (sym (subst (λ (y : ℕ). is_among M y ≡ true) (sym e) m) ∙ (ap (λ ys. is_among ys l.supplier) same ∙ h.3)))

      consumer_first : (n : ℕ) (dependents_of : ℕ → List ℕ) (d : ℕ) → is_among (moved n dependents_of d) d ≡ true
      consumer_first zero dependents_of d = among_first d []
      consumer_first (suc n) dependents_of d = among_first d (flat_map (moved n dependents_of) (dependents_of d))

      of_link : (b : Bool) (y : ℕ) → is_among (cond b (l.consumer ∷ []) []) y ≡ true → is_among M y ≡ true
      of_link false y m = absurd (false≢true m)
      of_link true y m = subst (λ (z : ℕ). is_among M z ≡ true) (eqb-true l.consumer y (sym (or-false (l.consumer == y)) ∙ m)) (consumer_first (length ps) (dependents ps (l ∷ ls)) l.consumer)

      step : (d y : ℕ) → is_among M d ≡ false → is_among (dependents ps (l ∷ ls) d) y ≡ true → (is_among M y ≡ true) ⊎ (is_among (dependents ps ls d) y ≡ true)
      step d y n m = by_child (or_cases (is_among (children_from d 0 ps) y) (is_among (consumers_of d (l ∷ ls)) y) (sym (among_app (children_from d 0 ps) (consumers_of d (l ∷ ls)) y) ∙ m))
        where
          old : (is_among (children_from d 0 ps) y || is_among (consumers_of d ls) y) ≡ true → (is_among M y ≡ true) ⊎ (is_among (dependents ps ls d) y ≡ true)
          old e = inr (among_app (children_from d 0 ps) (consumers_of d ls) y ∙ e)

          by_consumer : (is_among (consumers_of d ls) y ≡ true) ⊎ (is_among (cond (l.supplier == d) (l.consumer ∷ []) []) y ≡ true) → (is_among M y ≡ true) ⊎ (is_among (dependents ps ls d) y ≡ true)
          by_consumer (inl e) = old (or_right (is_among (children_from d 0 ps) y) (is_among (consumers_of d ls) y) e)
          by_consumer (inr e) = inl (of_link (l.supplier == d) y e)

          by_child : (is_among (children_from d 0 ps) y ≡ true) ⊎ (is_among (consumers_of d (l ∷ ls)) y ≡ true) → (is_among M y ≡ true) ⊎ (is_among (dependents ps ls d) y ≡ true)
          by_child (inl e) = old (or_left (is_among (children_from d 0 ps) y) (is_among (consumers_of d ls) y) e)
          by_child (inr e) = by_consumer (or_cases (is_among (consumers_of d ls) y) (is_among (cond (l.supplier == d) (l.consumer ∷ []) []) y) (sym (among_app (consumers_of d ls) (cond (l.supplier == d) (l.consumer ∷ []) []) y) ∙ e))

      with_link : IsOrder (dependents ps ls) (order_by ps ls) → IsOrder (dependents ps (l ∷ ls)) (filter (λ x. not (is_among M x)) (order_by ps ls) ++ last_occurrences M)
      with_link o =
          moved_order (dependents ps ls) (dependents ps (l ∷ ls)) M (last_occurrences M)
          (same_order (dependents ps ls) (dependents ps (l ∷ ls)) (last_occurrences M)
          (subst (λ (ys : List ℕ). IsOrder (dependents ps ls) (last_occurrences ys)) (sym same) (last_order (dependents ps ls) (moved (length ps) (dependents ps ls)) (links_descend ls h.4 o) l.consumer))
          (λ d m. others_same l ls d (not_supplier d (sym (among_last M d) ∙ m))))
          (among_last M) step (order_by ps ls) o
