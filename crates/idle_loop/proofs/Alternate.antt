-- Two rising lists of numbers that take turns, and what a cut through them counts. The newest come first.
use Rattle.std.proofs.Common.{◌≡◌, ◌∙◌, ℕ, suc, ◌+◌, ◌<◌, ◌≤◌, ◌≢◌, ◌==◌, if◌then◌else◌, Bool, true, false, List, [], ◌∷◌, ◌++◌, length, refl, sym, ap, subst, eq-eqb, ne_eqb, arith}
use mathlib.Core.Logic.{dite}
use native.Mathlib.Decide.{ℕ_discrete}
use Rattle.idle_loop.specs.Makers.{Alternate, AllLess, ranks}

abbrev pub AllMore : ℕ → List ℕ → Type 0
AllMore low [] = Unit {0}
AllMore low (x ∷ xs) = (low < x) × AllMore low xs

abbrev pub AllLeast : ℕ → List ℕ → Type 0
AllLeast low [] = Unit {0}
AllLeast low (x ∷ xs) = (low ≤ x) × AllLeast low xs

abbrev pub AllMost : ℕ → List ℕ → Type 0
AllMost high [] = Unit {0}
AllMost high (x ∷ xs) = (x ≤ high) × AllMost high xs

-- as many of each, if none is still to come
pub as_many : (f : ℕ) (ps qs : List ℕ) → Alternate false f ps qs → length ps ≡ length qs
as_many f [] [] a = refl
as_many f [] (q ∷ qs) a = absurd a
as_many f (p ∷ ps) [] a = absurd a
as_many f (p ∷ ps) (q ∷ qs) a = ap suc (as_many p ps qs a.2)

-- none above the floor
at_most : (f c : ℕ) (ps qn qo : List ℕ) → Alternate false f ps (qn ++ c ∷ qo) → c ≤ f
at_most f c [] [] qo a = absurd a
at_most f c [] (q ∷ qn) qo a = absurd a
at_most f c (p ∷ ps) [] qo a = a.0
at_most f c (p ∷ ps) (q ∷ qn) qo a = let low : c ≤ p = at_most p c ps qn qo a.2 in let mid : p < q = a.1 in let high : q ≤ f = a.0 in omega arith

-- ---- a cut at a p

rest_same : (c : ℕ) (po qn qo : List ℕ) → Alternate false c po (qn ++ qo) → AllMore c qn → length po ≡ length qo
rest_same c po [] qo a more = as_many c po qo a
rest_same c [] (q ∷ qn) qo a more = absurd a
rest_same c (p ∷ po) (q ∷ qn) qo a more = absurd (let high : q ≤ c = a.0 in let low : c < q = more.0 in omega arith)

-- after a p there are as many q as p
pub cut_at_step : (b : Bool) (f c : ℕ) (x po qn qo : List ℕ) → Alternate b f (x ++ c ∷ po) (qn ++ qo) → AllMore c x → AllMore c qn → AllMost c qo → length po ≡ length qo
cut_at_step true f c [] po qn qo a later more most = rest_same c po qn qo a more
cut_at_step false f c [] po [] [] a later more most = absurd a
cut_at_step false f c [] po [] (q ∷ qo) a later more most = absurd (let low : c < q = a.1 in let high : q ≤ c = most.0 in omega arith)
cut_at_step false f c [] po (q ∷ qn) qo a later more most = rest_same c po qn qo a.2 more.1
cut_at_step true f c (p ∷ x) po qn qo a later more most = cut_at_step false p c x po qn qo a later.1 more most
cut_at_step false f c (p ∷ x) po [] [] a later more most = absurd a
cut_at_step false f c (p ∷ x) po [] (q ∷ qo) a later more most = absurd (let low : p < q = a.1 in let high : q ≤ c = most.0 in let mid : c < p = later.0 in omega arith)
cut_at_step false f c (p ∷ x) po (q ∷ qn) qo a later more most = cut_at_step false p c x po qn qo a.2 later.1 more.1 most

-- ---- a cut at a q

alternate_more : (b : Bool) (f c : ℕ) (po qn qo : List ℕ) → Alternate b f po (qn ++ c ∷ qo) → AllLess c po → length po ≡ length qo + 1
alternate_more true f c [] qn qo a less = absurd a
alternate_more true f c (p ∷ po) qn qo a less = absurd (let high : c ≤ p = at_most p c po qn qo a in let low : p < c = less.0 in omega arith)
alternate_more false f c [] [] qo a less = absurd a
alternate_more false f c [] (q ∷ qn) qo a less = absurd a
alternate_more false f c (p ∷ po) [] qo a less = let same : length po ≡ length qo = as_many p po qo a.2 in omega (arith, same)
alternate_more false f c (p ∷ po) (q ∷ qn) qo a less = absurd (let high : c ≤ p = at_most p c po qn qo a.2 in let low : p < c = less.0 in omega arith)

-- after a q there is one p more than q
pub cut_at_look : (b : Bool) (f c : ℕ) (x po qn qo : List ℕ) → Alternate b f (x ++ po) (qn ++ c ∷ qo) → AllLeast c x → AllLess c po → length po ≡ length qo + 1
cut_at_look b f c [] po qn qo a later less = alternate_more b f c po qn qo a less
cut_at_look true f c (p ∷ x) po qn qo a later less = cut_at_look false p c x po qn qo a later.1 less
cut_at_look false f c (p ∷ x) po [] qo a later less = absurd (let low : p < c = a.1 in let high : c ≤ p = later.0 in omega arith)
cut_at_look false f c (p ∷ x) po (q ∷ qn) qo a later less = cut_at_look false p c x po qn qo a.2 later.1 less

-- ---- the positions of one maker's events

module _ {X : Type 0} where
  pub taken_if : (m who : ℕ) (a b : X) → m ≡ who → (if m == who then a else b) ≡ a
  taken_if m who a b same = ap (λ (t : Bool). if t then a else b) (eq-eqb m who same)

  pub passed_if : (m who : ℕ) (a b : X) → m ≢ who → (if m == who then a else b) ≡ b
  passed_if m who a b other = ap (λ (t : Bool). if t then a else b) (ne_eqb m who other)

  pub either_if : (P : X → Type 0) (m who : ℕ) (a b : X) → (m ≡ who → P a) → (m ≢ who → P b) → P (if m == who then a else b)
  either_if P m who a b own another = dite (ℕ_discrete m who)
      (λ (same : m ≡ who). subst P (sym (taken_if m who a b same)) (own same))
      (λ (other : m ≢ who). subst P (sym (passed_if m who a b other)) (another other))

less_more : (n : ℕ) (xs : List ℕ) → AllLess n xs → AllLess (suc n) xs
less_more n [] all = tt
less_more n (x ∷ xs) all = (let low : x < n = all.0 in omega arith, less_more n xs all.1)

pub places_less : (who : ℕ) (ms : List ℕ) → AllLess (length ms) (ranks who ms)
places_less who [] = tt
places_less who (m ∷ ms) =
    let rest : AllLess (suc (length ms)) (ranks who ms) = less_more (length ms) (ranks who ms) (places_less who ms) in
    either_if (AllLess (suc (length ms))) m who (length ms ∷ ranks who ms) (ranks who ms) (λ same. (omega arith, rest)) (λ other. rest)

-- the positions of later events and of earlier ones
pub record Split (who : ℕ) (later before : List ℕ) : Type 0 where
  pub newer : List ℕ
  pub is : ranks who (later ++ before) ≡ newer ++ ranks who before
  pub least : AllLeast (length before) newer

length_both : (later before : List ℕ) → length before ≤ length (later ++ before)
length_both [] before = omega arith
length_both (m ∷ later) before = let low : length before ≤ length (later ++ before) = length_both later before in omega arith

pub split : (who : ℕ) (later before : List ℕ) → Split who later before
split who [] before = record { newer = []; is = refl; least = tt }
split who (m ∷ later) before =
    let rest = split who later before in
    dite (ℕ_discrete m who)
    (λ (same : m ≡ who). record {
      newer = length (later ++ before) ∷ rest.newer;
      is = taken_if m who (length (later ++ before) ∷ ranks who (later ++ before)) (ranks who (later ++ before)) same ∙ ap (λ (l : List ℕ). length (later ++ before) ∷ l) rest.is;
      least = (length_both later before, rest.least);
    })
    (λ (other : m ≢ who). record {
      newer = rest.newer;
      is = passed_if m who (length (later ++ before) ∷ ranks who (later ++ before)) (ranks who (later ++ before)) other ∙ rest.is;
      least = rest.least;
    })

more_least : (n : ℕ) (xs : List ℕ) → AllLeast (suc n) xs → AllMore n xs
more_least n [] all = tt
more_least n (x ∷ xs) all = (let low : suc n ≤ x = all.0 in omega arith, more_least n xs all.1)

-- the positions of events after one of the maker's own, that one, and those before it
pub split_at : (who : ℕ) (later before : List ℕ) → (x : List ℕ) × (ranks who (later ++ who ∷ before) ≡ x ++ length before ∷ ranks who before) × AllMore (length before) x
split_at who later before =
    let s = split who later (who ∷ before) in
    (s.newer, s.is ∙ ap (λ (l : List ℕ). s.newer ++ l) (taken_if who who (length before ∷ ranks who before) (ranks who before) refl), more_least (length before) s.newer s.least)
