-- What a pass made of an object's entries, if its next act is the first of all.
use Rattle.std.proofs.Common.{◌≡◌, ◌<◌, ◌≤◌, ◌+◌, ◌==◌, ◌∙◌, ℕ, suc, Bool, true, false, cond, List, [], ◌∷◌, ◌++◌, length, refl, sym, ap, arith}
use Rattle.std.proofs.lemmas.Bool.Decides.{nat_tests}
use Rattle.turn_lock.specs.declared.view.Made.{Made}
use Rattle.turn_lock.specs.Bookings.{all_by, empty, made, made_by, of_object, placed}
use Rattle.run_laws.specs.Passes.{Noted}
use Rattle.running_laws.proofs.SerialNotes.{Ascends}

pub same_number : (k : ℕ) → (k == k) ≡ true
same_number k = grind (arith, nat_tests)

pub number_is : (m n : ℕ) → (m == n) ≡ true → m ≡ n
number_is m n h = grind (arith, nat_tests)

-- ---- in the log of an object

-- they are the entries from the position on
front_place : (k i p : ℕ) (es : List (ℕ × Noted)) (m : Made Noted) (ms : List (Made Noted)) → made_by k i p es ≡ m ∷ ms → p ≤ m.place
front_place k i p [] m ms h = absurd (cc)
front_place k i p (e ∷ es) m ms h = by (front_place k i (p + 1) es m ms) (e.0 == k) h
  where
    by : (made_by k i (p + 1) es ≡ m ∷ ms → p + 1 ≤ m.place) → (b : Bool) → cond b (made i p e.1 ∷ made_by k i (p + 1) es) (made_by k i (p + 1) es) ≡ m ∷ ms → p ≤ m.place
    by rest true g = let same : made i p e.1 ≡ m = cc in let at : p ≡ m.place = ap (λ (x : Made Noted). x.place) same in omega arith
    by rest false g = let l : p + 1 ≤ m.place = rest g in omega arith

-- and their ticks are above those before them
front_tick : (low k i p : ℕ) (es : List (ℕ × Noted)) (m : Made Noted) (ms : List (Made Noted)) → Ascends low (empty es) → made_by k i p es ≡ m ∷ ms → low < m.entry.entry.stamp.tick
front_tick low k i p [] m ms up h = absurd (cc)
front_tick low k i p (e ∷ es) m ms up h = by (front_tick e.1.entry.stamp.tick k i (p + 1) es m ms up.1) (e.0 == k) h
  where
    by : (made_by k i (p + 1) es ≡ m ∷ ms → e.1.entry.stamp.tick < m.entry.entry.stamp.tick) → (b : Bool) → cond b (made i p e.1 ∷ made_by k i (p + 1) es) (made_by k i (p + 1) es) ≡ m ∷ ms → low < m.entry.entry.stamp.tick
    by rest true g =
        let same : made i p e.1 ≡ m = cc in
        let at : e.1.entry.stamp.tick ≡ m.entry.entry.stamp.tick = ap (λ (x : Made Noted). x.entry.entry.stamp.tick) same in
        let above : low < e.1.entry.stamp.tick = up.0 in omega arith
    by rest false g =
        let l : e.1.entry.stamp.tick < m.entry.entry.stamp.tick = rest g in
        let above : low < e.1.entry.stamp.tick = up.0 in omega arith

-- an act's entries at the log's begin are the first of it
pub taken : (k i : ℕ) (notes : List Noted) (p : ℕ) (es : List (ℕ × Noted)) (more : List (Made Noted)) → made_by k i p es ≡ placed i p notes ++ more
    → (rest : List (ℕ × Noted)) × (es ≡ all_by k notes ++ rest) × (made_by k i (p + length notes) rest ≡ more)
taken k i [] p es more h = let plus : p + 0 ≡ p = omega arith in (es, refl, ap (λ (q : ℕ). made_by k i q es) plus ∙ h)
taken k i (n ∷ notes) p [] more h = absurd (let bad : [] ≡ made i p n ∷ (placed i (p + 1) notes ++ more) = h in cc)
taken k i (n ∷ notes) p (e ∷ es) more h = by (taken k i notes (p + 1) es more) (e.0 == k) refl h
  where
    by : (made_by k i (p + 1) es ≡ placed i (p + 1) notes ++ more → (rest : List (ℕ × Noted)) × (es ≡ all_by k notes ++ rest) × (made_by k i ((p + 1) + length notes) rest ≡ more))
        → (b : Bool) → (e.0 == k) ≡ b → cond b (made i p e.1 ∷ made_by k i (p + 1) es) (made_by k i (p + 1) es) ≡ made i p n ∷ (placed i (p + 1) notes ++ more)
        → (rest : List (ℕ × Noted)) × (e ∷ es ≡ (k, n) ∷ (all_by k notes ++ rest)) × (made_by k i (p + suc (length notes)) rest ≡ more)
    by go true is g =
        let one : e.0 ≡ k = number_is e.0 k is in
        let first : made i p e.1 ≡ made i p n = cc in
        let two : e.1 ≡ n = ap (λ (x : Made Noted). x.entry) first in
        let rest = go (cc) in
        let plus : (p + 1) + length notes ≡ p + suc (length notes) = omega arith in
        (rest.0, (λ t. (one t, two t) ∷ rest.1 t), ap (λ (q : ℕ). made_by k i q rest.0) (sym plus) ∙ rest.2)
    by go false is g = let l : p + 1 ≤ p = front_place k i (p + 1) es (made i p n) (placed i (p + 1) notes ++ more) g in absurd (omega arith)

-- whoever made the first entry of the log has it first of its own
pub head_made : (i p : ℕ) (e : ℕ × Noted) (es : List (ℕ × Noted)) → made_by e.0 i p (e ∷ es) ≡ made i p e.1 ∷ made_by e.0 i (p + 1) es
head_made i p e es = ap (λ (b : Bool). cond b (made i p e.1 ∷ made_by e.0 i (p + 1) es) (made_by e.0 i (p + 1) es)) (same_number e.0)

-- a pass's first entry is at the log's begin, if no pass's has a lower tick
pub ready : (k i p place : ℕ) (es : List (ℕ × Noted)) (n : Noted) (more : List (Made Noted)) → Ascends 0 (empty es) → made_by k i p es ≡ made i place n ∷ more
    → ((j : ℕ) (x : Made Noted) (xs : List (Made Noted)) → made_by j i p es ≡ x ∷ xs → n.entry.stamp.tick ≤ x.entry.entry.stamp.tick) → place ≡ p
ready k i p place [] n more up h least = absurd (let bad : [] ≡ made i place n ∷ more = h in cc)
ready k i p place (e ∷ es) n more up h least = by (e.0 == k) h
  where
    by : (b : Bool) → cond b (made i p e.1 ∷ made_by k i (p + 1) es) (made_by k i (p + 1) es) ≡ made i place n ∷ more → place ≡ p
    by true g = let same : made i p e.1 ≡ made i place n = cc in sym (ap (λ (x : Made Noted). x.place) same)
    by false g =
        let above : e.1.entry.stamp.tick < n.entry.stamp.tick = front_tick e.1.entry.stamp.tick k i (p + 1) es (made i place n) more up.1 g in
        let low : n.entry.stamp.tick ≤ e.1.entry.stamp.tick = least e.0 (made i p e.1) (made_by e.0 i (p + 1) es) (head_made i p e es) in
        absurd (omega arith)

-- a log of which no pass made anything is empty
pub none_left : (i p : ℕ) (es : List (ℕ × Noted)) → ((k : ℕ) → made_by k i p es ≡ []) → es ≡ []
none_left i p [] h = refl
none_left i p (e ∷ es) h = absurd (let bad : made i p e.1 ∷ made_by e.0 i (p + 1) es ≡ [] = sym (head_made i p e es) ∙ h e.0 in cc)

-- ---- in what a pass makes

-- ticks rise, from above this one
abbrev pub Rises : ℕ → List (Made Noted) → Type 0
Rises low [] = Unit {0}
Rises low (m ∷ ms) = (low < m.entry.entry.stamp.tick) × Rises m.entry.entry.stamp.tick ms

pub rises_low : (low other : ℕ) (ms : List (Made Noted)) → other ≤ low → Rises low ms → Rises other ms
rises_low low other [] l h = tt
rises_low low other (m ∷ ms) l h = let above : low < m.entry.entry.stamp.tick = h.0 in (omega arith, h.1)

pub rises_rest : (low : ℕ) (xs ys : List (Made Noted)) → Rises low (xs ++ ys) → Rises 0 ys
rises_rest low [] ys h = rises_low low 0 ys (omega arith) h
rises_rest low (x ∷ xs) ys h = rises_rest x.entry.entry.stamp.tick xs ys h.1

above : (i low : ℕ) (ms : List (Made Noted)) (x : Made Noted) (xs : List (Made Noted)) → Rises low ms → of_object i ms ≡ x ∷ xs → low < x.entry.entry.stamp.tick
above i low [] x xs up h = absurd (cc)
above i low (m ∷ ms) x xs up h = by (above i m.entry.entry.stamp.tick ms x xs up.1) (m.object == i) h
  where
    by : (of_object i ms ≡ x ∷ xs → m.entry.entry.stamp.tick < x.entry.entry.stamp.tick) → (b : Bool) → cond b (m ∷ of_object i ms) (of_object i ms) ≡ x ∷ xs → low < x.entry.entry.stamp.tick
    by rest true g =
        let same : m ≡ x = cc in
        let at : m.entry.entry.stamp.tick ≡ x.entry.entry.stamp.tick = ap (λ (y : Made Noted). y.entry.entry.stamp.tick) same in
        let l : low < m.entry.entry.stamp.tick = up.0 in omega arith
    by rest false g =
        let more : m.entry.entry.stamp.tick < x.entry.entry.stamp.tick = rest g in
        let l : low < m.entry.entry.stamp.tick = up.0 in omega arith

-- the first that it makes of all is not after the first that it makes of an object
pub first_low : (i low : ℕ) (ms : List (Made Noted)) (x : Made Noted) (xs : List (Made Noted)) → Rises low ms → of_object i ms ≡ x ∷ xs
    → (m : Made Noted) × (rest : List (Made Noted)) × (ms ≡ m ∷ rest) × (m.entry.entry.stamp.tick ≤ x.entry.entry.stamp.tick)
first_low i low [] x xs up h = absurd (cc)
first_low i low (m ∷ ms) x xs up h = (m, ms, refl, by (m.object == i) h)
  where
    by : (b : Bool) → cond b (m ∷ of_object i ms) (of_object i ms) ≡ x ∷ xs → m.entry.entry.stamp.tick ≤ x.entry.entry.stamp.tick
    by true g =
        let same : m ≡ x = cc in
        let at : m.entry.entry.stamp.tick ≡ x.entry.entry.stamp.tick = ap (λ (y : Made Noted). y.entry.entry.stamp.tick) same in omega arith
    by false g = let l : m.entry.entry.stamp.tick < x.entry.entry.stamp.tick = above i m.entry.entry.stamp.tick ms x xs up.1 g in omega arith
