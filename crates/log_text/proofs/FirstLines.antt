-- The first line of a text.
use Rattle.std.proofs.Common.{◌≡◌, ◌≢◌, ℕ, suc, ◌==◌, ◌+◌, ◌<◌, ◌≤◌, Bool, true, false, List, [], ◌∷◌, length, take, drop, if◌then◌else◌, refl, sym, ap, arith}
use Rattle.std.specs.List.{onto_first}
use Rattle.std.proofs.lemmas.Bool.{eqb-true}
use Rattle.sleep_base.specs.Cutting.{before}
use Rattle.log_text.specs.Grammar.{lines}

cut_at : (text : List ℕ) → length (before 10 text) < length text → lines text ≡ take (suc (length (before 10 text))) text ∷ lines (drop (suc (length (before 10 text))) text)
cut_at [] h = absurd (omega arith)
cut_at (b ∷ text) h = on (b == 10) refl h (cut_at text)
  where
    on : (t : Bool) → (b == 10) ≡ t → length (if t then [] else b ∷ before 10 text) < length (b ∷ text) →
        (length (before 10 text) < length text → lines text ≡ take (suc (length (before 10 text))) text ∷ lines (drop (suc (length (before 10 text))) text)) →
        (if t then (10 ∷ []) ∷ lines text else onto_first b (lines text))
        ≡ take (suc (length (if t then [] else b ∷ before 10 text))) (b ∷ text) ∷ lines (drop (suc (length (if t then [] else b ∷ before 10 text))) (b ∷ text))
    on true e l ih = let same : b ≡ 10 = eqb-true b 10 e in ap (λ (x : ℕ). (x ∷ []) ∷ lines text) (sym same)
    on false e l ih = ap (onto_first b) (ih (omega arith))

whole_at : (text : List ℕ) → length text ≤ length (before 10 text) → text ≢ [] → lines text ≡ text ∷ []
whole_at [] h n = absurd (n refl)
whole_at (b ∷ []) h n = on (b == 10) refl h
  where
    on : (t : Bool) → (b == 10) ≡ t → 1 ≤ length (if t then [] else b ∷ []) → (if t then (10 ∷ []) ∷ [] else onto_first b []) ≡ (b ∷ []) ∷ []
    on true e l = absurd (omega arith)
    on false e l = refl
whole_at (b ∷ c ∷ text) h n = on (b == 10) refl h (λ l. whole_at (c ∷ text) l (λ e. cc))
  where
    on : (t : Bool) → (b == 10) ≡ t → length (b ∷ c ∷ text) ≤ length (if t then [] else b ∷ before 10 (c ∷ text)) →
        (length (c ∷ text) ≤ length (before 10 (c ∷ text)) → lines (c ∷ text) ≡ (c ∷ text) ∷ []) →
        (if t then (10 ∷ []) ∷ lines (c ∷ text) else onto_first b (lines (c ∷ text))) ≡ (b ∷ c ∷ text) ∷ []
    on true e l ih = absurd (omega arith)
    on false e l ih = ap (onto_first b) (ih (omega arith))

-- cut after the first newline
pub line_cut : (text front : List ℕ) → front ≡ before 10 text → length front < length text → lines text ≡ take (length front + 1) text ∷ lines (drop (length front + 1) text)
line_cut text front e h =
    let one : length front + 1 ≡ suc (length (before 10 text)) = let l = ap length e in omega (arith, l) in
    let within : length (before 10 text) < length text = let l = ap length e in omega (arith, l) in
    rw one (cut_at text within)

-- without a newline the text is the line
pub line_whole : (text front : List ℕ) → front ≡ before 10 text → length text ≤ length front → text ≢ [] → lines text ≡ text ∷ []
line_whole text front e h n = whole_at text (let l = ap length e in omega (arith, l)) n
