-- The first line of a text, and what follows it.
use Rattle.std.proofs.Common.{◌≡◌, ◌≢◌, ℕ, ◌==◌, ◌<◌, ◌≤◌, Bool, true, false, List, [], ◌∷◌, length, if◌then◌else◌, refl, ap, arith}
use Rattle.std.specs.List.{onto_first}
use Rattle.sleep_base.specs.Cutting.{before, after_first}
use Rattle.lock_commands.specs.Lines.{lines}

-- what follows is no longer than the text
no_longer : (mark : ℕ) (text : List ℕ) → length (after_first mark text) ≤ length text
no_longer mark [] = omega arith
no_longer mark (b ∷ text) = on (b == mark) (no_longer mark text)
  where
    on : (t : Bool) → length (after_first mark text) ≤ length text → length (if t then text else after_first mark text) ≤ length (b ∷ text)
    on true ih = omega arith
    on false ih = omega arith

-- what follows the first line is shorter than the text
pub shorter : (text : List ℕ) → text ≢ [] → length (after_first 10 text) < length text
shorter [] n = absurd (n refl)
shorter (b ∷ text) n = on (b == 10) (no_longer 10 text)
  where
    on : (t : Bool) → length (after_first 10 text) ≤ length text → length (if t then text else after_first 10 text) < length (b ∷ text)
    on true ih = omega arith
    on false ih = omega arith

-- the lines are the first one and those of the rest
pub first_of : (text : List ℕ) → text ≢ [] → lines text ≡ before 10 text ∷ lines (after_first 10 text)
first_of [] n = absurd (n refl)
first_of (b ∷ []) n = on (b == 10)
  where
    on : (t : Bool) → (if t then [] ∷ [] else onto_first b []) ≡ (if t then [] else b ∷ []) ∷ lines (if t then [] else [])
    on true = refl
    on false = refl
first_of (b ∷ c ∷ text) n = on (b == 10) (first_of (c ∷ text) (λ e. cc))
  where
    on : (t : Bool) → lines (c ∷ text) ≡ before 10 (c ∷ text) ∷ lines (after_first 10 (c ∷ text)) →
        (if t then [] ∷ lines (c ∷ text) else onto_first b (lines (c ∷ text)))
        ≡ (if t then [] else b ∷ before 10 (c ∷ text)) ∷ lines (if t then c ∷ text else after_first 10 (c ∷ text))
    on true ih = refl
    on false ih = ap (onto_first b) ih
