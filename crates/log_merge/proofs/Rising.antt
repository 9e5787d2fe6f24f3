-- A journal rises if each entry rises after the one before it.
use Rattle.std.proofs.Common.{◌≡◌, ℕ, ◌+◌, ◌-◌, ◌<◌, ◌≤◌, zero, suc, Bool, true, false, ◌&&◌, List, [], ◌∷◌, length, get_or, drop, refl, sym, ap, ◌∙◌, arith}
use Rattle.sleep_model.specs.declared.entry.JournalEntry.{JournalEntry}
use Rattle.sleep_model.specs.Merge.{rises}
use Rattle.log_merge.specs.Journals.{rises_on_entry}

step_at : (n : ℕ) (xs : List JournalEntry) (d : JournalEntry) → suc n < length xs
    → rises (drop n xs) ≡ rises_on_entry (get_or xs n d) (get_or xs (suc n) d) && rises (drop (suc n) xs)
step_at n [] d l = absurd (omega arith)
step_at zero (x ∷ []) d l = absurd (omega arith)
step_at zero (x ∷ y ∷ rest) d l = refl
step_at (suc n) (x ∷ xs) d l = step_at n xs d (omega arith)

last_rises : (n : ℕ) (xs : List JournalEntry) → length xs ≤ suc n → rises (drop n xs) ≡ true
last_rises zero [] l = refl
last_rises zero (x ∷ []) l = refl
last_rises zero (x ∷ y ∷ rest) l = absurd (omega arith)
last_rises (suc n) [] l = refl
last_rises (suc n) (x ∷ xs) l = last_rises n xs (omega arith)

-- after an entry that rises
pub rises_on : (i : ℕ) (xs : List JournalEntry) (d : JournalEntry) → 1 ≤ i → i < length xs
    → rises_on_entry (get_or xs (i - 1) d) (get_or xs i d) ≡ true → rises xs ≡ rises (drop (i - 1) xs)
    → rises xs ≡ rises (drop (i + 1 - 1) xs)
rises_on zero xs d a l h e = absurd (omega arith)
rises_on (suc n) xs d a l h e =
    let one : suc n - 1 ≡ n = omega arith in
    let two : suc n + 1 - 1 ≡ suc n = omega arith in
    rw two (e ∙ ap (λ (k : ℕ). rises (drop k xs)) one ∙ step_at n xs d l
    ∙ ap (λ (b : Bool). b && rises (drop (suc n) xs))
    (ap (λ (k : ℕ). rises_on_entry (get_or xs k d) (get_or xs (suc n) d)) (sym one) ∙ h))

-- and after one that does not
pub rises_not : (i : ℕ) (xs : List JournalEntry) (d : JournalEntry) → 1 ≤ i → i < length xs
    → rises_on_entry (get_or xs (i - 1) d) (get_or xs i d) ≡ false → rises xs ≡ rises (drop (i - 1) xs) → rises xs ≡ false
rises_not zero xs d a l h e = absurd (omega arith)
rises_not (suc n) xs d a l h e =
    let one : suc n - 1 ≡ n = omega arith in
    e ∙ ap (λ (k : ℕ). rises (drop k xs)) one ∙ step_at n xs d l
    ∙ ap (λ (b : Bool). b && rises (drop (suc n) xs))
    (ap (λ (k : ℕ). rises_on_entry (get_or xs k d) (get_or xs (suc n) d)) (sym one) ∙ h)

-- none is left
pub rises_over : (i : ℕ) (xs : List JournalEntry) → 1 ≤ i → length xs ≤ i → rises xs ≡ rises (drop (i - 1) xs) → rises xs ≡ true
rises_over i xs a l e = e ∙ last_rises (i - 1) xs (omega arith)
