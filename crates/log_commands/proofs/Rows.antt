-- Lines that are put together of words.
use Rattle.std.proofs.Common.{◌≡◌, ◌++◌, ◌∙◌, ℕ, List, sym, ap, append_assoc}

-- two words are put after a text
pub row_more : (old mid new row word name written : List ℕ) → mid ≡ old ++ row → new ≡ mid ++ (word ++ written) → written ≡ name → new ≡ old ++ ((row ++ word) ++ name)
row_more old mid new row word name written before put is =
    put ∙ (ap (λ (n : List ℕ). mid ++ (word ++ n)) is ∙ (ap (λ (xs : List ℕ). xs ++ (word ++ name)) before
    ∙ (append_assoc old row (word ++ name) ∙ ap (λ (xs : List ℕ). old ++ xs) (sym (append_assoc row word name)))))

-- the row ends
pub row_end : (old mid new row end : List ℕ) → mid ≡ old ++ row → new ≡ mid ++ end → new ≡ old ++ (row ++ end)
row_end old mid new row end before last = last ∙ (ap (λ (xs : List ℕ). xs ++ end) before ∙ append_assoc old row end)
