-- Texts that are the same, by words of them that are.
use Rattle.std.proofs.Common.{◌≡◌, ◌≤◌, ◌<◌, ◌+◌, ◌-◌, ◌∙◌, ℕ, List, ◌++◌, length, get_or, take, drop, refl, sym, ap, ap₂, arith}
use Rattle.std.specs.Int.{w32, w64, to_le_bytes, from_le_bytes}
use Rattle.std.proofs.lemmas.Nat.{le_bytes_4, le_bytes_8}
use Rattle.std.proofs.lemmas.List.{drop-drop, take-append-drop}

-- eight bytes that spell one number are the same
pub same_8 : (xs ys : List ℕ) (n m : ℕ) → length xs ≡ 8 → length ys ≡ 8 → ((i : ℕ) → get_or xs i 0 < 256) → ((i : ℕ) → get_or ys i 0 < 256)
    → n ≡ from_le_bytes w64 xs → m ≡ from_le_bytes w64 ys → n ≡ m → xs ≡ ys
same_8 xs ys n m l k bx by x y same = sym (le_bytes_8 xs n l bx x) ∙ (ap (to_le_bytes w64) same ∙ le_bytes_8 ys m k by y)

-- four bytes that spell one number are the same
pub same_4 : (xs ys : List ℕ) (n m : ℕ) → length xs ≡ 4 → length ys ≡ 4 → ((i : ℕ) → get_or xs i 0 < 256) → ((i : ℕ) → get_or ys i 0 < 256)
    → n ≡ from_le_bytes w32 xs → m ≡ from_le_bytes w32 ys → n ≡ m → xs ≡ ys
same_4 xs ys n m l k bx by x y same = sym (le_bytes_4 xs n l bx x) ∙ (ap (to_le_bytes w32) same ∙ le_bytes_4 ys m k by y)

-- texts of one length, at most 2 k, are the same if their first k bytes are, and their last k
pub same_by_ends : (k : ℕ) (xs ys : List ℕ) → length xs ≡ length ys → length ys ≤ k + k → k ≤ length ys → take k xs ≡ take k ys
    → drop (length xs - k) xs ≡ drop (length ys - k) ys → xs ≡ ys
same_by_ends k xs ys same few enough heads lasts =
    let after : (zs : List ℕ) → length zs ≡ length ys → drop k zs ≡ drop (k + k - length ys) (drop (length zs - k) zs) =
    λ zs l. sym (drop-drop (k + k - length ys) (length zs - k) zs ∙ ap (λ (n : ℕ). drop n zs) (omega (arith, l, few, enough))) in
    let tails : drop k xs ≡ drop k ys = after xs same ∙ (ap (drop (k + k - length ys)) lasts ∙ sym (after ys refl)) in
    sym (take-append-drop k xs) ∙ (ap₂ (λ (s t : List ℕ). s ++ t) heads tails ∙ take-append-drop k ys)
