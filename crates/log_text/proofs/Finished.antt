-- The line `finished`, and what follows it.
use Rattle.std.proofs.Common.{◌≡◌, ◌∙◌, inl, ℕ, ◌==◌, ◌+◌, Bool, true, false, List, [], ◌∷◌, ◌++◌, length, bytes_eq, if◌then◌else◌, refl, sym, ap, subst, arith, append-nil}
use Rattle.std.specs.List.{onto_first}
use Rattle.std.specs.Cmp.Lexicographic.{bytes_decides}
use Rattle.sleep_model.specs.declared.machine.Machine.{Machine}
use Rattle.sleep_model.specs.Text.{newline}
use Rattle.log_text.specs.Grammar.{lines, finished_line, IsBadAfterEnd, IsBadEnd}

nothing : (xs : List ℕ) → length xs ≡ 0 → xs ≡ []
nothing [] h = refl
nothing (x ∷ xs) h = absurd (omega arith)

pub finished_text : (line behind bytes : List ℕ) → line ++ behind ≡ bytes → bytes_eq line finished_line ≡ true → length behind ≡ 0 → bytes ≡ finished_line
finished_text line behind bytes j h n =
    sym j ∙ ap (λ (x : List ℕ). line ++ x) (nothing behind n) ∙ append-nil line ∙ (bytes_decides line finished_line).0 h

after_bad : (behind : List ℕ) (n : ℕ) → (length behind ≡ 0 → ⊥) → IsBadAfterEnd (lines behind) n n
after_bad [] n h = absurd (h refl)
after_bad (b ∷ bytes) n h = on (b == 10) (lines bytes)
  where
    on : (t : Bool) (ls : List (List ℕ)) → IsBadAfterEnd (if t then newline ∷ ls else onto_first b ls) n n
    on true ls = refl
    on false [] = refl
    on false (l ∷ ls) = refl

pub finished_bad : (m : Machine) (line behind bytes : List ℕ) (n k : ℕ) → lines bytes ≡ line ∷ lines behind → bytes_eq line finished_line ≡ true → (length behind ≡ 0 → ⊥) → k ≡ n + 1 → IsBadEnd m (lines bytes) n k
finished_bad m line behind bytes n k s h more next =
    subst (λ (t : List (List ℕ)). IsBadEnd m t n k) (sym s)
    (inl ((bytes_decides line finished_line).0 h, subst (λ (j : ℕ). IsBadAfterEnd (lines behind) (n + 1) j) (sym next) (after_bad behind (n + 1) more)))
