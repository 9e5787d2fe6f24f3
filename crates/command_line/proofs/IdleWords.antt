-- The words after idle.
use Rattle.std.proofs.Common.{ℕ, ◌≡◌, ◌≢◌, ◌∙◌, ◌++◌, Bool, cond, true, false, List, [], ◌∷◌, length, map, get_or, ◌<◌, ◌≤◌, take, drop, Option, Some, None, refl, sym, ap, subst, codes, take-append-drop, arith}
use Rattle.std.specs.Str.{bytes_eq}
use Rattle.command_line.specs.Words.{command_in, command_of, idle_of, idle_sizes, number_in, parsed_of, workers_number, workers_prefix}
use Rattle.command_line.proofs.Named.{other_text, same_text}

if_true : (b : Bool) (a c : Option ℕ) → b ≡ true → cond b a c ≡ a
if_true b a c is = ap (λ (t : Bool). cond t a c) is

if_false : (b : Bool) (a c : Option ℕ) → b ≡ false → cond b a c ≡ c
if_false b a c is = ap (λ (t : Bool). cond t a c) is

-- a word that begins with the option's name
pub number_after : (word rest : List ℕ) → word ≡ workers_prefix ++ rest → workers_number word ≡ number_in 1 64 rest
number_after word rest is = ap workers_number is ∙ refl

-- and one that does not
pub no_number : (word : List ℕ) → ((rest : List ℕ) → word ≢ workers_prefix ++ rest) → workers_number word ≡ None
no_number word lacks = go (bytes_eq (take (length workers_prefix) word) workers_prefix) refl
  where
    go : (b : Bool) → bytes_eq (take (length workers_prefix) word) workers_prefix ≡ b → workers_number word ≡ None
    go false e = if_false (bytes_eq (take (length workers_prefix) word) workers_prefix) (number_in 1 64 (drop (length workers_prefix) word)) None e
    go true e = absurd (lacks (drop (length workers_prefix) word) (sym (take-append-drop (length workers_prefix) word) ∙ ap (λ (l : List ℕ). l ++ drop (length workers_prefix) word) (same_text (take (length workers_prefix) word) workers_prefix e)))

module _ {S : Type 0} (f : S → List ℕ) where
  -- more than three words are no sizes
  pub many_sizes : (words : List S) (after : List (List ℕ)) (workers : ℕ) → 4 ≤ length words → None ≡ idle_sizes (map f words ++ after) workers
  many_sizes [] after workers high = absurd (omega (arith, high))
  many_sizes (w ∷ []) after workers high = absurd (omega (arith, high))
  many_sizes (w ∷ e ∷ []) after workers high = absurd (omega (arith, high))
  many_sizes (w ∷ e ∷ s ∷ []) after workers high = absurd (omega (arith, high))
  many_sizes (w ∷ e ∷ s ∷ more ∷ words) after workers high = refl

  -- words that begin with another than idle
  pub few_words : (words : List S) → length words < 2 → parsed_of (map f words) ≡ command_of (map f words)
  few_words [] low = refl
  few_words (n ∷ []) low = refl
  few_words (n ∷ w ∷ words) low = absurd (omega (arith, low))

  pub other_words : (words : List S) (w : S) → 2 ≤ length words → w ≡ get_or words 1 w → bytes_eq (f w) (codes "idle") ≡ false → parsed_of (map f words) ≡ command_of (map f words)
  other_words [] w low is other = absurd (omega (arith, low))
  other_words (n ∷ []) w low is other = absurd (omega (arith, low))
  other_words (n ∷ v ∷ words) w low is other = sym (ap (λ (b : Bool). cond b (idle_of (map f words)) (command_in (f v ∷ map f words))) (ap (λ (u : S). bytes_eq (f u) (codes "idle")) (sym is) ∙ other))
