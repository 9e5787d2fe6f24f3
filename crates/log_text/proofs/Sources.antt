-- The lines of the sources, as a loop over the machine's sources and the statistics leaves them.
use Rattle.std.proofs.Common.{◌≡◌, ℕ, ◌+◌, ◌<◌, ◌≤◌, List, [], ◌∷◌, ◌++◌, length, get_or, drop, codes, min, refl, sym, ◌∙◌, ap, append_assoc, append-nil, arith}
use Rattle.std.proofs.lemmas.List.{drop_more, drop_all}
use Rattle.sleep_model.specs.declared.log.Stats.{Stats}
use Rattle.sleep_model.specs.Text.{source_line, source_lines}

-- the lines from the source with that number on
abbrev pub lines_from : List (List ℕ) → List Stats → ℕ → List ℕ
lines_from names stats k = source_lines (drop k names ++ codes "autosleep" ∷ []) (drop k stats)

-- with no statistics there is no line
no_lines : (names : List (List ℕ)) → source_lines names [] ≡ []
no_lines [] = refl
no_lines (name ∷ names) = refl

-- the source with that number comes first
lines_more : (names : List (List ℕ)) (stats : List Stats) (k : ℕ) (name : List ℕ) (own : Stats) → k < length names → k < length stats → name ≡ get_or names k name → own ≡ get_or stats k own → lines_from names stats k ≡ source_line name own ++ lines_from names stats (k + 1)
lines_more names stats k name own in_names in_stats at_name at_own =
    let first : drop k names ≡ name ∷ drop (k + 1) names = drop_more names k name in_names ∙ ap (λ (x : List ℕ). x ∷ drop (k + 1) names) (sym at_name) in
    let second : drop k stats ≡ own ∷ drop (k + 1) stats = drop_more stats k own in_stats ∙ ap (λ (x : Stats). x ∷ drop (k + 1) stats) (sym at_own) in
    rw (first, second)

-- a line that is written is left out of the rest
pub written_more : (names : List (List ℕ)) (stats : List Stats) (k : ℕ) (out all name : List ℕ) (own : Stats) → k < length names → k < length stats → name ≡ get_or names k name → own ≡ get_or stats k own → out ++ lines_from names stats k ≡ all → (out ++ source_line name own) ++ lines_from names stats (k + 1) ≡ all
written_more names stats k out all name own in_names in_stats at_name at_own so_far =
    append_assoc out (source_line name own) (lines_from names stats (k + 1))
    ∙ ap (λ (x : List ℕ). out ++ x) (sym (lines_more names stats k name own in_names in_stats at_name at_own))
    ∙ so_far

-- if there are more statistics than the machine's sources, the line of `autosleep` is left at the end
pub written_last : (names : List (List ℕ)) (stats : List Stats) (k : ℕ) (out all : List ℕ) (own : Stats) → k ≡ min (length names) (length stats) → length names < length stats → own ≡ get_or stats (length names) own → out ++ lines_from names stats k ≡ all → out ++ source_line (codes "autosleep") own ≡ all
written_last names stats k out all own at_end below at_own so_far =
    let last : k ≡ length names = omega arith in
    let first : drop k names ≡ [] = drop_all k names (omega arith) in
    let second : drop k stats ≡ own ∷ drop (k + 1) stats = rw last (drop_more stats (length names) own below ∙ ap (λ (x : Stats). x ∷ drop (length names + 1) stats) (sym at_own)) in
    let line : lines_from names stats k ≡ source_line (codes "autosleep") own = rw (first, second) (append-nil (source_line (codes "autosleep") own)) in
    ap (λ (x : List ℕ). out ++ x) (sym line) ∙ so_far

-- if there are no more statistics than the machine's sources, no line is left at the end
pub written_all : (names : List (List ℕ)) (stats : List Stats) (k : ℕ) (out all : List ℕ) → k ≡ min (length names) (length stats) → length stats ≤ length names → out ++ lines_from names stats k ≡ all → out ≡ all
written_all names stats k out all at_end above so_far =
    let none : lines_from names stats k ≡ [] = rw (drop_all k stats (omega arith)) (no_lines (drop k names ++ codes "autosleep" ∷ [])) in
    sym (append-nil out) ∙ ap (λ (x : List ℕ). out ++ x) (sym none) ∙ so_far
