-- The invariant of the loop of `read_sources`.
use Rattle.std.proofs.Common.{◌≡◌, ◌++◌, ◌∷◌, [], ℕ, ◌+◌, true, length, vec_capacity, take, drop, codes}
use Rattle.std.specs.List.{list_all}
use Rattle.sleep_model.specs.Fits.{fits_stats}
use Rattle.sleep_model.specs.Text.{source_lines, source_names}
use Rattle.log_text.specs.Grammar.{lines, IsBadSource}
use Rattle.log_text.proofs.reading.read.read_sources.Given as goal

-- the statistics so far are the text up to what is left, and the first bad line is the first bad one there
abbrev pub invariant-loop-i : goal.invariant-loop-i
invariant-loop-i l =
    (l.bytes ≡ source_lines (take l.i l.machine.sources) l.all.items ++ l.left)
    × (length l.all.items ≡ l.i)
    × (list_all fits_stats l.all.items ≡ true)
    × ((n : ℕ) → IsBadSource l.machine (drop l.i l.machine.sources ++ codes "autosleep" ∷ []) (lines l.left) l.number n → IsBadSource l.machine (source_names l.machine) (lines l.bytes) l.first n)
    × (vec_capacity l.all ≡ length l.machine.sources + 1)
