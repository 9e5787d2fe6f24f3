-- The invariant of the loop of `read_entries`, and the number that falls each time.
use Rattle.std.proofs.Common.{◌≡◌, ◌++◌, ℕ, true, length, flat_map}
use Rattle.std.specs.List.{list_all}
use Rattle.sleep_model.specs.Fits.{fits_entry}
use Rattle.sleep_model.specs.Text.{entry_line}
use Rattle.log_text.specs.Grammar.{lines, IsBadEntry}
use Rattle.log_text.specs.Named.{AreNamed}
use Rattle.log_text.proofs.reading.read.read_entries.Given as goal

-- the entries so far are the text up to what is left, and the first bad line is the first bad one there
abbrev pub invariant-loop-reader : goal.invariant-loop-reader
invariant-loop-reader l =
    (l.bytes ≡ flat_map (entry_line l.machine_names) l.entries ++ l.left)
    × (list_all (fits_entry l.machine_names) l.entries ≡ true)
    × (AreNamed l.machine_names → (n : ℕ) → IsBadEntry l.machine_names (lines l.left) l.number n → IsBadEntry l.machine_names (lines l.bytes) 1 n)

abbrev pub decreases-loop-reader : goal.decreases-loop-reader
decreases-loop-reader l = length l.left
