-- The invariant of the loop of `read_stuck`, and the number that falls each time.
use Rattle.std.proofs.Common.{◌≡◌, ◌++◌, ◌&&◌, ℕ, true, length, flat_map}
use Rattle.std.specs.List.{list_all}
use Rattle.sleep_model.specs.Fits.{fits_script, fits_cause}
use Rattle.sleep_model.specs.Text.{waiting_line}
use Rattle.log_text.specs.Grammar.{lines, IsBadStuck}
use Rattle.log_text.proofs.reading.read.read_stuck.Given as goal

-- the scripts so far are the text up to what is left, and the first bad line is the first bad one there
abbrev pub invariant-loop-left : goal.invariant-loop-left
invariant-loop-left l =
    (l.bytes ≡ flat_map (waiting_line l.machine_names) l.all.items ++ l.left)
    × (list_all (λ w. fits_script l.machine_names w.actor && fits_cause l.machine_names w.why) l.all.items ≡ true)
    × ((n : ℕ) → IsBadStuck l.machine_names (lines l.left) l.number n → IsBadStuck l.machine_names (lines l.bytes) l.first n)

abbrev pub decreases-loop-left : goal.decreases-loop-left
decreases-loop-left l = length l.left
