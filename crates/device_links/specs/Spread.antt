-- Marks that spread in the order of devices to all that depends on a marked one.
use Rattle.std.specs.Prelude.{ℕ, Bool, true, false, List, [], ◌∷◌, if◌then◌else◌, slice_index_or, slice_set}

-- these marks, and each device of the row
abbrev pub marked : List ℕ → List Bool → List Bool
marked [] marks = marks
marked (x ∷ xs) marks = marked xs (slice_set marks x true)

-- the marks after one device: if it is marked, all that depends directly on it is
abbrev pub spread_by : (ℕ → List ℕ) → ℕ → List Bool → List Bool
spread_by dependents_of d marks = if slice_index_or marks d false then marked (dependents_of d) marks else marks

-- the marks after these devices in turn
abbrev pub spread : (ℕ → List ℕ) → List ℕ → List Bool → List Bool
spread dependents_of [] marks = marks
spread dependents_of (d ∷ ds) marks = spread dependents_of ds (spread_by dependents_of d marks)
