-- The links at the end of a log that adds one between the first two of three devices.
use Rattle.std.proofs.Common.{◌≡◌, ℕ, true, List, [], ◌∷◌, Option, Some, None, refl, arith}
use Rattle.sleep_model.specs.declared.entry.Entry.{Entry}
use Rattle.sleep_model.specs.declared.machine.Link.{Link}
use Rattle.device_links.specs.Passes.{CanBeAdded}
use Rattle.sleep_stats.specs.Linked.{added_by}

-- after a machine without links they are in order
pub stand : (parents : List (Option ℕ)) (links : List Link) (entries : List Entry) → parents ≡ None ∷ None ∷ Some 1 ∷ [] → links ≡ [] → added_by [] entries ≡ record { supplier = 0; consumer = 1; active = true } ∷ []
    → CanBeAdded parents (added_by links entries)
stand parents links entries ps none one = rw (ps, none, one) (record { few = omega arith; linked = (omega arith, omega arith, refl, refl, tt) })
