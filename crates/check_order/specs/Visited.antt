-- Walks below a device that go into none twice.
use Rattle.std.specs.Prelude.{◌≡◌, ◌<◌, ℕ, zero, suc, false, List, [], ◌∷◌, length, if◌then◌else◌, slice_index_or}
use Rattle.sleep_model.specs.Order.{is_among}
use Rattle.check_order.specs.declared.walk.VisitedDevices.{VisitedDevices}

-- d in front of these, if it is not among them (list_move_tail)
abbrev pub put_first : ℕ → List ℕ → List ℕ
put_first d out = if is_among out d then out else d ∷ out

-- each of these is visited, from the last to the first (device_for_each_child)
abbrev pub all_visited : (ℕ → List ℕ → List ℕ) → List ℕ → List ℕ → List ℕ
all_visited visit [] out = out
all_visited visit (c ∷ cs) out = visit c (all_visited visit cs out)

-- what was visited once d was, with its dependents to some level: each once, in front of its dependents (device_reorder_to_tail)
abbrev pub visited : ℕ → (ℕ → List ℕ) → ℕ → List ℕ → List ℕ
visited zero dependents_of d out = put_first d out
visited (suc levels) dependents_of d out =
    if is_among out d then out else put_first d (all_visited (visited levels dependents_of) (dependents_of d) out)

-- each of the first n devices is marked if it was visited (own)
pub record AreMarked (n : ℕ) (v : VisitedDevices) : Type 0 where
  pub count : length v.marks ≡ n
  pub marked : (d : ℕ) → d < n → slice_index_or v.marks d false ≡ is_among v.out d

-- after this the visited devices are those, and they are marked (own)
pub record Leaves (n : ℕ) (out : List ℕ) (v : VisitedDevices) : Type 0 where
  pub marked : AreMarked n v
  pub visited : v.out ≡ out
