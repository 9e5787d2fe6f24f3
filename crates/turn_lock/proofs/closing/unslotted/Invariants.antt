-- The invariant of the loop of `unslotted`.
use Rattle.std.proofs.Common.{◌≡◌, ◌<◌, ℕ, false, get_or, vec_len, vec_capacity}
use Rattle.std.specs.Slots.{slots_items, slots_len, slots_filled}
use Rattle.std.specs.Slots.Ownership.{Filled}
use Rattle.turn_lock.specs.Passing.{AreOut}
use Rattle.turn_lock.proofs.closing.unslotted.Given as goal

abbrev pub invariant-loop-i : goal.invariant-loop-i
invariant-loop-i g l = (slots_items l.closed.slots ≡ slots_items l.fn.closed.slots) × (slots_len l.closed.slots ≡ slots_len l.fn.closed.slots)
    × Filled (slots_filled l.closed.slots) l.i (slots_len l.closed.slots) × ((k : ℕ) → k < l.i → get_or (slots_filled l.closed.slots) k false ≡ false)
    × (vec_len l.values ≡ l.i) × (vec_capacity l.values ≡ vec_capacity l.fn.values) × AreOut l.values.items (slots_items l.fn.closed.slots)
