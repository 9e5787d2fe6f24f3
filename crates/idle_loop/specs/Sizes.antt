-- The sizes of a run (kernel/power/suspend.c, s2idle_loop).
use Rattle.std.specs.Prelude.{◌≤◌, ℕ, Bool, true, false}
use Rattle.idle_loop.specs.declared.entry.IdleSizes.{IdleSizes}

-- 1 to 16 wakers, and 1 to 1,000 events and sessions (own)
pub record AreSizes (z : IdleSizes) : Type 0 where
  pub wakers : (1 ≤ z.wakers) × (z.wakers ≤ 16)
  pub events : (1 ≤ z.events) × (z.events ≤ 1000)
  pub sessions : (1 ≤ z.sessions) × (z.sessions ≤ 1000)

-- one if a wake is still to be made
abbrev pub owed : Bool → ℕ
owed true = 1
owed false = 0
