-- Laws of every log of suspend-to-idle (kernel/power/suspend.c, s2idle_loop).
use Rattle.std.specs.Prelude.{◌≡◌, ℕ, List}
use Rattle.idle_gate.specs.declared.state.IdleState.TheVariants as state
use Rattle.idle_loop.specs.declared.entry.IdleEntry.{IdleEntry}
use Rattle.idle_loop.specs.declared.entry.IdleSizes.{IdleSizes}
use Rattle.idle_loop.specs.IdleLogs.{IsIdleLog, IsOver, NoneIsLost, state_after, since_begin}

-- no legal log loses a wakeup (s2idle_enter, s2idle_wake)
abbrev pub LosesNone : Type 0
LosesNone = (z : IdleSizes) (past : List IdleEntry) → IsIdleLog z past → NoneIsLost past

-- a legal log that is over and ends in idle has no hard event since the last begin (s2idle_loop)
abbrev pub SleepsOverNone : Type 0
SleepsOverNone = (z : IdleSizes) (past : List IdleEntry) → IsIdleLog z past → IsOver z past → state_after past ≡ state.Enter → (who : ℕ) → since_begin who past ≡ 0
