-- The idler's state with its guard (kernel/power/suspend.c, s2idle_state).
use Rattle.std.specs.Prelude.{ℕ, Bool, true, false}
use Rattle.idle_gate.specs.declared.state.IdleState.{IdleState}
use Rattle.idle_gate.specs.declared.state.IdleState.TheVariants as state

-- a wake takes Enter to Wake and leaves each other state (s2idle_wake)
abbrev pub woken : IdleState → IdleState
woken state.Idle = state.Idle
woken state.Enter = state.Wake
woken state.Wake = state.Wake

-- whether the idler has entered
abbrev pub is_entered : IdleState → Bool
is_entered state.Idle = false
is_entered state.Enter = true
is_entered state.Wake = false

-- the state, whether a session is open, how many were begun, and the hard number that the last of them forgot (s2idle_state,
-- pm_wakeup_clear)
pub record Gate : Type 0 where
  pub state : IdleState
  pub in_session : Bool
  pub begun : ℕ
  pub forgotten : ℕ

-- after a look: it entered, or the session is over (s2idle_enter)
abbrev pub tried : Bool → Gate → Gate
tried true g = record g { state = state.Enter }
tried false g = record g { in_session = false }

-- whether a waker has called (s2idle_wake)
abbrev pub is_waked : IdleState → Bool
is_waked state.Idle = false
is_waked state.Enter = false
is_waked state.Wake = true

-- the state after the wait: one that was waked is awake (s2idle_enter)
abbrev pub left : IdleState → IdleState
left state.Idle = state.Idle
left state.Enter = state.Enter
left state.Wake = state.Idle
