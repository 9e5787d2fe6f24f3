-- The idler's gate with its journal (kernel/power/suspend.c, s2idle_state, s2idle_lock).
use Rattle.std.specs.Prelude.{◌≡◌, ◌<◌, ◌≤◌, ◌+◌, ◌*◌, ℕ, Bool, true, false, List, [], Option, Some, None, length, slice_index_or}
use Rattle.idle_gate.specs.declared.state.IdleState.TheVariants as state
use Rattle.idle_loop.specs.declared.entry.IdleEntry.{IdleEntry}
use Rattle.idle_loop.specs.declared.entry.IdleSizes.{IdleSizes}
use Rattle.idle_gate.specs.Gates.{Gate}
use Rattle.idle_loop.specs.IdleLogs.{state_after, begun, wakes_of}
use Rattle.idle_loop.specs.Sizes.{AreSizes}
use Rattle.idle_loop.specs.Merging.{IsJournal, forgotten}

-- the sizes, the gate, the hard number that its latest entry saw, and its journal, the newest entry first (s2idle_state)
pub record GateLogState : Type 0 where
  pub sizes : IdleSizes
  pub gate : Gate
  pub seen : ℕ
  pub journal : List IdleEntry

-- before all entries (s2idle_state)
abbrev pub first_gate_log : IdleSizes → GateLogState
first_gate_log z = record { sizes = z; gate = record { state = state.Idle; in_session = false; begun = 0; forgotten = 0 }; seen = 0; journal = [] }

-- the most entries that a journal of these sizes has (own)
abbrev pub most_of : IdleSizes → ℕ
most_of z = 3 * (z.wakers * z.events) + 2 * z.sessions + 1

-- the gate forgot that number, if a session is open (pm_wakeup_clear)
abbrev pub Forgot : Bool → ℕ → Option ℕ → Type 0
Forgot false hard None = Unit {0}
Forgot false hard (Some f) = ⊥
Forgot true hard None = ⊥
Forgot true hard (Some f) = hard ≡ f

-- the journal is one of the gate, each waker keeps to its number, and the gate is what the journal says
pub record IsGateLog (z : IdleSizes) (gate : Gate) (journal : List IdleEntry) : Type 0 where
  pub sizes : AreSizes z
  pub legal : IsJournal z journal
  pub few : (who : ℕ) → wakes_of who journal ≤ z.events
  pub state : gate.state ≡ state_after journal
  pub session : Forgot gate.in_session gate.forgotten (forgotten journal)
  pub begun : (gate.begun ≡ begun journal) × (begun journal ≤ z.sessions)

-- each waker's wakes are counted (own)
pub record WakesAreCounted (z : IdleSizes) (woke : List ℕ) (journal : List IdleEntry) : Type 0 where
  pub count : length woke ≡ z.wakers
  pub each : (who : ℕ) → who < z.wakers → slice_index_or woke who 0 ≡ wakes_of who journal
