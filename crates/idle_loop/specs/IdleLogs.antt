-- A log of suspend-to-idle (kernel/power/suspend.c, s2idle_loop). The entries before one are listed newest first.
use Rattle.std.specs.Prelude.{◌≡◌, ◌<◌, ◌+◌, ◌==◌, ◌++◌, if◌then◌else◌, ℕ, Bool, true, false, List, [], ◌∷◌, Option, Some, None, reverse}
use Rattle.idle_gate.specs.declared.state.IdleState.{IdleState}
use Rattle.idle_gate.specs.declared.state.IdleState.TheVariants as state
use Rattle.idle_gate.specs.Gates.{woken, is_entered}
use Rattle.idle_loop.specs.declared.entry.IdleKind.{IdleKind}
use Rattle.idle_loop.specs.declared.entry.IdleKind.TheVariants.{Hard, Begin, Wake, TryOk, TryBusy, Leave}
use Rattle.idle_loop.specs.declared.entry.IdleEntry.{IdleEntry}
use Rattle.idle_loop.specs.declared.entry.IdleSizes.{IdleSizes}
use Rattle.idle_loop.specs.declared.entry.IdleLog.{IdleLog}

-- the state after an entry (s2idle_enter, s2idle_wake)
abbrev pub state_by : IdleKind → IdleState → IdleState
state_by Hard s = s
state_by Begin s = s
state_by Wake s = woken s
state_by TryOk s = state.Enter
state_by TryBusy s = s
state_by Leave s = state.Idle

-- the state after these entries; at first it is Idle (s2idle_state)
abbrev pub state_after : List IdleEntry → IdleState
state_after [] = state.Idle
state_after (e ∷ past) = state_by e.what (state_after past)

-- one more
abbrev pub incremented : Option ℕ → Option ℕ
incremented None = None
incremented (Some n) = Some (n + 1)

-- the hard events since the open session's begin, after an entry (pm_wakeup_clear, pm_system_wakeup)
abbrev pub session_by : IdleKind → Option ℕ → Option ℕ
session_by Hard s = incremented s
session_by Begin s = Some 0
session_by Wake s = s
session_by TryOk s = s
session_by TryBusy s = None
session_by Leave s = s

-- how many hard events came since the open session's begin; None if no session is open (s2idle_loop)
abbrev pub session_of : List IdleEntry → Option ℕ
session_of [] = None
session_of (e ∷ past) = session_by e.what (session_of past)

-- one if the entry is a hard event (pm_system_wakeup)
abbrev pub is_hard : IdleKind → ℕ
is_hard Hard = 1
is_hard Begin = 0
is_hard Wake = 0
is_hard TryOk = 0
is_hard TryBusy = 0
is_hard Leave = 0

-- one if the entry is a wake (s2idle_wake)
abbrev pub is_wake : IdleKind → ℕ
is_wake Hard = 0
is_wake Begin = 0
is_wake Wake = 1
is_wake TryOk = 0
is_wake TryBusy = 0
is_wake Leave = 0

-- one if the entry begins a session (s2idle_loop)
abbrev pub is_begin : IdleKind → ℕ
is_begin Hard = 0
is_begin Begin = 1
is_begin Wake = 0
is_begin TryOk = 0
is_begin TryBusy = 0
is_begin Leave = 0

-- the hard events so far (pm_abort_suspend)
abbrev pub hards : List IdleEntry → ℕ
hards [] = 0
hards (e ∷ past) = hards past + is_hard e.what

-- the sessions begun so far (s2idle_loop)
abbrev pub begun : List IdleEntry → ℕ
begun [] = 0
begun (e ∷ past) = begun past + is_begin e.what

-- the hard events of one waker (pm_system_wakeup)
abbrev pub hards_of : ℕ → List IdleEntry → ℕ
hards_of who [] = 0
hards_of who (e ∷ past) = hards_of who past + (if e.who == who then is_hard e.what else 0)

-- the wakes of one waker (s2idle_wake)
abbrev pub wakes_of : ℕ → List IdleEntry → ℕ
wakes_of who [] = 0
wakes_of who (e ∷ past) = wakes_of who past + (if e.who == who then is_wake e.what else 0)

-- the hard events of one waker since the last begin, after an entry (pm_wakeup_clear)
abbrev pub since_by : IdleKind → Bool → ℕ → ℕ
since_by Hard own n = if own then n + 1 else n
since_by Begin own n = 0
since_by Wake own n = n
since_by TryOk own n = n
since_by TryBusy own n = n
since_by Leave own n = n

-- the hard events of one waker since the last begin (pm_wakeup_clear)
abbrev pub since_begin : ℕ → List IdleEntry → ℕ
since_begin who [] = 0
since_begin who (e ∷ past) = since_by e.what (e.who == who) (since_begin who past)

-- after these entries that one may make this entry: a waker makes a hard event and a wake in turn; the idler begins if no session is open,
-- enters if no hard event came since then, else ends the session, and leaves if it was waked (s2idle_loop, s2idle_enter, s2idle_wake; the
-- numbers are own)
abbrev pub MayMake : IdleSizes → List IdleEntry → ℕ → IdleKind → Type 0
MayMake z past who Hard = (who < z.wakers) × (hards_of who past ≡ wakes_of who past) × (wakes_of who past < z.events)
MayMake z past who Wake = (who < z.wakers) × (hards_of who past ≡ wakes_of who past + 1)
MayMake z past who Begin = (who ≡ z.wakers) × (session_of past ≡ None) × (begun past < z.sessions)
MayMake z past who TryOk = (who ≡ z.wakers) × (state_after past ≡ state.Idle) × (session_of past ≡ Some 0)
MayMake z past who TryBusy = (who ≡ z.wakers) × (state_after past ≡ state.Idle) × (n : ℕ) × (session_of past ≡ Some (n + 1))
MayMake z past who Leave = (who ≡ z.wakers) × (state_after past ≡ state.Wake)

-- each entry was one to be made, and carries the number of hard events before it (s2idle_loop)
abbrev pub IsIdleLog : IdleSizes → List IdleEntry → Type 0
IsIdleLog z [] = Unit {0}
IsIdleLog z (e ∷ past) = (e.hard ≡ hards past) × MayMake z past e.who e.what × IsIdleLog z past

-- all wakers are done, and nothing is left for the idler: it is in idle, or all sessions are over (s2idle_loop)
pub record IsOver (z : IdleSizes) (past : List IdleEntry) : Type 0 where
  pub done : (who : ℕ) → who < z.wakers → wakes_of who past ≡ z.events
  pub nothing : (what : IdleKind) → MayMake z past z.wakers what → ⊥

-- if the idler has entered, a waker that made a hard event in this session still owes its wake: no wakeup is lost (s2idle_enter,
-- s2idle_wake)
abbrev pub NoneIsLost : List IdleEntry → Type 0
NoneIsLost past = (who : ℕ) → state_after past ≡ state.Enter → 0 < since_begin who past → wakes_of who past < hards_of who past

-- a whole run: a legal log of these sizes that is over, in which no wakeup was ever lost; if it ends in idle, no hard event came since the
-- last begin (s2idle_loop)
pub record IsIdleRun (z : IdleSizes) (log : IdleLog) : Type 0 where
  pub legal : IsIdleLog z (reverse log.entries.items)
  pub over : IsOver z (reverse log.entries.items)
  pub ended : log.idle ≡ is_entered (state_after (reverse log.entries.items))
  pub none_lost : (later past : List IdleEntry) → reverse log.entries.items ≡ later ++ past → NoneIsLost past
  pub none_sleeps : (who : ℕ) → log.idle ≡ true → since_begin who (reverse log.entries.items) ≡ 0
