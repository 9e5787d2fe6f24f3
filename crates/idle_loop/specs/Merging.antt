-- The journal of the idler's gate and the hard events, and the one log of both; all lists have the newest first.
use Rattle.std.specs.Prelude.{◌≡◌, ◌<◌, ◌≤◌, ◌+◌, ◌==◌, ◌++◌, if◌then◌else◌, ℕ, List, [], ◌∷◌, length, Option, Some, None}
use Rattle.idle_gate.specs.declared.state.IdleState.TheVariants as state
use Rattle.idle_loop.specs.declared.entry.IdleKind.{IdleKind}
use Rattle.idle_loop.specs.declared.entry.IdleKind.TheVariants.{Hard, Begin, Wake, TryOk, TryBusy, Leave}
use Rattle.idle_loop.specs.declared.entry.IdleEntry.{IdleEntry}
use Rattle.idle_loop.specs.declared.entry.IdleSizes.{IdleSizes}
use Rattle.idle_loop.specs.IdleLogs.{IsIdleLog, state_after, begun, wakes_of}

-- a waker's hard event that comes after n of them (pm_system_wakeup)
abbrev pub hard_entry : ℕ → ℕ → IdleEntry
hard_entry before who = record { hard = before; who = who; what = Hard }

-- the log is the merge of hard events, by their makers, and a journal: each entry comes after as many hard events as it saw (own)
pub data Merges : List ℕ → List IdleEntry → List IdleEntry → Type 0 where
  Nothing : Merges [] [] []
  NextHard : (who : ℕ) (makers : List ℕ) (journal log : List IdleEntry) → Merges makers journal log → Merges (who ∷ makers) journal (hard_entry (length makers) who ∷ log)
  NextEntry : (e : IdleEntry) (makers : List ℕ) (journal log : List IdleEntry) → e.hard ≡ length makers → Merges makers journal log → Merges makers (e ∷ journal) (e ∷ log)

-- each of the entries, the oldest first, saw at least as many hard events as the one before, and at most that many (own)
abbrev pub SeeMore : ℕ → ℕ → List IdleEntry → Type 0
SeeMore low most [] = low ≤ most
SeeMore low most (e ∷ later) = (low ≤ e.hard) × SeeMore e.hard most later

-- how many hard events one waker made (pm_system_wakeup)
abbrev pub made_by : ℕ → List ℕ → ℕ
made_by who [] = 0
made_by who (maker ∷ makers) = made_by who makers + (if maker == who then 1 else 0)

-- the hard number that the open session forgot, after an entry (pm_wakeup_clear)
abbrev pub forgot_by : IdleKind → ℕ → Option ℕ → Option ℕ
forgot_by Hard hard f = f
forgot_by Begin hard f = Some hard
forgot_by Wake hard f = f
forgot_by TryOk hard f = f
forgot_by TryBusy hard f = None
forgot_by Leave hard f = f

-- the hard number that the open session forgot; None if none is open (pm_wakeup_clear)
abbrev pub forgotten : List IdleEntry → Option ℕ
forgotten [] = None
forgotten (e ∷ journal) = forgot_by e.what e.hard (forgotten journal)

-- the gate may make the entry after these of its journal, by the hard number that it saw (s2idle_enter, s2idle_wake)
abbrev pub MayEnter : IdleSizes → List IdleEntry → ℕ → ℕ → IdleKind → Type 0
MayEnter z journal hard who Hard = ⊥
MayEnter z journal hard who Wake = who < z.wakers
MayEnter z journal hard who Begin = (who ≡ z.wakers) × (forgotten journal ≡ None) × (begun journal < z.sessions)
MayEnter z journal hard who TryOk = (who ≡ z.wakers) × (state_after journal ≡ state.Idle) × (forgotten journal ≡ Some hard)
MayEnter z journal hard who TryBusy = (who ≡ z.wakers) × (state_after journal ≡ state.Idle) × (f : ℕ) × (forgotten journal ≡ Some f) × (f < hard)
MayEnter z journal hard who Leave = (who ≡ z.wakers) × (state_after journal ≡ state.Wake)

-- a journal of the gate by itself (s2idle_loop)
abbrev pub IsJournal : IdleSizes → List IdleEntry → Type 0
IsJournal z [] = Unit {0}
IsJournal z (e ∷ journal) = MayEnter z journal e.hard e.who e.what × IsJournal z journal

-- each of the entries saw at least n hard events
abbrev pub SawLeast : ℕ → List IdleEntry → Type 0
SawLeast hard [] = Unit {0}
SawLeast hard (e ∷ journal) = (hard ≤ e.hard) × SawLeast hard journal

-- each of the entries saw at most n hard events
abbrev pub SawMost : ℕ → List IdleEntry → Type 0
SawMost hard [] = Unit {0}
SawMost hard (e ∷ journal) = (e.hard ≤ hard) × SawMost hard journal

-- each of the entries, the newest first, saw at least as many hard events as the one after it, and at most that many (own)
abbrev pub SeesInOrder : ℕ → List IdleEntry → Type 0
SeesInOrder most [] = Unit {0}
SeesInOrder most (e ∷ journal) = (e.hard ≤ most) × SeesInOrder e.hard journal

-- each hard event is made by a waker that has made a wake for each earlier one: those wakes saw none from this event on (pm_system_wakeup)
abbrev pub HardsInTurn : IdleSizes → List ℕ → List IdleEntry → Type 0
HardsInTurn z makers journal = (later before : List ℕ) (who : ℕ) (newer older : List IdleEntry) → makers ≡ later ++ who ∷ before → journal ≡ newer ++ older
    → SawLeast (length before + 1) newer → SawMost (length before) older → (who < z.wakers) × (made_by who before ≡ wakes_of who older) × (made_by who before < z.events)

-- each wake is made by a waker that has made one hard event more than wakes, of those that it saw (s2idle_wake)
abbrev pub WakesInTurn : List ℕ → List IdleEntry → Type 0
WakesInTurn makers journal = (later before : List ℕ) (e : IdleEntry) (newer older : List IdleEntry) → makers ≡ later ++ before → journal ≡ newer ++ e ∷ older
    → e.hard ≡ length before → e.what ≡ Wake → made_by e.who before ≡ wakes_of e.who older + 1

-- the merge of such lists is a legal log (s2idle_loop)
abbrev pub IdleMergesToLegal : Type 0
IdleMergesToLegal = (z : IdleSizes) (makers : List ℕ) (journal log : List IdleEntry) → IsJournal z journal → HardsInTurn z makers journal → WakesInTurn makers journal → Merges makers journal log → IsIdleLog z log
