-- The hard events and the wakes of one waker (pm_system_wakeup, s2idle_wake). Lists have the newest first.
use Rattle.std.specs.Prelude.{◌≡◌, ◌<◌, ◌≤◌, ◌==◌, ◌++◌, if◌then◌else◌, ℕ, Bool, true, false, List, [], ◌∷◌, map}
use Rattle.sleep_model.specs.Word.{position}
use Rattle.sleep_model.specs.declared.word.WordKind.TheVariants as word
use Rattle.event_word.specs.Steps.{MadeStep}
use Rattle.idle_loop.specs.declared.entry.IdleKind.{IdleKind}
use Rattle.idle_loop.specs.declared.entry.IdleKind.TheVariants.{Hard, Begin, Wake, TryOk, TryBusy, Leave}
use Rattle.idle_loop.specs.declared.entry.IdleEntry.{IdleEntry}
use Rattle.turn_lock.specs.declared.view.Made.{Made}
use Rattle.turn_lock.specs.Bookings.{of_object}

-- the hard numbers that wakes saw, after an entry (s2idle_wake)
abbrev pub seen_after : IdleKind → ℕ → List ℕ → List ℕ
seen_after Hard hard seen = seen
seen_after Begin hard seen = seen
seen_after Wake hard seen = hard ∷ seen
seen_after TryOk hard seen = seen
seen_after TryBusy hard seen = seen
seen_after Leave hard seen = seen

-- the hard numbers that one waker's wakes saw (s2idle_wake)
abbrev pub seen_by : ℕ → List IdleEntry → List ℕ
seen_by who [] = []
seen_by who (e ∷ journal) = if e.who == who then seen_after e.what e.hard (seen_by who journal) else seen_by who journal

-- each of the entries is one worker's (own)
abbrev pub AreBy : ℕ → List IdleEntry → Type 0
AreBy who [] = Unit {0}
AreBy who (e ∷ journal) = (e.who ≡ who) × AreBy who journal

-- the entries that a pass made, of steps listed oldest first (own)
abbrev pub entries_in : List (Made IdleEntry) → List IdleEntry
entries_in [] = []
entries_in (m ∷ ms) = entries_in ms ++ m.entry ∷ []

-- the gate's entries that a pass made (own)
abbrev pub gate_entries : List (Made IdleEntry) → List IdleEntry
gate_entries ms = entries_in (of_object 0 ms)

-- how many hard events came before each step (pm_system_wakeup)
abbrev pub befores : List MadeStep → List ℕ
befores made = map (λ (s : MadeStep). s.before.hard) made

-- a waker's steps are hard events, and each has a wake after it that saw it and nothing of the next; if it owes none, no wake saw more than
-- that many steps (pm_system_wakeup, s2idle_wake)
abbrev pub InTurn : Bool → ℕ → List MadeStep → List ℕ → Type 0
InTurn false floor [] [] = Unit {0}
InTurn false floor [] (hard ∷ seen) = ⊥
InTurn false floor (s ∷ made) [] = ⊥
InTurn false floor (s ∷ made) (hard ∷ seen) = (hard ≤ floor) × (s.before.hard < hard) × (s.step ≡ word.Hard) × InTurn false (position s.before) made seen
InTurn true floor [] seen = ⊥
InTurn true floor (s ∷ made) seen = (s.step ≡ word.Hard) × InTurn false (position s.before) made seen

-- the newest step came after fewer hard events than that (pm_system_wakeup)
abbrev pub SawFewer : ℕ → List MadeStep → Type 0
SawFewer least [] = Unit {0}
SawFewer least (s ∷ made) = s.before.hard < least
