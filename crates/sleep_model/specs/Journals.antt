-- A journal as contracts see it, and how its entries are stored (own: Linux keeps no such journal).
use Rattle.std.specs.Prelude.{◌≡◌, ◌<◌, ◌≤◌, ◌+◌, ◌^◌, ℕ, List, [], ◌∷◌, ◌++◌, get_or, length, map}
use Rattle.sleep_model.specs.declared.entry.JournalEntry.{JournalEntry}
use Rattle.sleep_model.specs.declared.journal.Recorded.{Recorded}
use Rattle.sleep_model.specs.declared.journal.Moment.{Moment}

-- the entries so far, the newest first, and how many more have reserved room
pub record JournalRoom : Type 0 where
  pub past : List JournalEntry
  pub room : ℕ

-- the entry of a moment that was made so
abbrev pub entry_of : Moment → Recorded → JournalEntry
entry_of moment made = record {
  stamp = record { pos = moment.stamp.pos; tick = moment.stamp.tick + made.ticks };
  entry = record { time = moment.time; now = moment.now; actor = made.actor; kind = made.kind };
}

-- the moment of that number
abbrev pub moment_at : List Moment → ℕ → Moment
moment_at moments n =
    get_or moments n (record { time = 0; now = record { inpr = 0; count = 0; hard = 0 }; stamp = record { pos = 0; tick = 0 } })

-- the entries that were made so, the oldest first
abbrev pub items_of : List Moment → List Recorded → List JournalEntry
items_of moments made = map (λ e. entry_of (moment_at moments e.moment) e) made

-- the entry has a moment, and its tick fits
abbrev pub IsOf : List Moment → Recorded → Type 0
IsOf moments e = (e.moment < length moments) × ((moment_at moments e.moment).stamp.tick + e.ticks < 2 ^ 64)

-- so have all
abbrev pub AreOf : List Moment → List Recorded → Type 0
AreOf moments [] = Unit {0}
AreOf moments (e ∷ made) = IsOf moments e × AreOf moments made

-- the entry is of that moment, n ticks after its first
pub record IsShared (moment : Moment) (e : JournalEntry) (ticks : ℕ) : Type 0 where
  pub time : moment.time ≡ e.entry.time
  pub now : moment.now ≡ e.entry.now
  pub pos : moment.stamp.pos ≡ e.stamp.pos
  pub tick : moment.stamp.tick + ticks ≡ e.stamp.tick

-- the entry is of that moment, the last or a new one
pub record IsFound (e : JournalEntry) (old new : List Moment) (moment ticks : ℕ) : Type 0 where
  pub within : moment < length new
  pub few : length new ≤ length old + 1
  pub shared : IsShared (moment_at new moment) e ticks
  pub others : (made : List Recorded) → AreOf old made → AreOf new made × (items_of new made ≡ items_of old made)
