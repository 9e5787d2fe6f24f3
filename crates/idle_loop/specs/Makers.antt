-- Who made which hard event (drivers/base/power/wakeup.c, pm_system_wakeup). Lists have the newest first.
use Rattle.std.specs.Prelude.{◌≡◌, ◌<◌, ◌≤◌, ◌+◌, ◌==◌, if◌then◌else◌, ℕ, Bool, true, false, List, [], ◌∷◌, length, reverse, slice_set, Vec}
use Rattle.idle_loop.specs.declared.entry.IdleEntry.{IdleEntry}
use Rattle.idle_loop.specs.declared.entry.IdleSizes.{IdleSizes}
use Rattle.idle_loop.specs.IdleLogs.{wakes_of}
use Rattle.idle_loop.specs.Turns.{seen_by}

-- events at positions p and wakes that saw q events in turn: each wake saw its event, and none saw the next; if no wake is to come, none
-- saw more than the floor (pm_system_wakeup, s2idle_wake)
abbrev pub Alternate : Bool → ℕ → List ℕ → List ℕ → Type 0
Alternate false floor [] [] = Unit {0}
Alternate false floor [] (q ∷ qs) = ⊥
Alternate false floor (p ∷ ps) [] = ⊥
Alternate false floor (p ∷ ps) (q ∷ qs) = (q ≤ floor) × (p < q) × Alternate false p ps qs
Alternate true floor [] qs = ⊥
Alternate true floor (p ∷ ps) qs = Alternate false p ps qs

-- how many events came before each of one maker's, of all events by their makers (pm_system_wakeup)
abbrev pub ranks : ℕ → List ℕ → List ℕ
ranks who [] = []
ranks who (m ∷ ms) = if m == who then length ms ∷ ranks who ms else ranks who ms

-- each maker's number is below that (own)
abbrev pub AllBelow : ℕ → List ℕ → Type 0
AllBelow n [] = Unit {0}
AllBelow n (m ∷ ms) = (m < n) × AllBelow n ms

-- each of these positions is below that (own)
abbrev pub AllLess : ℕ → List ℕ → Type 0
AllLess high [] = Unit {0}
AllLess high (x ∷ xs) = (x < high) × AllLess high xs

-- the makers, the oldest event's first, once these positions are one maker's (own)
abbrev pub filled : ℕ → List ℕ → List ℕ → List ℕ
filled who [] makers = makers
filled who (p ∷ ps) makers = filled who ps (slice_set makers p who)

module _ {Z : Type 0} where
  -- the lists of positions are those of the makers from that number on, the oldest first (own)
  abbrev pub HaveRanks : List ℕ → ℕ → List (Vec ℕ Z) → Type 0
  HaveRanks ms from [] = Unit {0}
  HaveRanks ms from (v ∷ vs) = (v.items ≡ reverse (ranks from ms)) × HaveRanks ms (from + 1) vs

  -- the lists are those of all makers of these events (own)
  pub record AreMakers (count : ℕ) (ms : List ℕ) (lists : List (Vec ℕ Z)) : Type 0 where
    pub counted : count ≡ length ms
    pub few : length lists ≤ 16
    pub below : AllBelow (length lists) ms
    pub each : HaveRanks ms 0 lists

-- one waker's events and the hard numbers that its wakes saw alternate, and it is done (pm_system_wakeup, s2idle_wake)
pub record IsMaker (z : IdleSizes) (ms : List ℕ) (journal : List IdleEntry) (who : ℕ) : Type 0 where
  pub owes : Bool
  pub floor : ℕ
  pub turns : Alternate owes floor (ranks who ms) (seen_by who journal)
  pub few : length (ranks who ms) ≤ z.events
  pub done : wakes_of who journal ≡ z.events

-- all hard events are by wakers, of which each is one (own)
pub record AreMade (z : IdleSizes) (ms : List ℕ) (journal : List IdleEntry) : Type 0 where
  pub below : AllBelow z.wakers ms
  pub each : (who : ℕ) → who < z.wakers → IsMaker z ms journal who
