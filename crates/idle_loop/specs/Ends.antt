-- The end of a run (kernel/power/suspend.c, s2idle_loop).
use Rattle.std.specs.Prelude.{◌≡◌, ◌≤◌, ◌+◌, ℕ, Bool, false, List, [], ◌∷◌, length, reverse, Some, Vec}
use Rattle.atomic_table.specs.Seated.{TableId}
use Rattle.sleep_model.specs.declared.word.EventNow.{EventNow}
use Rattle.event_word.specs.declared.table.EventSeat.{EventSeat}
use Rattle.event_word.specs.Seats.{number_of, made_of, looked_of, source_count}
use Rattle.idle_gate.specs.declared.state.IdleState.{IdleState}
use Rattle.idle_gate.specs.declared.state.IdleState.TheVariants as state
use Rattle.idle_loop.specs.declared.entry.IdleEntry.{IdleEntry}
use Rattle.idle_loop.specs.declared.entry.IdleSizes.{IdleSizes}
use Rattle.idle_loop.specs.Sizes.{AreSizes}
use Rattle.idle_loop.specs.declared.closing.RunLeft.{RunLeft}
use Rattle.idle_loop.specs.declared.roles.Role.{Role}
use Rattle.idle_loop.specs.declared.roles.Role.TheVariants as role
use Rattle.idle_loop.specs.Turns.{seen_by, befores, InTurn}

-- the role is a waker's
abbrev pub IsWakes : Role → Type 0
IsWakes (role.Wakes w) = Unit {0}
IsWakes (role.Idles look) = ⊥

-- the role is the idler's
abbrev pub IsIdles : Role → Type 0
IsIdles (role.Wakes w) = ⊥
IsIdles (role.Idles look) = Unit {0}

-- all are wakers'
abbrev pub AreWakes : List Role → Type 0
AreWakes [] = Unit {0}
AreWakes (q ∷ qs) = IsWakes q × AreWakes qs

-- a waker has made its last wake; the idler has none to make
abbrev pub IsDone : IdleSizes → Role → Type 0
IsDone z (role.Wakes w) = z.events ≤ w.now.wakes
IsDone z (role.Idles look) = Unit {0}

-- every waker is done
abbrev pub AreDone : IdleSizes → List Role → Type 0
AreDone z [] = Unit {0}
AreDone z (q ∷ qs) = IsDone z q × AreDone z qs

-- the idler has nothing to do: it has entered, or is awake with no session open or left (s2idle_loop)
abbrev pub IsIdle : IdleSizes → IdleState → Bool → ℕ → Type 0
IsIdle z state.Idle in_session begun = (in_session ≡ false) × (z.sessions ≤ begun)
IsIdle z state.Enter in_session begun = Unit {0}
IsIdle z state.Wake in_session begun = ⊥

module _ {Z : Type 0} where
  -- a waker's seat, and the positions of its hard events, off the table (own)
  abbrev pub IsOff : Role → EventSeat → Vec ℕ Z → Type 0
  IsOff (role.Wakes w) seat v = (seat.token ≡ w.seat.token) × (v.items ≡ w.ranks.items)
  IsOff (role.Idles look) seat v = ⊥

  -- those of all wakers (own)
  abbrev pub AreOff : List Role → List EventSeat → List (Vec ℕ Z) → Type 0
  AreOff [] [] [] = Unit {0}
  AreOff [] [] (v ∷ vs) = ⊥
  AreOff [] (s ∷ ss) vs = ⊥
  AreOff (q ∷ qs) [] vs = ⊥
  AreOff (q ∷ qs) (s ∷ ss) [] = ⊥
  AreOff (q ∷ qs) (s ∷ ss) (v ∷ vs) = IsOff q s v × AreOff qs ss vs

  -- what a waker that is done leaves, whose wakes saw these hard numbers (own)
  pub record IsLeftAt (z : IdleSizes) (table : TableId) (who : ℕ) (seen : List ℕ) (seat : EventSeat) (v : Vec ℕ Z) : Type 0 where
    pub owes : Bool
    pub floor : ℕ
    pub at : seat.token.table_id ≡ table
    pub number : number_of seat.token ≡ Some who
    pub turns : InTurn owes floor (made_of seat.token) seen
    pub few : length (made_of seat.token) ≤ z.events
    pub done : length seen ≡ z.events
    pub ranks : v.items ≡ reverse (befores (made_of seat.token))

  -- what the wakers from that number on leave, beside that journal (own)
  abbrev pub AreLeft : IdleSizes → TableId → List IdleEntry → ℕ → List EventSeat → List (Vec ℕ Z) → Type 0
  AreLeft z table journal from [] [] = Unit {0}
  AreLeft z table journal from [] (v ∷ vs) = ⊥
  AreLeft z table journal from (s ∷ ss) [] = ⊥
  AreLeft z table journal from (s ∷ ss) (v ∷ vs) = IsLeftAt z table from (seen_by from journal) s v × AreLeft z table journal (from + 1) ss vs

-- what a run that is over leaves; the idler's seat has seen all that the journal saw (own)
pub record IsRunLeft (z : IdleSizes) (table : TableId) (l : RunLeft) : Type 0 where
  pub sizes : AreSizes z
  pub gate_log : l.gate_log.sizes ≡ z
  pub look : l.look.token.table_id ≡ table
  pub sources : source_count l.look.token ≡ z.wakers
  pub count : length l.seats.items ≡ z.wakers
  pub each : AreLeft z table l.gate_log.journal 0 l.seats.items l.ranks.items
  pub last : EventNow
  pub more : List EventNow
  pub looked : looked_of l.look.token ≡ last ∷ more
  pub seen : l.gate_log.seen ≤ last.hard
  pub rest : IsIdle z l.gate_log.gate.state l.gate_log.gate.in_session l.gate_log.gate.begun
