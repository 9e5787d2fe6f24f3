-- What is one worker's own, beside the gate's journal (kernel/power/suspend.c, s2idle_loop).
use Rattle.std.specs.Prelude.{◌≡◌, ◌<◌, ◌≤◌, ◌+◌, ◌++◌, ℕ, List, [], ◌∷◌, length, reverse, vec_capacity, Option, Some, None}
use Rattle.atomic_table.specs.Seated.{TableId}
use Rattle.event_word.specs.declared.seats.TableLook.{TableLook}
use Rattle.event_word.specs.Seats.{number_of, made_of, floor_of, source_count}
use Rattle.idle_loop.specs.declared.entry.IdleEntry.{IdleEntry}
use Rattle.idle_loop.specs.declared.entry.IdleSizes.{IdleSizes}
use Rattle.idle_loop.specs.Sizes.{AreSizes, owed}
use Rattle.idle_loop.specs.GateLogs.{GateLogState}
use Rattle.turn_lock.specs.declared.table.Pass.{Pass}
use Rattle.turn_lock.specs.Passes.{LockToken, IsPass, made_of as made_by_pass, number_of as number_of_pass, first_of}
use Rattle.idle_loop.specs.declared.roles.Waker.{Waker}
use Rattle.idle_loop.specs.declared.roles.Role.{Role}
use Rattle.idle_loop.specs.declared.roles.Role.TheVariants as role
use Rattle.idle_loop.specs.declared.worker.IdleWorker.{IdleWorker}
use Rattle.idle_loop.specs.Turns.{seen_by, AreBy, gate_entries, befores, InTurn, SawFewer}

-- a waker whose wakes saw these hard numbers: it keeps to its turns and to its number of events (pm_system_wakeup, s2idle_wake)
pub record IsWaker (z : IdleSizes) (who : ℕ) (seen : List ℕ) (w : Waker) : Type 0 where
  pub low : who < z.wakers
  pub number : number_of w.seat.token ≡ Some who
  pub turns : InTurn w.now.owes (floor_of w.seat.token) (made_of w.seat.token) seen
  pub wakes : length seen ≡ w.now.wakes
  pub few : w.now.wakes + owed w.now.owes ≤ z.events
  pub behind : SawFewer w.least (made_of w.seat.token)
  pub ranks : w.ranks.items ≡ reverse (befores (made_of w.seat.token))
  pub room : z.events ≤ vec_capacity w.ranks

-- the idler's seat (s2idle_loop)
pub record IsIdler (z : IdleSizes) (who : ℕ) (look : TableLook) : Type 0 where
  pub number : who ≡ z.wakers
  pub sources : source_count look.token ≡ z.wakers

-- the role of the worker of that number, beside that journal (own)
abbrev pub IsRole : IdleSizes → ℕ → List IdleEntry → Role → Type 0
IsRole z who journal (role.Wakes w) = IsWaker z who (seen_by who journal) w
IsRole z who journal (role.Idles look) = IsIdler z who look

-- the table of a role's seat (own)
abbrev pub table_of : Role → TableId
table_of (role.Wakes w) = w.seat.token.table_id
table_of (role.Idles look) = look.token.table_id

-- a pass and a role of the worker of that number, in a burst that began with that gate: what the pass made is the worker's, and the role
-- agrees with it (own)
pub record IsIn (z : IdleSizes) (locks : TableId) (who : ℕ) (first : GateLogState) (p : LockToken GateLogState IdleEntry) (q : Role) : Type 0 where
  pub sizes : AreSizes z
  pub first_sizes : first.sizes ≡ z
  pub pass : IsPass locks (first ∷ []) p
  pub number : number_of_pass p ≡ Some who
  pub own : AreBy who (gate_entries (made_by_pass p))
  pub role : IsRole z who (gate_entries (made_by_pass p) ++ first.journal) q

-- a worker that has its pass, which agrees with its role (own)
pub record IsWorker (z : IdleSizes) (locks : TableId) (w : IdleWorker) : Type 0 where
  pub first : GateLogState
  pub pass : Pass GateLogState IdleEntry
  pub has : w.pass ≡ Some pass
  pub is : IsIn z locks w.who first pass.token w.role

-- the gates that a pass began with, if there is one (own)
abbrev pub firsts_of : Option (Pass GateLogState IdleEntry) → List GateLogState
firsts_of None = []
firsts_of (Some p) = first_of p.token

-- a worker stays at its tables, and keeps its number (own)
pub record IsSameWorker (old new : IdleWorker) : Type 0 where
  pub who : new.who ≡ old.who
  pub table : table_of new.role ≡ table_of old.role
  pub firsts : firsts_of new.pass ≡ firsts_of old.pass
