-- What a step comes to (kernel/power/suspend.c, s2idle_enter, s2idle_wake; drivers/base/power/wakeup.c, pm_system_wakeup).
use Rattle.std.specs.Prelude.{◌≡◌, ◌<◌, ◌++◌, ℕ, true, false, List}
use Rattle.atomic_table.specs.Seated.{TableId}
use Rattle.idle_loop.specs.declared.entry.IdleEntry.{IdleEntry}
use Rattle.idle_loop.specs.declared.entry.IdleSizes.{IdleSizes}
use Rattle.idle_loop.specs.Sizes.{AreSizes}
use Rattle.idle_loop.specs.GateLogs.{GateLogState}
use Rattle.turn_lock.specs.Passes.{LockToken}
use Rattle.idle_loop.specs.declared.roles.Role.{Role}
use Rattle.idle_loop.specs.declared.roles.Waker.{Waker}
use Rattle.idle_loop.specs.Turns.{AreBy, seen_by}
use Rattle.idle_loop.specs.Roles.{IsIn, IsWaker, table_of}

-- the gate gained entries of one worker (own)
pub record Gains (who : ℕ) (old new : GateLogState) : Type 0 where
  pub gains : List IdleEntry
  pub journal : new.journal ≡ gains ++ old.journal
  pub by : AreBy who gains
  pub sizes : new.sizes ≡ old.sizes

-- a waker that owes no wake may make a hard event (pm_system_wakeup)
pub record OwesNoWake (w : Waker) : Type 0 where
  pub sizes : IdleSizes
  pub who : ℕ
  pub seen : List ℕ
  pub are : AreSizes sizes
  pub is : IsWaker sizes who seen w
  pub owes : w.now.owes ≡ false
  pub few : w.now.wakes < sizes.events

-- it has made one, and stays at its table (pm_system_wakeup)
pub record HasMadeHard (old new : Waker) : Type 0 where
  pub keeps : (z : IdleSizes) (who : ℕ) (seen : List ℕ) → old.now.wakes < z.events → IsWaker z who seen old → IsWaker z who seen new
  pub table : new.seat.token.table_id ≡ old.seat.token.table_id

-- a waker that owes a wake (s2idle_wake)
pub record IsOwing (z : IdleSizes) (who : ℕ) (w : Waker) : Type 0 where
  pub are : AreSizes z
  pub seen : List ℕ
  pub is : IsWaker z who seen w
  pub owes : w.now.owes ≡ true

-- the gate gained what a waker's wake added, if anything, and the waker stays at its table (s2idle_wake)
pub record HasWoken (who : ℕ) (old new : Waker) (before after : GateLogState) : Type 0 where
  pub gained : Gains who before after
  pub keeps : (seen : List ℕ) → IsWaker before.sizes who seen old → IsWaker before.sizes who (seen_by who gained.gains ++ seen) new
  pub table : new.seat.token.table_id ≡ old.seat.token.table_id

-- a worker's pass and role after a turn agree with the burst as they did before (own)
pub record StaysInBurst (z : IdleSizes) (locks : TableId) (who : ℕ) (old new : LockToken GateLogState IdleEntry) (before after : Role) : Type 0 where
  pub keeps : (first : GateLogState) → IsIn z locks who first old before → IsIn z locks who first new after
  pub table : table_of after ≡ table_of before
