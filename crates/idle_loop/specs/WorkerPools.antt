-- All workers of a run, in the order of their numbers (kernel/power/suspend.c, s2idle_loop).
use Rattle.std.specs.Prelude.{◌≡◌, ◌+◌, ℕ, List, [], ◌∷◌, length, Option, Some, None}
use Rattle.atomic_table.specs.Seated.{TableId}
use Rattle.idle_loop.specs.declared.entry.IdleEntry.{IdleEntry}
use Rattle.idle_loop.specs.declared.entry.IdleSizes.{IdleSizes}
use Rattle.idle_loop.specs.Sizes.{AreSizes}
use Rattle.idle_loop.specs.GateLogs.{GateLogState}
use Rattle.turn_lock.specs.declared.table.LockTable.{LockTable}
use Rattle.turn_lock.specs.declared.table.Pass.{Pass}
use Rattle.turn_lock.specs.Passes.{first_of}
use Rattle.idle_loop.specs.declared.roles.Role.{Role}
use Rattle.idle_loop.specs.declared.burst.WorkerPool.{WorkerPool}
use Rattle.idle_loop.specs.declared.worker.IdleWorker.{IdleWorker}
use Rattle.idle_loop.specs.Roles.{IsIn, IsRole, table_of}

-- the roles of the workers from that number on, with their seats at that table, beside that journal (own)
abbrev pub AreRoles : IdleSizes → TableId → List IdleEntry → ℕ → List Role → Type 0
AreRoles z table journal from [] = Unit {0}
AreRoles z table journal from (q ∷ qs) = IsRole z from journal q × (table_of q ≡ table) × AreRoles z table journal (from + 1) qs

-- the gate, the wakers and the idler, between bursts (own)
pub record IsWorkerPool (z : IdleSizes) (table : TableId) (c : WorkerPool) : Type 0 where
  pub sizes : AreSizes z
  pub gate_log : c.gate_log.sizes ≡ z
  pub count : length c.roles.items ≡ z.wakers + 1
  pub roles : AreRoles z table c.gate_log.journal 0 c.roles.items

-- a worker of that number, with a pass of a burst that began with that gate (own)
pub record IsWorkerAt (z : IdleSizes) (locks table : TableId) (first : GateLogState) (who : ℕ) (w : IdleWorker) : Type 0 where
  pub named : w.who ≡ who
  pub seat : table_of w.role ≡ table
  pub pass : Pass GateLogState IdleEntry
  pub has : w.pass ≡ Some pass
  pub is : IsIn z locks who first pass.token w.role

-- the workers from that number on (own)
abbrev pub AreWorkersAt : IdleSizes → TableId → TableId → GateLogState → ℕ → List IdleWorker → Type 0
AreWorkersAt z locks table first from [] = Unit {0}
AreWorkersAt z locks table first from (w ∷ ws) = IsWorkerAt z locks table first from w × AreWorkersAt z locks table first (from + 1) ws

-- the workers from that number on are made of roles and passes, each with 1,000 turns left (own)
abbrev pub AreNewWorkers : ℕ → List Role → List (Pass GateLogState IdleEntry) → List IdleWorker → Type 0
AreNewWorkers from [] [] [] = Unit {0}
AreNewWorkers from [] [] (w ∷ ws) = ⊥
AreNewWorkers from [] (p ∷ ps) ws = ⊥
AreNewWorkers from (q ∷ qs) [] ws = ⊥
AreNewWorkers from (q ∷ qs) (p ∷ ps) [] = ⊥
AreNewWorkers from (q ∷ qs) (p ∷ ps) (w ∷ ws) = (w ≡ record { who = from; pass = Some p; role = q; left = 1000 }) × AreNewWorkers (from + 1) qs ps ws

-- there is a pass
abbrev pub IsThere : Option (Pass GateLogState IdleEntry) → Type 0
IsThere None = ⊥
IsThere (Some p) = Unit {0}

-- each worker has its pass (own)
abbrev pub HavePasses : List IdleWorker → Type 0
HavePasses [] = Unit {0}
HavePasses (w ∷ ws) = IsThere w.pass × HavePasses ws

-- the roles and the passes of workers (own)
abbrev pub AreSplit : List IdleWorker → List Role → List (Pass GateLogState IdleEntry) → Type 0
AreSplit [] [] [] = Unit {0}
AreSplit [] [] (p ∷ ps) = ⊥
AreSplit [] (q ∷ qs) ps = ⊥
AreSplit (w ∷ ws) [] ps = ⊥
AreSplit (w ∷ ws) (q ∷ qs) [] = ⊥
AreSplit (w ∷ ws) (q ∷ qs) (p ∷ ps) = (w.role ≡ q) × (w.pass ≡ Some p) × AreSplit ws qs ps

-- all workers of a burst that began with that gate, at its end (own)
pub record WorkersHaveEnded (z : IdleSizes) (table : TableId) (first : GateLogState) (locks : LockTable GateLogState IdleEntry) (ws : List IdleWorker) : Type 0 where
  pub sizes : AreSizes z
  pub first_sizes : first.sizes ≡ z
  pub firsts : first_of locks.own ≡ first ∷ []
  pub unused : locks.own.me.0.known ≡ []
  pub count : locks.own.me.0.next ≡ z.wakers + 1
  pub long : length ws ≡ z.wakers + 1
  pub at : AreWorkersAt z locks.own.table_id table first 0 ws
