-- Proof that `WakeLocks::stats` meets its contract, and that it meets what `stats` requires.
use Rattle.std.proofs.Common.{◌≡◌, ◌≤◌, List, get_or, refl, sym, subst, arith}
use Rattle.wakeup_source.specs.SourceStates.{latest}
use Rattle.wake_locks.specs.Locks.{LockState}
use Rattle.wake_locks.proofs.Placed.{before_at, find_there, find_gap}
use Rattle.wake_locks.proofs.locks.WakeLocks.stats.Goals as goal

pub stats-requires : goal.stats-requires
stats-requires g c =
    let lock = c.index-lock.result.now in
    let is = subst (λ (xs : List LockState). lock ≡ get_or xs c.in-Ok.at lock) c.self.view_is c.index-lock.ensures in
    let time : latest lock.own ≤ c.args.now = subst (λ (x : LockState). latest x.own ≤ c.args.now) (sym is) (before_at c.args.now c.args.self.now c.requires.time c.in-Ok.at lock c.in-Ok.ensures.found.in_range) in
    (omega arith, (time, c.requires.small))

pub returns-in-Ok : goal.returns-in-Ok
returns-in-Ok g c =
    let lock = c.index-lock.result.now in
    let is = subst (λ (xs : List LockState). lock ≡ get_or xs c.in-Ok.at lock) c.self.view_is c.index-lock.ensures in
    rw (find_there c.args.name.now c.args.self.now c.in-Ok.at lock c.in-Ok.ensures.found, ← is, c.stats.ensures) refl

pub returns-in-Err : goal.returns-in-Err
returns-in-Err g c = rw (find_gap c.args.name.now c.args.self.now _ c.in-Err.ensures.absent) refl
