-- Locks that agree with their sources' entries, one after another.
use Rattle.std.proofs.Common.{ℕ, zero, suc, ◌<◌, ◌+◌, List, [], ◌∷◌, length, get_or, take, add-one, arith}
use Rattle.wake_locks.specs.Counted.{AllAgree, StatusAgrees}
use Rattle.wake_locks.specs.Locks.{LockState}

one_more : (at : ℕ) (locks : List LockState) (d : LockState) → at < length locks → AllAgree (take at locks) → StatusAgrees (get_or locks at d) → AllAgree (take (suc at) locks)
one_more at [] d l all one = absurd (omega arith)
one_more zero (lock ∷ locks) d l all one = (one, tt)
one_more (suc at) (lock ∷ locks) d l all one = (all.0, one_more at locks d (omega arith) all.1 one)

-- one more of them
pub agree_more : (at : ℕ) (locks : List LockState) (d : LockState) → at < length locks → AllAgree (take at locks) → StatusAgrees (get_or locks at d) → AllAgree (take (at + 1) locks)
agree_more at locks d l all one = rw (add-one at) (one_more at locks d l all one)
