-- Proof that `WakeLocks::next_due` meets its contract.
use Rattle.std.proofs.Common.{Option, None, sym, subst}
use Rattle.wake_locks.specs.Expiries.{Due}
use Rattle.wake_locks.specs.LockFields.{MatchDue, NoneEndsBefore}
use Rattle.wake_locks.proofs.Sooner.{none_by}
use Rattle.wake_locks.proofs.locks.WakeLocks.next_due.Goals as goal

pub returns-then-to-self-clause-found : goal.returns-then-to-self-clause-found
returns-then-to-self-clause-found g c =
    let sooner = subst (NoneEndsBefore c.self.inside.soonest) c.self.view_is c.self.invariant.none_sooner in
    subst (λ (o : Option Due). MatchDue c.args.self.now o None) (sym (none_by c.args.to c.self.inside.soonest c.args.self.now c.if-to-self.true sooner)) tt
