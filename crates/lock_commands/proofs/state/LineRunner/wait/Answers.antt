-- Proof by hand of `wait`: the call of `advance`.
use Rattle.std.proofs.Common.{◌+◌, sym, ap, subst, arith}
use Rattle.wake_locks.specs.Locks.{AreBefore}
use Rattle.wake_locks.proofs.Placed.{before_later}
use Rattle.lock_commands.specs.Steps.{LinesState}
use Rattle.lock_commands.proofs.state.LineRunner.wait.Goals as goal

pub advance-requires : goal.advance-requires
advance-requires g c =
    let locks = c.self.inside.locks in
    let to = c.self.inside.now + c.args.ms in
    let same = ap (λ (b : LinesState). b.now) c.self.view_is in
    let before : AreBefore c.args.self.now.now locks = subst (AreBefore c.args.self.now.now) (sym (ap (λ (b : LinesState). b.locks) c.self.view_is)) c.requires.timely.before in
    (omega arith, (before_later c.args.self.now.now to locks (omega (arith, same)) before, omega (arith, same, c.requires.small)))
