-- What is answered of names and what is answered of sources agree.
use Rattle.std.proofs.Common.{◌≡◌, ℕ, List, Result, Ok, subst}
use Rattle.wake_locks.specs.Counted.{AllAgree}
use Rattle.lock_commands.specs.declared.fault.LinesFault.{LinesFault}
use Rattle.lock_commands.specs.Lines.{lines}
use Rattle.lock_commands.specs.Steps.{LinesState, carried_all, first_state}
use Rattle.lock_commands.specs.TextAnswers.{AgreeAfter}

one_state : (made : Result LinesState LinesFault) (one other : LinesState) → made ≡ Ok one → made ≡ Ok other → one ≡ other
one_state made one other e f = cc

-- the state that the lines leave is one of names that agree with their sources
pub agreed : (bytes : List ℕ) (state : LinesState) → carried_all (lines bytes) first_state ≡ Ok state → AllAgree state.locks → AgreeAfter bytes
agreed bytes state is agree other e =
    subst (λ (b : LinesState). AllAgree b.locks) (one_state (carried_all (lines bytes) first_state) state other is e) agree
