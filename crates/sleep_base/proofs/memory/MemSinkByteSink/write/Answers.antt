-- Proof that `MemSinkByteSink::write` meets its contract.
use Rattle.std.proofs.Common.{arith, rules, refl, inl, inr}
use Rattle.sleep_base.proofs.memory.MemSinkByteSink.write.Goals as goal
use Rattle.sleep_base.proofs.memory.MemSinkByteSink.write.Goals.{then-room-eq0-via-then-room-eq0, then-room-eq0-via-else-room-eq0+then-contains}

pub returns-then-room-eq0-clause-fails : goal.returns-then-room-eq0-clause-fails
returns-then-room-eq0-clause-fails c =
    elim c.then-room-eq0.branch [
      | then-room-eq0-via-then-room-eq0 w ↦ (λ _. inl (omega arith), λ _. refl)
      | then-room-eq0-via-else-room-eq0+then-contains w ↦ (λ _. inr (search rules), λ _. refl)
    ]
