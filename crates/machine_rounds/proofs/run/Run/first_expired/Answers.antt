-- Proof that `Run::first_expired` meets its contract.
use Rattle.std.proofs.Common.{◌≡◌, ◌<◌, ◌+◌, ◌∙◌, ℕ, Option, Some, None, false, nat_le, length, sym, ap, arith}
use Rattle.std.proofs.lemmas.Bool.Decides.{nat_tests}
use Rattle.sleep_model.specs.Legal.{next_expiry}
use Rattle.sleep_model.specs.Numbers.{time_of}
use Rattle.sleep_model.specs.Sources.{has_expired}
use Rattle.sleep_state.specs.JournalRooms.{entries}
use Rattle.running_laws.specs.Running.{histories}
use Rattle.machine_rounds.proofs.Idling.{none_due}
use Rattle.machine_rounds.proofs.run.Run.first_expired.Goals as goal

pub returns-in_default-clause-none : goal.returns-in_default-clause-none
returns-in_default-clause-none c =
    let s = c.args.self.now in
    let time : ℕ = time_of (entries s.journal) in
    let ahead : time < c.in-Some.at = omega (arith, c.if-at-time.false, c.time.ensures.is) in
    let later : nat_le c.in-Some.at time ≡ false = grind (arith, nat_tests) in
    none_due (length s.machine.sources + 1) (histories s.sources) time (ap (λ (o : Option ℕ). has_expired o time) (sym c.requires ∙ c.in-Some.is) ∙ later)

pub returns-in_default-2-clause-none : goal.returns-in_default-2-clause-none
returns-in_default-2-clause-none c =
    let s = c.args.self.now in
    let time : ℕ = time_of (entries s.journal) in
    none_due (length s.machine.sources + 1) (histories s.sources) time (ap (λ (o : Option ℕ). has_expired o time) (sym c.requires ∙ c.in_default.is))
