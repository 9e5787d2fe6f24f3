-- Proof that `Jobs::owe_none` meets its contract.
use Rattle.std.proofs.Common.{nat_eq, subst, arith}
use Rattle.std.proofs.lemmas.Bool.Decides.{nat_tests}
use Rattle.std.specs.Bool.{OnTrue}
use Rattle.machine_rounds.specs.JobsFields.{jobs}
use Rattle.machine_rounds.specs.JobsOf.{JobsState, OweNone}
use Rattle.machine_rounds.proofs.Owing.{none_told}
use Rattle.machine_rounds.proofs.jobs.Jobs.owe_none.Goals as goal

pub returns : goal.returns
returns c =
    let j = c.self.inside in
    subst (λ (s : JobsState). OnTrue (nat_eq j.owing 0) (OweNone s)) c.self.view_is (none_told (jobs j) j.owing (nat_eq j.owing 0) c.self.invariant.owing_is (λ e. grind (arith, nat_tests)))
