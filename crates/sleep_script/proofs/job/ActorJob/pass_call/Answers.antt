-- Proof that `ActorJob::pass_call` meets its contract.
use Rattle.std.proofs.Common.{◌≡◌, length, arith}
use Rattle.std.proofs.lemmas.Bool.Decides.{nat_tests}
use Rattle.sleep_model.specs.Calls.{calls_of_turn}
use Rattle.sleep_script.proofs.Stepped.{own_made}
use Rattle.sleep_script.proofs.job.ActorJob.pass_call.Goals as goal

pub returns-then-is_empty : goal.returns-then-is_empty
returns-then-is_empty c =
    let j = c.self.inside in
    let none : length j.reports.now ≡ 0 = grind (arith, nat_tests, c.if-is_empty.ensures) in
    rw (← c.self.view_is) (rw (own_made j.reports.now j.made (calls_of_turn j.plans.now j.who j.turns) none))
