-- Proof that `ActorJob::next_call` meets its contract.
use Rattle.sleep_model.specs.Calls.{calls_of_turn}
use Rattle.sleep_script.proofs.Stepped.{own_next}
use Rattle.sleep_script.proofs.job.ActorJob.next_call.Goals as goal

pub returns-in-None : goal.returns-in-None
returns-in-None c =
    let j = c.self.inside in
    let are = rw (← c.self.view_is) at c.own_calls.ensures in
    let some = rw (← c.self.view_is) at c.requires in
    rw (← c.self.view_is) (own_next j.reports.now c.own_calls.result.now j.made (calls_of_turn j.plans.now j.who j.turns) _ c.in-None.ensures.value are some)
