-- Proof that the loop of `first_indices` keeps its invariant.
use Rattle.std.proofs.Common.{◌≡◌, ◌<◌, ◌+◌, ◌-◌, ℕ, length, arith, subst}
use Rattle.indexmap.specs.IndexMap.{get}
use Rattle.machine_plans.specs.contracts.key.KeyPartialEq.TheImpl.{eq-value}
use Rattle.machine_plans.proofs.Indexing.{IsIndexedFrom, indexed_more}
use Rattle.machine_plans.proofs.indices.first_indices.Goals as goal

pub loop-i-preserved : goal.loop-i-preserved
loop-i-preserved c =
    let next : c.loop-i.i ≡ (c.loop-i.i - 1) + 1 = omega arith in
    let within : c.loop-i.i - 1 < length c.args.answers.now = omega arith in
    let before = subst (λ (k : ℕ). IsIndexedFrom c.args.answers.now k (get eq-value.it c.loop-i.indices)) next c.loop-i.invariant in
    indexed_more c.args.answers.now (c.loop-i.i - 1) c.index-answers-i.result within c.index-answers-i.is c.key_of.result
    (get eq-value.it c.loop-i.indices) (get eq-value.it c.insert.new.self) c.key_of.ensures before c.in_ok-insert.ensures.updates.0
