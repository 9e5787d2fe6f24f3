-- Proof that `let_all_go` meets its contract, and that its loop keeps its invariant.
use Rattle.std.proofs.Common.{◌∙◌, ◌+◌, arith, ap, slice_index_or}
use Rattle.sleep_model.specs.Freezer.{let_go}
use Rattle.task_freezer.proofs.Fronts.{let_go_more, let_go_all}
use Rattle.task_freezer.proofs.asking.let_all_go.Goals as goal

pub loop-i-preserved : goal.loop-i-preserved
loop-i-preserved c = let_go_more c.loop-i.i (c.loop-i.i + 1) c.args.those c.args.scripts.now c.args.freezings.now.items c.loop-i.freezings.items c.index-scripts-i.result c.index.result.now c.let_go-after.result (omega arith) c.loop-i.invariant (c.let_go-after.ensures ∙ ap (λ x. let_go c.args.those (slice_index_or c.args.scripts.now c.loop-i.i c.index-scripts-i.result).kind x) c.index.ensures) c.requires c.loop-i-test.true

pub returns : goal.returns
returns c = c.loop-i.invariant ∙ let_go_all c.loop-i.i c.args.those c.args.scripts.now c.args.freezings.now.items c.requires c.loop-i-test.false
