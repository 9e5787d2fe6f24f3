-- Proof that `ask_all` meets its contract, and that its loop keeps its invariant.
use Rattle.std.proofs.Common.{◌∙◌, ◌+◌, arith, ap, slice_index_or}
use Rattle.sleep_model.specs.Freezer.{asked_by}
use Rattle.task_freezer.proofs.Fronts.{asked_more, asked_all}
use Rattle.task_freezer.proofs.asking.ask_all.Goals as goal

pub loop-i-preserved : goal.loop-i-preserved
loop-i-preserved c = asked_more c.loop-i.i (c.loop-i.i + 1) c.args.group c.args.who c.args.scripts.now c.args.freezings.now.items c.loop-i.freezings.items c.index-scripts-i.result c.index.result.now c.asked_by-after.result (omega arith) c.loop-i.invariant (c.asked_by-after.ensures ∙ ap (λ x. asked_by c.args.group c.args.who c.loop-i.i (slice_index_or c.args.scripts.now c.loop-i.i c.index-scripts-i.result).kind x) c.index.ensures) c.requires.all c.loop-i-test.true

pub returns : goal.returns
returns c = c.loop-i.invariant ∙ asked_all c.loop-i.i c.args.group c.args.who 0 c.args.scripts.now c.args.freezings.now.items c.requires.all c.loop-i-test.false
