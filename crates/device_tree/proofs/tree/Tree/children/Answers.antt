-- Proof by hand of `children`: what it returns, by the lemmas of `Invariant`.
use Rattle.std.proofs.Common.{ap, ◌∙◌}
use Rattle.sleep_model.specs.Order.{children_from, parents_of}
use Rattle.device_tree.proofs.Invariant.{row_is}
use Rattle.device_tree.proofs.tree.Tree.children.Goals as goal

pub returns : goal.returns
returns c = c.row.ensures ∙ row_is (parents_of c.self.inside.devices.items) c.self.inside.children.rows c.self.invariant.tree.parents c.self.invariant.children c.args.device ∙ ap (λ ds. children_from c.args.device 0 (parents_of ds)) c.self.view_is
