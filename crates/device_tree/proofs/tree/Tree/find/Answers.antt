-- Proof by hand of `find`: what it returns, by the lemmas of `Names`.
use Rattle.std.proofs.Common.{ap, ◌∙◌}
use Rattle.device_tree.specs.Refusal.{number_of_name}
use Rattle.device_tree.proofs.Names.{place_is}
use Rattle.device_tree.proofs.tree.Tree.find.Goals as goal

pub returns-in-Some : goal.returns-in-Some
returns-in-Some c = c.in-Some.ensures.index ∙ place_is c.args.name.now c.self.inside.names.keys c.self.inside.devices.items c.self.invariant.same_names ∙ ap (number_of_name c.args.name.now) c.self.view_is

pub returns-in-None : goal.returns-in-None
returns-in-None c = c.in-None.ensures.index ∙ place_is c.args.name.now c.self.inside.names.keys c.self.inside.devices.items c.self.invariant.same_names ∙ ap (number_of_name c.args.name.now) c.self.view_is
