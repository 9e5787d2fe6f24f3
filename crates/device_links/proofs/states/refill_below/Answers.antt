-- Proof by hand of `refill_below`: what it returns, by the lemmas of `InPlace`.
use Rattle.std.proofs.Common.{[], reverse}
use Rattle.device_links.specs.Invariant.{active_below}
use Rattle.device_links.proofs.InPlace.{last_refilled}
use Rattle.device_links.proofs.states.refill_below.Goals as goal

pub returns-clause-rows : goal.returns-clause-rows
returns-clause-rows c =
    last_refilled c.args.table.now.rows c.clear.new.self.rows c.push_children.new.table.rows c.push_linked.new.table.rows c.args.device [] c.args.children.now (active_below c.args.parents.now (reverse c.args.links.now) c.args.device)
    c.clear.ensures.rows c.push_children.ensures.rows c.push_linked.ensures.rows
