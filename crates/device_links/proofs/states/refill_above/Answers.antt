-- Proof by hand of `refill_above`: what it returns, by the lemmas of `InPlace`.
use Rattle.std.proofs.Common.{[], reverse, None, get_or, option_to_list}
use Rattle.device_links.specs.Invariant.{active_above}
use Rattle.device_links.proofs.InPlace.{last_refilled}
use Rattle.device_links.proofs.states.refill_above.Goals as goal

pub returns-clause-rows : goal.returns-clause-rows
returns-clause-rows c =
    last_refilled c.args.table.now.rows c.clear.new.self.rows c.push_parent.new.table.rows c.push_linked.new.table.rows c.args.device [] (option_to_list (get_or c.args.parents.now c.args.device None)) (active_above c.args.parents.now (reverse c.args.links.now) c.args.device)
    c.clear.ensures.rows c.push_parent.ensures.rows c.push_linked.ensures.rows
