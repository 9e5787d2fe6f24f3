-- Proof by hand of `with_links`: what it returns, by the lemmas of `Ordered`.
use Rattle.device_links.proofs.Ordered.{no_tables}
use Rattle.device_links.proofs.links.Links.with_links.Goals as goal

pub returns-in_default : goal.returns-in_default
returns-in_default c = no_tables c.args.parents.now c.args.links.now c.in_ok-tables.field-0 c.in_default.not-Some c.in_ok-tables.ensures
