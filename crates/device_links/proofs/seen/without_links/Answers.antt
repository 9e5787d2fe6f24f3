-- Proof by hand of `without_links`: what it returns, by the lemmas of `Tabulating`.
use Rattle.device_links.proofs.Tabulating.{tables_new}
use Rattle.device_links.proofs.seen.without_links.Goals as goal

pub returns : goal.returns
returns c =
    tables_new c.args.parents.now c.requires.numbered c.requires.after
    (record { dependents = c.in_ok-children_of.field-0; below = c.in_ok-children_of-2.field-0; suppliers = c.in_ok-with_rows.field-0; above = c.in_ok-parents_of.field-0 })
    c.in_ok-children_of.ensures c.in_ok-children_of-2.ensures c.in_ok-with_rows.ensures c.in_ok-parents_of.ensures
