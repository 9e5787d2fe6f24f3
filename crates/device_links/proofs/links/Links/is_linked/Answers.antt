-- Proof by hand of `is_linked`: what it returns.
use Rattle.std.proofs.Common.{◌≡◌, ◌∙◌, length, subst, reverse}
use Rattle.sleep_model.specs.Links.{is_linked}
use Rattle.device_links.specs.Linked.{Linked}
use Rattle.link_rows.proofs.RowsMade.{linked_is}
use Rattle.device_links.proofs.links.Links.is_linked.Goals as goal

pub returns : goal.returns
returns c =
    let ls = reverse c.self.inside.links.items in
    let s = c.args.supplier in
    let d = c.args.consumer in
    subst (λ (v : Linked). c.contains.result ≡ is_linked v.links s d) c.self.view_is
    (c.contains.ensures.value ∙ linked_is ls c.self.inside.tables.suppliers.rows (length c.self.inside.parents.items) c.self.invariant.kept.all_suppliers s d c.row.result.now c.row.ensures)
