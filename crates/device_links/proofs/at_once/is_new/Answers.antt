-- Proof by hand of `is_new`: what it returns, by the lemmas of `Tabulating`.
use Rattle.std.proofs.Common.{◌<◌, ◌==◌, ◌∙◌, ap, arith}
use Rattle.std.specs.List.{list_any}
use Rattle.sleep_model.proofs.FirstOccurrences.{list_any_among}
use Rattle.device_rows.specs.Table.{row_at}
use Rattle.device_links.proofs.Tabulating.{decides_new}
use Rattle.device_links.proofs.at_once.is_new.Goals as goal

pub returns : goal.returns
returns c =
    let l = c.args.link in
    let t = c.args.suppliers.now in
    let s : l.supplier < c.args.count = omega arith in
    let d : l.consumer < c.args.count = omega arith in
    decides_new c.args.count t l s d c.contains.result
    (c.contains.ensures.value ∙ (ap (list_any (λ y. y == l.supplier)) c.row.ensures ∙ list_any_among (row_at t l.consumer) l.supplier))
