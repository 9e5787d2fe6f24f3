-- Proof by hand of `replace`: what it returns.
use Rattle.std.proofs.Common.{◌∙◌, set, ap}
use Rattle.std.proofs.lemmas.List.{map-set}
use Rattle.check_order.proofs.shown.ShownRows.replace.Goals as goal

pub returns : goal.returns
returns c =
    map-set (λ v. v.items) c.self.inside.rows.items c.args.device c.args.row ∙ ap (λ rows. set rows c.args.device c.args.row.items) c.self.view_is
