-- Proof that `take` meets what `exchange` requires.
use Rattle.std.proofs.Common.{rules, ◌∷◌, ◌∙◌, sym, ap, Some}
use Rattle.atomic_table.specs.Table.{rest}
use Rattle.turn_lock.proofs.table.take.Goals as goal

pub exchange-requires : goal.exchange-requires
exchange-requires g c =
    let t = c.lock.ensures.taken in
    let carried = ap (λ m. m.1) t.1 in
    (search rules, (Some t.0, carried ∙ ap (λ cs. (c.args.object, Some t.0) ∷ rest cs) (sym carried)))
