-- Proof that `give` meets what `store` requires.
use Rattle.std.proofs.Common.{rules, ◌∷◌, ◌++◌, ◌∙◌, sym, ap, Some}
use lib.ListN.{get_elem?}
use Rattle.atomic_table.specs.Table.{rest}
use Rattle.turn_lock.proofs.Invariance.{may_give}
use Rattle.turn_lock.proofs.table.give.Goals as goal

pub store-requires : goal.store-requires
store-requires g c =
    let is = c.requires.held in
    let now = c.exchange.ensures.3 in
    let grown = c.requires.grown in (
      search rules,
      search rules,
      may_give _ _ _ _ _ is.numbered.0 _ c.args.held.value (ap (λ m. m.1) now ∙ ap (λ cs. (c.args.held.object, Some c.args.held.value) ∷ rest cs) is.slot)
          (ap (λ m. m.0.out) now ∙ is.out) (ap (λ m. m.0.keeps) now ∙ is.plain) (ap (λ m. m.0.number) now ∙ is.numbered.1)
          (grown.0, grown.1 ∙ ap (λ m. m.0.had ++ grown.0) (sym now))
          (λ u at. c.requires.root u (ap (λ l. get_elem? l c.args.held.object) (sym (ap (λ m. m.0.first) now ∙ is.first_is)) ∙ at)),
    )
