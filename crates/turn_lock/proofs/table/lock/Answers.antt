-- Proof that `lock` meets what `compare_exchange` requires.
use Rattle.std.proofs.Common.{rules, ◌<◌, sym, ap, ◌∙◌, subst, length, List}
use Rattle.turn_lock.proofs.Invariance.{may_take}
use Rattle.turn_lock.proofs.table.lock.Goals as goal

pub compare_exchange-found-requires : goal.compare_exchange-found-requires
compare_exchange-found-requires g c =
    let is = c.requires.0 in
    let m = c.loop.invariant.4 in (
      c.loop.invariant.2 ∙ is.table,
      search rules,
      may_take _ _ _ _ _ is.numbered.0 _ (subst (λ (l : List g.row.V.Denot). c.args.object < length l) (sym (ap (λ x. x.0.first) m ∙ is.first_is)) c.requires.1)
          (ap (λ x. x.0.out) m ∙ is.idle) (ap (λ x. x.0.keeps) m ∙ is.plain) (ap (λ x. x.0.number) m ∙ is.numbered.1),
    )
