-- Proof that the loop of `unslotted` keeps its invariant.
use Rattle.std.proofs.Common.{rules, ap, sym, ◌∙◌, subst, Some, ◌≡◌, ◌<◌, false, get_or}
use mathlib.Core.Option.{some}
use lib.ListN.{get_elem?}
use Rattle.turn_lock.proofs.LastPasses.{one_out, filled_next, emptied_next}
use Rattle.turn_lock.proofs.closing.unslotted.Goals as goal

pub loop-i-preserved : goal.loop-i-preserved
loop-i-preserved g c =
    let is = c.loop-i.invariant in
    let found : c.take.result ≡ Some c.unwrap.result = search rules in
    let o = c.take.ensures.others in (
      search rules,
      search rules,
      (λ k low high. ap (λ fs. get_or fs k false) o.1 ∙ filled_next _ c.loop-i.i _ is.2 k low (subst (λ n. k < n) o.2 high)),
      (λ k low. ap (λ fs. get_or fs k false) o.1 ∙ emptied_next _ c.loop-i.i is.3 k low),
      search rules,
      search rules,
      rw (c.push_reserved.ensures.items) (one_out c.loop-i.values.items c.unwrap.result _ c.loop-i.i (search rules)
          (ap (λ l. get_elem? l c.loop-i.i) (sym is.0) ∙ (c.take.ensures.value ∙ ap some found)) is.6),
    )
