-- Proof that in `last_linked` the last case does not occur.
use Rattle.std.proofs.Common.{◌≡◌, ◌∙◌, ℕ, List, Option, sym, ap, subst}
use Rattle.sleep_model.specs.Order.{parents_of}
use Rattle.device_links.specs.Passes.{CanBeAdded, Makes}
use Rattle.sleep_stats.specs.Linked.{added_links, last_links}
use Rattle.sleep_stats.proofs.LinkIndexes.{stand_last}
use Rattle.sleep_stats.proofs.linked.last_linked.Goals as goal

pub unreachable-requires : goal.unreachable-requires
unreachable-requires c =
    let m = c.args.machine.now in
    let log = c.args.log.now in
    let stand = stand_last (parents_of m.devices) log.entries (added_links m log) c.requires.stand in
    let parents : c.deref.result.now ≡ parents_of m.devices = c.deref.ensures.value ∙ (c.in_ok-parents.ensures ∙ ap parents_of c.as_slice.ensures) in
    let links : c.deref-2.result.now ≡ last_links m log = c.deref-2.ensures.value ∙ c.in_ok-links.ensures in
    let made = subst (Makes c.deref.result.now c.deref-2.result.now) c.in-None.is c.in_ok-links-2.ensures in
    made (subst (λ (ps : List (Option ℕ)). CanBeAdded ps c.deref-2.result.now) (sym parents) (subst (CanBeAdded (parents_of m.devices)) (sym links) stand))
