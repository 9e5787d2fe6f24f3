-- Proof that the loop of `in_last_states` keeps its invariant.
use Rattle.std.proofs.Common.{◌++◌, ◌∷◌, ◌∙◌, [], List, false, map, take, get_or, sym, ap}
use Rattle.std.proofs.lemmas.List.{map-append, take_more}
use Rattle.sleep_model.specs.declared.machine.Link.{Link}
use Rattle.sleep_stats.specs.Linked.{with_last}
use Rattle.sleep_stats.proofs.linked.in_last_states.Goals as goal

pub loop-link-preserved : goal.loop-link-preserved
loop-link-preserved c = λ entries last.
    let f = with_last entries in
    let xs = c.args.links.now in
    let i = c.loop-link.link-index in
    let d : Link = record { supplier = 0; consumer = 0; active = false } in
    let made = c.with_last.ensures entries last in
    c.in_ok-push.ensures.items
    ∙ (ap (λ (ys : List Link). ys ++ c.with_last.result ∷ []) (c.loop-link.invariant entries last)
    ∙ (ap (λ (y : Link). map f (take i xs) ++ y ∷ []) made
    ∙ (sym (map-append f (take i xs) (get_or xs i d ∷ [])) ∙ ap (map f) (sym (take_more xs i d c.loop-link-test.true)))))
