-- Proof that the loop of `link_index_of` keeps its invariant.
use Rattle.std.proofs.Common.{◌++◌, ◌∷◌, ◌∙◌, [], List, false, get_or, sym, ap}
use Rattle.std.proofs.lemmas.List.{take_more}
use Rattle.sleep_model.specs.declared.machine.Link.{Link}
use Rattle.sleep_stats.proofs.linked.link_index_of.Goals as goal

pub loop-link-preserved : goal.loop-link-preserved
loop-link-preserved c =
    let xs = c.args.links.now in
    let i = c.loop-link.link-index in
    let d : Link = record { supplier = 0; consumer = 0; active = false } in
    record {
      links = c.in_ok-put_link.ensures.links
          ∙ (ap (λ (ys : List Link). ys ++ get_or xs i d ∷ []) c.loop-link.invariant.links ∙ sym (take_more xs i d c.loop-link-test.true));
      marked = c.in_ok-put_link.ensures.marked;
    }
