-- Proof that `last_links` gives each link its last state.
use Rattle.std.proofs.Common.{◌∙◌, List, map, ap}
use Rattle.sleep_model.specs.declared.machine.Link.{Link}
use Rattle.sleep_stats.specs.Linked.{with_last}
use Rattle.sleep_stats.proofs.linked.last_links.Goals as goal

pub returns : goal.returns
returns c =
    let entries = c.args.log.now.entries in
    c.in_ok-links.ensures entries c.in_ok-states.ensures
    ∙ ap (λ (ls : List Link). map (with_last entries) ls) (c.deref.ensures.value ∙ c.in_ok-added.ensures)
