-- Proof by hand of `note_link`: what it adds, by the lemmas of `AddedEnds`.
use Rattle.std.proofs.Common.{◌≡◌, ◌∙◌, OnOk, sym, subst}
use Rattle.sleep_model.specs.declared.entry.Kind.{Kind}
use Rattle.sleep_stats.specs.Linked.{added_after}
use Rattle.sleep_stats.proofs.AddedEnds.{none_added, some_added}
use Rattle.sleep_stats.proofs.linked.note_link.Goals as goal

pub returns-in-Some-clause-links : goal.returns-in-Some-clause-links
returns-in-Some-clause-links c =
    let is = some_added c.args.kind c.in-Some.field-0 (sym c.added_ends.ensures ∙ c.in-Some.is) in
    subst (λ (k : Kind). OnOk c.add_link.result (c.add_link.new.link_index.links.items ≡ added_after k c.args.link_index.now.links.items)) (sym is)
    c.add_link.ensures.links

pub returns-in-None-clause-links : goal.returns-in-None-clause-links
returns-in-None-clause-links c =
    sym (none_added c.args.kind c.args.link_index.now.links.items (sym c.added_ends.ensures ∙ c.in-None.is))
