-- Proof by hand of `take_link`: what it takes, by the ends of the link that an entry adds.
use Rattle.std.proofs.Common.{◌≡◌, ◌∙◌, Some, IfErr, OnOk, length, reverse, sym, subst}
use Rattle.sleep_model.specs.declared.entry.Kind.{Kind}
use Rattle.sleep_stats.proofs.AddedEnds.{some_added}
use Rattle.program_ending.specs.CommandEndings.{Refuses}
use Rattle.log_commands.specs.Taking.{AddsWithin, IsTaken, refusal_at}
use Rattle.log_commands.proofs.Trying.{none_taken}
use Rattle.log_commands.proofs.links.take_link.Goals as goal

pub add_link-requires-clause-supplier : goal.add_link-requires-clause-supplier
add_link-requires-clause-supplier c =
    let is = some_added c.args.kind c.in-Some.field-0 (sym c.added_ends.ensures ∙ c.in-Some.is) in
    (subst (AddsWithin (length c.args.links.now.parents)) is c.requires.within).0

pub add_link-requires-clause-consumer : goal.add_link-requires-clause-consumer
add_link-requires-clause-consumer c =
    let is = some_added c.args.kind c.in-Some.field-0 (sym c.added_ends.ensures ∙ c.in-Some.is) in
    (subst (AddsWithin (length c.args.links.now.parents)) is c.requires.within).1

pub returns-in-Some-clause-taken : goal.returns-in-Some-clause-taken
returns-in-Some-clause-taken c =
    let is = some_added c.args.kind c.in-Some.field-0 (sym c.added_ends.ensures ∙ c.in-Some.is) in
    subst (λ (k : Kind). OnOk c.add_link.result (IsTaken c.args.links.now c.add_link.new.links k)) (sym is) c.add_link.ensures.taken

pub returns-in-Some-clause-refused : goal.returns-in-Some-clause-refused
returns-in-Some-clause-refused c =
    let is = some_added c.args.kind c.in-Some.field-0 (sym c.added_ends.ensures ∙ c.in-Some.is) in
    subst
    (λ (k : Kind). IfErr c.add_link.result (Refuses (λ r. refusal_at c.args.links.now.parents (reverse c.args.links.now.links) k ≡ Some r)))
    (sym is) c.add_link.ensures.refused

pub returns-in-None-clause-taken : goal.returns-in-None-clause-taken
returns-in-None-clause-taken c =
    none_taken c.args.links.now c.args.kind c.requires.stands (sym c.added_ends.ensures ∙ c.in-None.is)
