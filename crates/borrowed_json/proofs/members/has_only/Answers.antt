-- Proof that `has_only` meets its contract.
use Rattle.std.proofs.Common.{◌≡◌, ◌∙◌, Some, map, ap, arith}
use Rattle.serde_json.specs.Find.{as_object}
use Rattle.borrowed_json.specs.View.{view, members_view}
use Rattle.borrowed_json.specs.Look.{are_named, is_some_and}
use Rattle.borrowed_json.proofs.MembersNamed.{are_named_all}
use Rattle.borrowed_json.proofs.members.has_only.Goals as goal

pub returns-in-Some : goal.returns-in-Some
returns-in-Some c =
    let members : Some (members_view c.in-Some.members.now) ≡ as_object (view c.args.value.now) = grind arith in
    c.are_named.ensures ∙ are_named_all c.args.names.now c.in-Some.members.now ∙ ap (is_some_and (are_named (map (λ s. s.now) c.args.names.now))) members
