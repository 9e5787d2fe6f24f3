-- Proof that `rule_broken` meets its contract.
use Rattle.std.proofs.Common.{◌∙◌, ap, sym, subst, codes, Some}
use Rattle.borrowed_json.specs.View.{view}
use Rattle.device_tree.specs.declared.fault.TreeFault.{TreeFault}
use Rattle.borrowed_json.specs.Look.{list_in}
use Rattle.file_rules.specs.Broken.{place_of}
use Rattle.file_rules.specs.Registered.{Stops}
use Rattle.file_rules.specs.Whole.{Broken}
use Rattle.file_rules.proofs.Registering.{name_broken, again_broken, parent_broken}
use Rattle.file_rules.proofs.names.devices.rule_broken.Goals as goal

pub returns-in-NameTaken : goal.returns-in-NameTaken
returns-in-NameTaken c =
    let file = view c.args.tree.now in
    name_broken file c.args.refused.number (subst (λ (f : TreeFault). Stops f c.args.refused.number (list_in (codes "devices") file)) c.in-NameTaken.is c.requires)
    ∙ ap (λ (b : Broken). Some b) (sym c.at.ensures)

pub returns-in-Some : goal.returns-in-Some
returns-in-Some c = again_broken (view c.args.tree.now) _ (sym c.in_ok-place-in-NoParent.ensures ∙ ap place_of c.in-Some.is)

pub returns-in-None : goal.returns-in-None
returns-in-None c =
    let file = view c.args.tree.now in
    parent_broken file c.args.refused.number (sym c.in_ok-place-in-NoParent.ensures ∙ ap place_of c.in-None.is)
    (subst (λ (f : TreeFault). Stops f c.args.refused.number (list_in (codes "devices") file)) c.in-NoParent.is c.requires)
    ∙ ap (λ (b : Broken). Some b) (sym c.at-in-None.ensures)
