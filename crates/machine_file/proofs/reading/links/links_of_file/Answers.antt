-- Proof that `links_of_file` meets its contract.
use Rattle.std.proofs.Common.{◌≡◌, Bool, IfOk, List, Vec, map, subst, true}
use Rattle.std.specs.declared.alloc.Global.{Global}
use Rattle.std.specs.List.{list_all}
use Rattle.borrowed_json.specs.View.{view}
use Rattle.sleep_model.specs.declared.machine.Link.{Link}
use Rattle.file_rules.specs.Kept.{is_valid_link}
use Rattle.file_rules.specs.Knows.{names}
use Rattle.machine_file.proofs.KeptLinks.{links_known, links_spelled, links_stop}
use Rattle.machine_file.proofs.reading.links.links_of_file.Goals as goal

pub returns-clause-valid : goal.returns-clause-valid
returns-clause-valid c =
    let file = view c.args.tree.now in
    let k = c.args.known.now in
    subst (λ (b : Bool). IfOk c.links_in.result (λ (v : Vec Link Global). b ≡ true))
    (links_known k file c.is_second.result (map view c.items.result.now) c.requires c.is_second.ensures c.items.ensures) c.links_in.ensures.valid

pub returns-clause-spelled : goal.returns-clause-spelled
returns-clause-spelled c =
    let file = view c.args.tree.now in
    subst (λ (ls : List Link). IfOk c.links_in.result (λ (v : Vec Link Global). v.items ≡ ls))
    (links_spelled c.args.known.now file (map view c.items.result.now) c.requires c.items.ensures) c.links_in.ensures.spells

pub returns-clause-err : goal.returns-clause-err
returns-clause-err c =
    let file = view c.args.tree.now in
    let k = c.args.known.now in
    links_stop file (list_all (is_valid_link c.is_second.result (names k.devices)) (map view c.items.result.now)) c.links_in.result
    (links_known k file c.is_second.result (map view c.items.result.now) c.requires c.is_second.ensures c.items.ensures) c.links_in.ensures.err
