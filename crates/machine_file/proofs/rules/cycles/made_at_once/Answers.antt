-- Proof that `made_at_once` meets its contract, and what `with_links` requires.
use Rattle.std.proofs.Common.{◌≡◌, ◌∙◌, sym, ap, subst}
use Rattle.borrowed_json.specs.View.{view}
use Rattle.sleep_model.specs.Order.{EachAfterParent, parents_of}
use Rattle.file_rules.specs.Devices.{whole_devices}
use Rattle.machine_file.proofs.Tying.{devices_after, made_whole}
use Rattle.machine_file.proofs.rules.cycles.made_at_once.Goals as goal

pub with_links-requires : goal.with_links-requires
with_links-requires c =
    let file = view c.args._tree.now in
    let ps : c.deref.result.now ≡ parents_of (whole_devices file) = c.deref.ensures.value ∙ c.in_ok-parents.ensures ∙ ap parents_of (c.all.ensures ∙ c.requires.knows.registered) in
    subst (EachAfterParent 0) (sym ps) (devices_after file c.requires.devices)

pub returns : goal.returns
returns c =
    let file = view c.args._tree.now in
    let ps : c.deref.result.now ≡ parents_of (whole_devices file) = c.deref.ensures.value ∙ c.in_ok-parents.ensures ∙ ap parents_of (c.all.ensures ∙ c.requires.knows.registered) in
    let m = made_whole file c.deref.result.now c.args.links.now c.in_ok-made.made ps c.requires.links c.requires.loose c.in_ok-made.ensures in
    record { made = m.0; ends = m.1; cycle = m.2 }
