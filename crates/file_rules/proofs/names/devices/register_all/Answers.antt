-- Proof that `register_all` meets its contract, and that its loop keeps its invariant, and that it meets what `device_of` requires.
use Rattle.std.proofs.Common.{◌<◌, ◌≤◌, ◌+◌, ◌∙◌, ◌++◌, ◌∷◌, [], ℕ, length, map, Ok, Err, sym, ap, subst, arith}
use Rattle.std.proofs.lemmas.List.{length-map}
use Rattle.borrowed_json.specs.View.{view}
use Rattle.sleep_model.specs.declared.machine.Device.{Device}
use Rattle.device_tree.specs.Refusal.{refusal, RefusesDevice}
use Rattle.file_rules.specs.Fitting.{HasShortName}
use Rattle.file_rules.proofs.Each.{value_each}
use Rattle.file_rules.proofs.Registering.{Registering, registered, refused, all_registered, value_at}
use Rattle.file_rules.proofs.names.devices.register_all.Goals as goal

pub device_of-device-requires : goal.device_of-device-requires
device_of-device-requires c = value_each HasShortName c.args.list.now c.loop-number.number c.index-list-number.result (omega arith) c.index-list-number.is c.requires.short

pub returns-in-Err-clause-refused : goal.returns-in-Err-clause-refused
returns-in-Err-clause-refused c =
    let vs = c.args.list.now in
    let v = c.index-list-number.result in
    let i = c.loop-number.number in
    let size = length-map vs view in
    let inside : i < length vs = omega arith in
    let within : i < length (map view vs) = omega arith in
    let few : length (map view vs) ≤ 1000 = let f = c.requires.few in omega arith in
    refused (map view vs) i (view v) within (value_at vs i v inside c.index-list-number.is) c.loop-number.devices c.loop-number.invariant few c.in-Err.fault
    (subst (λ (d : Device). RefusesDevice {T = ℕ} (Err c.in-Err.fault) (refusal c.loop-number.devices d)) c.device_of-device.ensures c.in-Err.ensures.refused)

pub loop-number-preserved : goal.loop-number-preserved
loop-number-preserved c =
    let vs = c.args.list.now in
    let v = c.index-list-number.result in
    let i = c.loop-number.number in
    let size = length-map vs view in
    let inside : i < length vs = omega arith in
    let within : i < length (map view vs) = omega arith in
    let added = c.in_default.ensures.ok ∙ ap (λ (d : Device). c.loop-number.devices ++ d ∷ []) c.device_of-device.ensures in
    subst (Registering (map view vs) (i + 1)) (sym added)
    (registered (map view vs) i (view v) within (value_at vs i v inside c.index-list-number.is) c.loop-number.devices c.loop-number.invariant c.in_default.field-0
    (subst (λ (d : Device). RefusesDevice (Ok c.in_default.field-0) (refusal c.loop-number.devices d)) c.device_of-device.ensures c.in_default.ensures.refused))

pub returns-clause-registered : goal.returns-clause-registered
returns-clause-registered c =
    let size = length-map c.args.list.now view in
    all_registered (map view c.args.list.now) c.loop-number.number c.loop-number.devices (omega arith) c.loop-number.invariant
