-- Proof that `add_links` meets its contract, and that its loop keeps its invariant.
use Rattle.std.proofs.Common.{◌<◌, length, get_or, refl, subst, Err, Option, arith}
use Rattle.device_links.specs.Adds.{Adds}
use Rattle.device_links.specs.Linked.{Linked}
use Rattle.device_links.specs.Passes.{Makes}
use Rattle.device_links.specs.declared.fault.LinkFault.{LinkFault}
use Rattle.std.proofs.lemmas.List.{get_or_default}
use Rattle.file_rules.specs.Fresh.{no_link}
use Rattle.machine_file.proofs.Cycling.{is_added, is_cycle, closes_none}
use Rattle.machine_file.proofs.rules.cycles.add_links.Goals as goal

pub returns-in-Err-Cycle-clause-cycle : goal.returns-in-Err-Cycle-clause-cycle
returns-in-Err-Cycle-clause-cycle c =
    let within : c.loop-i.i < length c.args.links.now = omega arith in
    let l = get_or c.args.links.now c.loop-i.i no_link in
    is_cycle c.args.parents.now c.requires.after c.args.links.now c.requires.fresh c.loop-i.i within l (get_or_default c.args.links.now c.loop-i.i no_link l within) refl
    c.loop-i.added c.in-Err-Cycle.field-0-0 c.loop-i.invariant
    (subst (λ (f : LinkFault). Adds c.loop-i.added l.supplier l.consumer (Err f)) c.in-Err-Cycle.field-0-is c.in-Err-Cycle.ensures.answer)

pub loop-i-preserved : goal.loop-i-preserved
loop-i-preserved c =
    let within : c.loop-i.i < length c.args.links.now = omega arith in
    let l = get_or c.args.links.now c.loop-i.i no_link in
    is_added c.args.parents.now c.requires.after c.args.links.now c.requires.fresh c.loop-i.i within l (get_or_default c.args.links.now c.loop-i.i no_link l within) refl
    c.loop-i.added c.add_as.new.self c.loop-i.invariant c.in-Ok.ensures.answer c.in-Ok.ensures.ok

pub returns-in-Some-clause-cycle : goal.returns-in-Some-clause-cycle
returns-in-Some-clause-cycle c =
    let ps = c.args.parents.now in
    let ls = c.args.links.now in
    closes_none ps ls (subst (λ (o : Option Linked). Makes ps ls o) c.in-Some.is c.in_ok-all.ensures).0.linked
