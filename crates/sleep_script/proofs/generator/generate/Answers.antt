-- Proof that `generate` meets its contract.
use Rattle.std.proofs.Common.{sym, subst}
use Rattle.sleep_model.specs.Accepted.{IsAccepted}
use Rattle.sleep_script.proofs.Drawn.{machine_is}
use Rattle.sleep_script.proofs.Generating.{accepted}
use Rattle.sleep_script.proofs.generator.generate.Goals as goal

pub returns-clause-machine : goal.returns-clause-machine
returns-clause-machine c =
    machine_is c.args.seed c.args.devices c.new-draws.result c.draw_devices.new.draws c.draw_links.new.draws c.of_vec.result c.of_vec-2.result c.in_ok-sleeper.field-0 c.in_ok-draw_line.field-0 c.of_vec-7.result
    c.name.result c.name-2.result c.name-3.result c.of_vec-5.result c.of_vec-3.result c.of_vec-6.result c.of_vec-4.result c.of_vec-8.result
    c.new-draws.ensures (cc c.in_ok-all_devices.ensures.devices) c.in_ok-all_devices.ensures.next (cc c.in_ok-links.ensures.links) c.in_ok-links.ensures.next c.in_ok-sleeper.ensures c.in_ok-draw_line.ensures (cc c.in_ok-actors.ensures.items)
    c.name.ensures c.name-2.ensures c.name-3.ensures (cc c.in_ok-sources.ensures.items) (cc) (cc) (cc) (cc)

pub returns-clause-accepted : goal.returns-clause-accepted
returns-clause-accepted c = subst IsAccepted (sym (returns-clause-machine c)) (accepted c.args.seed c.args.devices c.requires.some c.requires.few)
