-- Proof that `JsonWriter::list` meets its contract.
use Rattle.std.proofs.Common.{◌<◌, length, map, arith, subst, sym}
use Rattle.std.proofs.lemmas.Grind.{common_steps}
use Rattle.std.proofs.lemmas.List.{length-map}
use Rattle.machine_file.proofs.Sheets.{list_chained}
use Rattle.machine_file.proofs.writing.writer.JsonWriter.list.Goals as goal

pub returns : goal.returns
returns g c =
    let some : 0 < length c.args.items.now = grind (arith, common_steps) in
    list_chained c.add-2.result c.args.self.now c.name.new.self c.add.new.self c.items.new.self c.add-2.new.self c.args.name.now (map (g.T.Written.value c.args.machine.now) c.args.items.now)
    (subst (λ n. 0 < n) (sym (length-map c.args.items.now (g.T.Written.value c.args.machine.now))) some) c.in_ok-name.ensures c.in_ok-add.ensures c.in_ok-items.ensures c.add-2.ensures
