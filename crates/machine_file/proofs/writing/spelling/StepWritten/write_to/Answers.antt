-- Proof that `StepWritten::write_to` meets its contract.
use Rattle.machine_file.specs.Spelling.{op_rows}
use Rattle.machine_file.proofs.Sheets.{object_whole}
use Rattle.machine_file.proofs.Rising.{op_rising}
use Rattle.machine_file.proofs.writing.spelling.StepWritten.write_to.Goals as goal

pub returns : goal.returns
returns c =
    object_whole c.close_object.result c.args.out.now c.open_object.new.self c.put_op.new.out c.close_object.new.self (op_rows c.args.machine.now c.args.self.now.times c.args.self.now.op)
    (op_rising c.args.machine.now c.args.self.now.times c.args.self.now.op) (c.in_ok-open_object.ensures) (c.in_ok-put_op.ensures) c.close_object.ensures
