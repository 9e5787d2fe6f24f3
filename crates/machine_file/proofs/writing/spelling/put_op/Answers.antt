-- Proof that `put_op` meets its contract.
use Rattle.std.proofs.Common.{◌∙◌, fold, sym, ap}
use Rattle.std.proofs.lemmas.Result.{on_ok_weaker}
use Rattle.machine_file.specs.Spelling.{op_rows}
use Rattle.machine_file.specs.Writing.{with_row}
use Rattle.machine_file.proofs.writing.spelling.put_op.Goals as goal

pub returns-in-SleepD-by_operation : goal.returns-in-SleepD-by_operation
returns-in-SleepD-by_operation c =
    on_ok_weaker c.by_operation-put_sleep-2.result (λ e. e ∙ ap (λ op. fold with_row c.args.out.now (op_rows c.args.machine.now c.args.times op)) (sym c.in-SleepD-by_operation.by_operation-arg-32-1-own.given.1)) c.by_operation-put_sleep-2.ensures

pub returns-in-FreezePoint-by_operation : goal.returns-in-FreezePoint-by_operation
returns-in-FreezePoint-by_operation c =
    on_ok_weaker c.by_operation-put_word-3.result (λ e. e ∙ ap (λ op. fold with_row c.args.out.now (op_rows c.args.machine.now c.args.times op)) (sym c.in-FreezePoint-by_operation.is)) c.by_operation-put_word-3.ensures
