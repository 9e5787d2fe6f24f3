use Rattle.std.proofs.Common.{arith}
use Rattle.std.proofs.lemmas.Grind.{common_steps}
use Rattle.std.proofs.lemmas.Result.{err_from_is_err_and}
use Rattle.file_rules.specs.Knows.{known_seen}
use Rattle.file_rules.specs.OperationRows.{is_valid_for}
use Rattle.machine_file.proofs.Passed.{all_passed, stops_all}
use Rattle.machine_file.proofs.reading.scripts.steps_in.Goals as goal

pub loop-operation-preserved : goal.loop-operation-preserved
loop-operation-preserved c = (
  all_passed (is_valid_for c.args.second c.args.kind.now (known_seen c.args.known.now)) c.args.script.now c.loop-operation.operation-index c.operation-item.result (omega arith) c.operation-item.is
      c.loop-operation.invariant.0 c.in_ok-step_in.ensures.valid,
  λ few. grind (arith, common_steps),
)

pub returns-in_err-step_in-clause-err : goal.returns-in_err-step_in-clause-err
returns-in_err-step_in-clause-err c =
    let p = err_from_is_err_and c.from_residual-in_err-step_in.result c.from_residual-in_err-step_in.ensures.1 in
    rw (p.1, p.2) (stops_all (is_valid_for c.args.second c.args.kind.now (known_seen c.args.known.now)) c.args.script.now c.loop-operation.operation-index c.operation-item.result (omega arith) c.operation-item.is _ c.in_err-step_in.ensures.err)
