use Rattle.std.proofs.Common.{arith}
use Rattle.std.proofs.lemmas.Grind.{common_steps}
use Rattle.std.proofs.lemmas.Result.{err_from_is_err_and}
use Rattle.file_rules.specs.Fitting.{FitsScript}
use Rattle.file_rules.specs.Knows.{known_seen}
use Rattle.file_rules.specs.OperationRows.{is_valid_script}
use Rattle.file_rules.proofs.Each.{value_each}
use Rattle.machine_file.proofs.Passed.{all_passed, stops_all}
use Rattle.machine_file.proofs.reading.scripts.scripts_in.Goals as goal

pub script_in-requires-clause-fits : goal.script_in-requires-clause-fits
script_in-requires-clause-fits c = value_each FitsScript c.args.actors.now c.loop-actor.actor-index c.actor-item.result (omega arith) c.actor-item.is c.requires.fit

pub loop-actor-preserved : goal.loop-actor-preserved
loop-actor-preserved c = (
  all_passed (is_valid_script c.args.second (known_seen c.args.known.now)) c.args.actors.now c.loop-actor.actor-index c.actor-item.result (omega arith) c.actor-item.is
      c.loop-actor.invariant.0 c.in_ok-script_in.ensures.valid,
  λ few. grind (arith, common_steps),
)

pub returns-in_err-script_in-clause-err : goal.returns-in_err-script_in-clause-err
returns-in_err-script_in-clause-err c =
    let p = err_from_is_err_and c.from_residual-in_err-script_in.result c.from_residual-in_err-script_in.ensures.1 in
    rw (p.1, p.2) (stops_all (is_valid_script c.args.second (known_seen c.args.known.now)) c.args.actors.now c.loop-actor.actor-index c.actor-item.result (omega arith) c.actor-item.is _ c.in_err-script_in.ensures.err)
