-- What holds of the rest holds of all lines.
use Rattle.std.proofs.Common.{◌++◌, ◌∙◌, ap, append_assoc, flat_map, subst, arith}
use Rattle.std.proofs.lemmas.Result.{err_from_is_err_and}
use Rattle.sleep_model.specs.declared.machine.Machine.{Machine}
use Rattle.sleep_model.specs.Text.{entry_line}
use Rattle.log_text.specs.Passing.{Passes}
use Rattle.log_text.proofs.Passed.{taken_failed, taken_after, taken_line}
use Rattle.log_text.proofs.writing.stream.write_lines.Goals as goal

pub returns-in_err-put-clause-bytes : goal.returns-in_err-put-clause-bytes
returns-in_err-put-clause-bytes g c =
    let p = err_from_is_err_and c.from_residual.result c.from_residual.ensures.1 in
    rw p.1 (taken_failed _ _ _ _ _ _ _ _ _ _ c.loop-entry.invariant.told c.in_err-put.ensures.fails)

pub loop-entry-preserved : goal.loop-entry-preserved
loop-entry-preserved g c =
    let K = g.K.ByteSink in
    let old = c.loop-entry.sink in
    let new = c.put.new.sink in
    let lines = flat_map (entry_line c.args.frame.now.machine) in
    let closing = c.args.frame.now.closing in
    let passes = subst (λ (m : Machine). Passes (K.written old) (K.written new) (K.faults old) (K.faults new) (c.loop-entry.stream.buffered ++ entry_line m c.in-Some.entry) c.put.new.self.buffered) c.loop-entry.invariant.machine c.in_ok-put.ensures.passes in
    record {
      machine = c.put.ensures.machine ∙ c.loop-entry.invariant.machine;
      told = taken_line _ _ _ _ _ _ _ _ _ _ _ _ c.loop-entry.invariant.told passes (ap (λ es. lines es ++ closing) c.in-Some.ensures ∙ append_assoc _ _ closing);
      later = omega (arith, c.loop-entry.invariant.later, c.put.ensures.faults);
    }

pub returns-clause-bytes : goal.returns-clause-bytes
returns-clause-bytes g c =
    let lines = flat_map (entry_line c.args.frame.now.machine) in
    taken_after _ _ _ _ _ _ _ _ _ _ _ c.loop-entry.invariant.told (ap lines c.in_default.ensures.0) c.finish.ensures.bytes
