-- Proof by hand of `verdict_on`: what it returns.
use Rattle.std.proofs.lemmas.Result.{IfOk-weaker}
use Rattle.file_read_back.proofs.Naming.{machines_named}
use Rattle.log_commands.specs.Judging.{OfLine, OfLog}
use Rattle.log_commands.proofs.verdict.verdict_on.Goals as goal

pub returns-in-Ok : goal.returns-in-Ok
returns-in-Ok c = IfOk-weaker c.check-verdict.result _ _ (λ v is. OfLog c.in-Ok.log v c.in-Ok.ensures.fits c.in-Ok.ensures.text is) c.check-verdict.ensures

pub returns-in-Err-Line : goal.returns-in-Err-Line
returns-in-Err-Line c =
    let bad = rw c.in-Err-Line.field-0-is at c.in-Err-Line.ensures.line in
    rw c.in-Err-Line.field-0-is (OfLine c.in-Err-Line.line (bad (machines_named c.args.machine.now c.requires.spelled)))
