-- Proof by hand of `stuck`: what it returns, by the lemmas of `Readable`.
use Rattle.std.proofs.Common.{◌≡◌, ◌∙◌, sym, drop, None, Some}
use Rattle.log_text.specs.Cutting.{without_last}
use Rattle.log_text.specs.Reading.{waiting_in}
use Rattle.log_text.proofs.Readable.{no_stuck, other_stuck}
use Rattle.log_text.proofs.reading.reader.LineReader.stuck.Goals as goal

pub returns-in-None-clause-none : goal.returns-in-None-clause-none
returns-in-None-clause-none c =
    let read : waiting_in c.args.machine_names.now (without_last (drop 6 c.args.line.now)) ≡ None = cc in
    no_stuck c.args.machine_names.now c.args.line.now read

pub returns-else-same-clause-none : goal.returns-else-same-clause-none
returns-else-same-clause-none c =
    let read : waiting_in c.args.machine_names.now (without_last (drop 6 c.args.line.now)) ≡ Some c.in-Some.waiting = cc in
    other_stuck c.args.machine_names.now c.args.line.now c.in-Some.waiting read (sym c.in_ok-same-in-Some.ensures ∙ c.if-same.false)
