-- Proof by hand of `source`: what it returns, by the lemmas of `Readable`.
use Rattle.std.proofs.Common.{◌≡◌, ◌∙◌, ◌+◌, sym, drop, length, Some}
use Rattle.sleep_model.specs.Text.{source_line}
use Rattle.log_text.specs.Cutting.{without_last}
use Rattle.log_text.specs.Reading.{stats_in}
use Rattle.log_text.proofs.Readable.{other_source, same_bytes}
use Rattle.log_text.proofs.reading.reader.LineReader.source.Goals as goal

pub returns-then-same-clause-line : goal.returns-then-same-clause-line
returns-then-same-clause-line c =
    same_bytes (source_line c.args.name.now c.in-Some.stats) c.args.line.now (sym c.in_ok-same-in-Some.ensures ∙ c.if-same.true)

pub returns-else-same-clause-none : goal.returns-else-same-clause-none
returns-else-same-clause-none c =
    let read : stats_in (without_last (drop (8 + length c.args.name.now) c.args.line.now)) ≡ Some c.in-Some.stats = cc in
    other_source c.args.name.now c.args.line.now c.in-Some.stats read (sym c.in_ok-same-in-Some.ensures ∙ c.if-same.false)
