-- Proof by hand of `read_end`: what it returns, by the lemmas of `Finished`.
use Rattle.std.proofs.Common.{◌≡◌, ◌∙◌, sym, length, arith, true, bytes_eq}
use Rattle.std.proofs.lemmas.Bool.Decides.{nat_tests}
use Rattle.log_text.specs.Grammar.{finished_line}
use Rattle.log_text.proofs.Finished.{finished_text, finished_bad}
use Rattle.log_text.proofs.reading.read.read_end.Goals as goal

pub returns-then-is_empty-2-clause-text : goal.returns-then-is_empty-2-clause-text
returns-then-is_empty-2-clause-text c =
    let line : bytes_eq c.first_line.result.0.now finished_line ≡ true = sym c.is.ensures ∙ c.if-is.true in
    let end : length c.first_line.result.1.now ≡ 0 = grind (arith, nat_tests) in
    finished_text c.first_line.result.0.now c.first_line.result.1.now c.args.bytes.now c.first_line.ensures.joined line end

pub returns-then-is-clause-fault : goal.returns-then-is-clause-fault
returns-then-is-clause-fault c = λ named.
    let line : bytes_eq c.first_line.result.0.now finished_line ≡ true = sym c.is.ensures ∙ c.if-is.true in
    finished_bad c.args.machine_names.now c.first_line.result.0.now c.first_line.result.1.now c.args.bytes.now c.args.number c.in_ok-next_number.field-0 c.first_line.ensures.lines line (λ none. grind (arith, nat_tests)) c.in_ok-next_number.ensures
