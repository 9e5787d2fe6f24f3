-- Proof that `AnswerWritten::write_to` meets its contract.
use Rattle.std.proofs.Common.{◌∙◌, codes, map, refl, ap}
use Rattle.machine_file.specs.Spelling.{text_row, list_if, report_value, answer_rows}
use Rattle.machine_file.specs.Writing.{with_row}
use Rattle.machine_file.proofs.Sheets.{object_chained}
use Rattle.machine_file.proofs.writing.answering.AnswerWritten.write_to.Goals as goal

pub returns : goal.returns
returns c =
    object_chained c.close_object.result c.args.out.now c.open_object.new.self c.text-2.new.self c.close_object.new.self (answer_rows c.args.machine.now c.args.self.now) refl c.in_ok-open_object.ensures
    (c.number_if.new.self, c.in_ok-number_if.ensures, (c.text.new.self, c.in_ok-text.ensures ∙ ap (λ x. with_row c.number_if.new.self (text_row (codes "name") x)) c.thing_name.ensures, (c.put_phase.new.out, c.in_ok-put_phase.ensures, (c.list.new.self, c.in_ok-list.ensures ∙ ap (λ x. with_row c.put_phase.new.out (list_if (codes "reports") (map (report_value c.args.machine.now) x))) c.as_slice.ensures, (c.put_answered.new.out, c.in_ok-put_answered.ensures, (c.text-2.new.self, c.in_ok-text-2.ensures ∙ ap (λ x. with_row c.put_answered.new.out (text_row (codes "what") x)) (c.as_bytes.ensures.value ∙ c.thing_word.ensures), refl))))))
    c.close_object.ensures
