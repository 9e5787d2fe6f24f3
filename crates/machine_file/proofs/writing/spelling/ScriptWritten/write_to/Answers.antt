-- Proof that `ScriptWritten::write_to` meets its contract.
use Rattle.std.proofs.Common.{◌∙◌, codes, map, refl, ap}
use Rattle.machine_file.specs.Spelling.{text_row, count_unless, list_if, step_value, script_rows}
use Rattle.machine_file.specs.Writing.{with_row}
use Rattle.machine_file.proofs.Sheets.{object_chained}
use Rattle.machine_file.proofs.writing.spelling.ScriptWritten.write_to.Goals as goal

pub returns : goal.returns
returns c =
    object_chained c.close_object.result c.args.out.now c.open_object.new.self c.list.new.self c.close_object.new.self (script_rows c.args.machine.now c.args.self.now) refl c.in_ok-open_object.ensures
    (c.text.new.self, c.in_ok-text.ensures ∙ ap (λ x. with_row c.open_object.new.self (text_row (codes "kind") x)) (c.as_bytes.ensures.value ∙ c.name.ensures), (c.text-2.new.self, c.in_ok-text-2.ensures ∙ ap (λ x. with_row c.text.new.self (text_row (codes "name") x)) c.bytes.ensures, (c.number_unless.new.self, c.in_ok-number_unless.ensures ∙ ap (λ x. with_row c.text-2.new.self (count_unless (codes "repeat") 1 x)) c.from.ensures, (c.list.new.self, c.in_ok-list.ensures ∙ ap (λ x. with_row c.number_unless.new.self (list_if (codes "script") (map (step_value c.args.machine.now) x))) c.as_slice.ensures, refl))))
    c.close_object.ensures
