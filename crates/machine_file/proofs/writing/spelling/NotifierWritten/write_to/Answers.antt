-- Proof that `NotifierWritten::write_to` meets its contract.
use Rattle.std.proofs.Common.{◌∙◌, codes, refl, ap}
use Rattle.machine_file.specs.Spelling.{text_row, notifier_rows}
use Rattle.machine_file.specs.Writing.{with_row}
use Rattle.machine_file.proofs.Sheets.{object_chained}
use Rattle.machine_file.proofs.writing.spelling.NotifierWritten.write_to.Goals as goal

pub returns : goal.returns
returns c =
    object_chained c.close_object.result c.args.out.now c.open_object.new.self c.put_priority.new.out c.close_object.new.self (notifier_rows c.args.self.now) refl c.in_ok-open_object.ensures
    (c.text.new.self, c.in_ok-text.ensures ∙ ap (λ x. with_row c.open_object.new.self (text_row (codes "name") x)) c.bytes.ensures, (c.put_priority.new.out, c.in_ok-put_priority.ensures, refl))
    c.close_object.ensures
