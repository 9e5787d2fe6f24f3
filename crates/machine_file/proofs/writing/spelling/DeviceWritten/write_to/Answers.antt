-- Proof that `DeviceWritten::write_to` meets its contract.
use Rattle.std.proofs.Common.{◌∙◌, codes, refl, ap}
use Rattle.machine_file.specs.Spelling.{text_row, true_if, device_rows}
use Rattle.machine_file.specs.Writing.{with_row}
use Rattle.machine_file.proofs.Sheets.{object_chained}
use Rattle.machine_file.proofs.writing.spelling.DeviceWritten.write_to.Goals as goal

pub returns : goal.returns
returns c =
    object_chained c.close_object.result c.args.out.now c.open_object.new.self c.true_if-2.new.self c.close_object.new.self (device_rows c.args.machine.now c.args.self.now) refl c.in_ok-open_object.ensures
    (c.true_if.new.self, c.in_ok-true_if.ensures ∙ ap (λ x. with_row c.open_object.new.self (true_if (codes "async") x)) c.has.ensures, (c.text.new.self, c.in_ok-text.ensures ∙ ap (λ x. with_row c.true_if.new.self (text_row (codes "name") x)) c.bytes.ensures, (c.put_parent.new.out, c.in_ok-put_parent.ensures, (c.put_status.new.out, c.in_ok-put_status.ensures, (c.true_if-2.new.self, c.in_ok-true_if-2.ensures ∙ ap (λ x. with_row c.put_status.new.out (true_if (codes "wakeup") x)) c.has-2.ensures, refl)))))
    c.close_object.ensures
