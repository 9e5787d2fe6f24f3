-- Proof that `LinkWritten::write_to` meets its contract.
use Rattle.std.proofs.Common.{◌∙◌, codes, refl, ap}
use Rattle.machine_file.specs.Spelling.{text_row, link_rows}
use Rattle.machine_file.specs.Writing.{with_row}
use Rattle.machine_file.proofs.Sheets.{object_chained}
use Rattle.machine_file.proofs.writing.spelling.LinkWritten.write_to.Goals as goal

pub returns : goal.returns
returns c =
    object_chained c.close_object.result c.args.out.now c.open_object.new.self c.text-2.new.self c.close_object.new.self (link_rows c.args.machine.now c.args.self.now) refl c.in_ok-open_object.ensures
    (c.text.new.self, c.in_ok-text.ensures ∙ ap (λ x. with_row c.open_object.new.self (text_row (codes "consumer") x)) c.device_name.ensures, (c.put_state.new.out, c.in_ok-put_state.ensures, (c.text-2.new.self, c.in_ok-text-2.ensures ∙ ap (λ x. with_row c.put_state.new.out (text_row (codes "supplier") x)) c.device_name-2.ensures, refl)))
    c.close_object.ensures
