-- Proof that `put_machine` meets its contract.
use Rattle.std.proofs.Common.{◌∙◌, codes, map, refl, ap}
use Rattle.serde_json.specs.Data.{string}
use Rattle.machine_file.specs.Spelling.{list_if, count_unless, script_value, answer_value, device_value, link_value, notifier_value, machine_rows}
use Rattle.machine_file.specs.Writing.{with_row}
use Rattle.machine_file.proofs.Sheets.{object_chained}
use Rattle.machine_file.proofs.writing.put_machine.Goals as goal

pub returns : goal.returns
returns c =
    object_chained c.close_object.result c.args.out.now c.open_object.new.self c.number.new.self c.close_object.new.self (machine_rows c.args.machine.now) refl c.in_ok-open_object.ensures
    (c.list.new.self, c.in_ok-list.ensures ∙ ap (λ x. with_row c.open_object.new.self (list_if (codes "actors") (map (script_value c.args.machine.now) x))) c.as_slice.ensures, (c.number_unless.new.self, c.in_ok-number_unless.ensures, (c.list-2.new.self, c.in_ok-list-2.ensures ∙ ap (λ x. with_row c.number_unless.new.self (list_if (codes "answers") (map (answer_value c.args.machine.now) x))) c.as_slice-2.ensures, (c.number_unless-2.new.self, c.in_ok-number_unless-2.ensures ∙ ap (λ x. with_row c.list-2.new.self (count_unless (codes "auto_cycles") 16 x)) c.from.ensures, (c.number_unless-3.new.self, c.in_ok-number_unless-3.ensures ∙ ap (λ x. with_row c.number_unless-2.new.self (count_unless (codes "cpus") 1 x)) c.from-2.ensures, (c.list-3.new.self, c.in_ok-list-3.ensures ∙ ap (λ x. with_row c.number_unless-3.new.self (list_if (codes "devices") (map (device_value c.args.machine.now) x))) c.as_slice-3.ensures, (c.list-4.new.self, c.in_ok-list-4.ensures ∙ ap (λ x. with_row c.list-3.new.self (list_if (codes "links") (map (link_value c.args.machine.now) x))) c.as_slice-4.ensures, (c.list-5.new.self, c.in_ok-list-5.ensures ∙ ap (λ x. with_row c.list-4.new.self (list_if (codes "notifiers") (map notifier_value x))) c.as_slice-5.ensures, (c.list-6.new.self, c.in_ok-list-6.ensures ∙ ap (λ x. with_row c.list-5.new.self (list_if (codes "sources") (map string x))) c.as_slice-6.ensures, (c.list-7.new.self, c.in_ok-list-7.ensures ∙ ap (λ x. with_row c.list-6.new.self (list_if (codes "syscore") (map string x))) c.as_slice-7.ensures, (c.number.new.self, c.in_ok-number.ensures, refl)))))))))))
    c.close_object.ensures
