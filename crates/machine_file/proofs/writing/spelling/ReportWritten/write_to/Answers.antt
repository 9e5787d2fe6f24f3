-- Proof that `ReportWritten::write_to` meets its contract.
use Rattle.std.proofs.Common.{◌∙◌, fold, ap}
use Rattle.sleep_model.specs.Text.{source}
use Rattle.machine_file.specs.Spelling.{report_rows}
use Rattle.machine_file.specs.Writing.{with_row}
use Rattle.machine_file.proofs.Sheets.{object_whole}
use Rattle.machine_file.proofs.Rising.{report_rising}
use Rattle.machine_file.proofs.writing.spelling.ReportWritten.write_to.Goals as goal

pub returns : goal.returns
returns c =
    object_whole c.close_object.result c.args.out.now c.open_object.new.self c.put_report.new.out c.close_object.new.self (report_rows (source c.args.machine.now c.args.self.now.source) c.args.self.now.call)
    (report_rising (source c.args.machine.now c.args.self.now.source) c.args.self.now.call) c.in_ok-open_object.ensures
    (c.in_ok-put_report.ensures ∙ ap (λ s. fold with_row c.open_object.new.self (report_rows s c.args.self.now.call)) c.source_name.ensures) c.close_object.ensures
