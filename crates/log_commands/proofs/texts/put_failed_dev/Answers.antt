-- Proof by hand of `put_failed_dev`: what it returns, by the lemmas of `Rows`.
use Rattle.std.proofs.Common.{◌++◌, ◌∙◌, List, ℕ, ap, codes}
use Rattle.phase_table.specs.Phases.{phase_name}
use Rattle.sleep_base.specs.Errno.{name_of}
use Rattle.sleep_model.specs.Text.{device, newline, space}
use Rattle.log_commands.proofs.Rows.{row_end, row_more}
use Rattle.log_commands.proofs.texts.put_failed_dev.Goals as goal

pub returns : goal.returns
returns c =
    let old = c.args.text.now.items in
    let last = c.args.last in
    let words = codes "last_failed_dev " in
    let one = words ++ device c.args.machine.now last.device in
    let two = (one ++ space) ++ phase_name last.phase in
    let three = (two ++ space) ++ name_of last.error in
    let device_put = c.in_ok-put_word.ensures ∙ ap (λ (n : List ℕ). old ++ (words ++ n)) c.device_name.ensures in
    let phase_put = row_more old c.put_word.new.text.items c.put_words.new.text.items one space (phase_name last.phase) c.name.result.now device_put c.in_ok-put_words.ensures c.name.ensures in
    let error_put = row_more old c.put_words.new.text.items c.put_words-2.new.text.items two space (name_of last.error) c.name-2.result.now phase_put c.in_ok-put_words-2.ensures c.name-2.ensures in
    row_end old c.put_words-2.new.text.items c.push.new.self.items three newline error_put c.in_ok-push.ensures.items
