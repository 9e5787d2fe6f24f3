-- Proof by hand of `put_failed_errno`: what it returns, by the lemmas of `Rows`.
use Rattle.std.proofs.Common.{◌++◌, ◌∙◌, List, ℕ, ap, codes}
use Rattle.sleep_base.specs.Errno.{name_of}
use Rattle.sleep_model.specs.Text.{newline}
use Rattle.log_commands.proofs.Rows.{row_end}
use Rattle.log_commands.proofs.texts.put_failed_errno.Goals as goal

pub returns : goal.returns
returns c =
    let old = c.args.text.now.items in
    row_end old c.put_words.new.text.items c.push.new.self.items (codes "last_failed_errno " ++ name_of c.args.error) newline
    (c.in_ok-put_words.ensures ∙ ap (λ (n : List ℕ). old ++ (codes "last_failed_errno " ++ n)) c.name.ensures) c.in_ok-push.ensures.items
