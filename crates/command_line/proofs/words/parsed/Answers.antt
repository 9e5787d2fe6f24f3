-- Proof by hand of `parsed`: what it returns, by the lemmas of `Forms`.
use Rattle.std.proofs.Common.{◌∙◌, sym, ap, string_bytes}
use Rattle.command_line.specs.Parses.{command_read}
use Rattle.command_line.proofs.Forms.{nothing_asked, read_asked, refused_asked}
use Rattle.command_line.proofs.words.parsed.Goals as goal

pub returns-in-Ok : goal.returns-in-Ok
returns-in-Ok c = c.command_read.ensures ∙ (ap command_read c.in-Ok.ensures.read
    ∙ read_asked string_bytes c.args.words.now c.in-len1-up.len_at_least (sym c.are_few.ensures ∙ c.if-not-are_few.false) c.in-Ok.ensures.kinds)

pub returns-then-not-are_few : goal.returns-then-not-are_few
returns-then-not-are_few c = sym (nothing_asked string_bytes c.args.words.now c.in-len1-up.len_at_least (sym c.are_few.ensures ∙ c.if-not-are_few.true))

pub returns : goal.returns
returns c = sym (refused_asked string_bytes c.args.words.now c.in-Err.error c.in-len1-up.len_at_least (sym c.are_few.ensures ∙ c.if-not-are_few.false) c.in-Err.ensures.kinds
    (λ e. c.in_default-kind.not-OutOfMemory (c.kind.ensures ∙ e)))
