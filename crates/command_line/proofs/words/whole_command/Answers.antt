-- Proof by hand of `whole_command`: what it returns, by the lemmas of `Commands`.
use Rattle.std.proofs.lemmas.Result.{IfOk-weaker}
use Rattle.command_line.proofs.Commands.{helpless, whole_is}
use Rattle.command_line.proofs.words.whole_command.Goals as goal

pub returns : goal.returns
returns c =
    let top = helpless c.new.result c.disable_help_flag.result c.disable_help_subcommand.result c.new.ensures.app c.disable_help_flag.ensures c.disable_help_subcommand.ensures in
    IfOk-weaker c.subcommand-6.result _ _ (λ all h. whole_is c.disable_help_subcommand.result c.in_ok-subcommand.field-0 c.in_ok-subcommand-2.field-0 c.in_ok-subcommand-3.field-0 c.in_ok-subcommand-4.field-0 c.in_ok-subcommand-5.field-0 c.in_ok-run_command.field-0
    c.in_ok-seeded_command.field-0 c.in_ok-seeded_command-2.field-0 c.new-2.result c.new-3.result c.new-4.result all top c.in_ok-run_command.ensures c.in_ok-seeded_command.ensures c.in_ok-seeded_command-2.ensures c.new-2.ensures.app c.new-3.ensures.app c.new-4.ensures.app
    c.in_ok-subcommand.ensures c.in_ok-subcommand-2.ensures c.in_ok-subcommand-3.ensures c.in_ok-subcommand-4.ensures c.in_ok-subcommand-5.ensures h) c.subcommand-6.ensures
