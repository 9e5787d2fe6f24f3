-- Proof by hand of `are_few`: what it returns, by the lemmas of `Readings`.
use Rattle.std.proofs.Common.{arith, string_bytes}
use Rattle.command_line.proofs.Readings.{few_is}
use Rattle.command_line.proofs.words.are_few.Goals as goal

pub returns-in-1-to-3 : goal.returns-in-1-to-3
returns-in-1-to-3 c =
    few_is string_bytes c.args.words.now c.has_end_of_options.result c.has_end_of_options.ensures (omega (arith, c.in-1-to-3)) (omega (arith, c.in-1-to-3))
