-- Proof by hand of `run_read`: what it returns, by the lemmas of `Readings`.
use Rattle.std.proofs.Common.{◌∙◌}
use Rattle.clap.specs.Words.{found_of}
use Rattle.command_line.proofs.Readings.{some_workers, no_workers}
use Rattle.command_line.proofs.words.run_read.Goals as goal

pub returns-in-Some : goal.returns-in-Some
returns-in-Some c = c.workers_in.ensures ∙ some_workers (found_of c.args.matches.now) c.get_str.result c.in-Some.word c.get_str.ensures c.in-Some.is

pub returns-in-None : goal.returns-in-None
returns-in-None c = no_workers (found_of c.args.matches.now) c.get_str.result c.get_str.ensures c.in-None.is
