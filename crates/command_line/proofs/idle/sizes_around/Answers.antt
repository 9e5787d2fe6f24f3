-- Proof by hand of `sizes_around`: what it returns, by the lemmas of `IdleWords`.
use Rattle.std.proofs.Common.{map, string_bytes}
use Rattle.command_line.proofs.IdleWords.{many_sizes}
use Rattle.command_line.proofs.idle.sizes_around.Goals as goal

pub returns-in_default-2 : goal.returns-in_default-2
returns-in_default-2 c = many_sizes string_bytes c.args.before.now (map string_bytes c.args.after.now) c.args.workers c.in_default.len_at_least
