-- Proof by hand of `idle_in`: its casts, by the lemmas of `Ranges`.
use Rattle.std.proofs.Common.{◌≤◌, arith, map, string_bytes}
use Rattle.command_line.proofs.Ranges.{named_few}
use Rattle.command_line.proofs.idle.idle_in.Goals as goal

pub overflow_cast-workers : goal.overflow_cast-workers
overflow_cast-workers c =
    let few : c.in_ok-workers.field-0 ≤ 64 = named_few (map string_bytes c.split_at.result.1.now) c.in_ok-workers.field-0 c.in_ok-workers.ensures in
    omega (arith, few)
