-- The answer is 0.
use Rattle.std.proofs.Common.{◌≡◌, pos, arith}
use Rattle.std.proofs.lemmas.Int.{ints}
use Rattle.log_words.proofs.DeviceLines.{prepared_line}
use Rattle.log_words.proofs.device.prepared_words.Goals as goal

pub returns : goal.returns
returns c =
    let zero : c.args.r ≡ pos 0 = omega (arith, ints) in
    λ m. prepared_line m c.args.device c.args.r _ _ _ zero c.of.ensures c.none.ensures c.success.ensures
