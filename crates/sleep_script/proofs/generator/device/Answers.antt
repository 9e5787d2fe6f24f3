-- Proof that `device` meets what `name` requires.
use Rattle.std.proofs.Common.{◌≤◌, length, decimal, arith}
use Rattle.std.proofs.lemmas.Fmt.{length-decimal-le}
use Rattle.sleep_script.proofs.generator.device.Goals as goal

pub name-requires-clause-short : goal.name-requires-clause-short
name-requires-clause-short c =
    let digits : length (decimal c.args.number) ≤ 4 = length-decimal-le 4 c.args.number (omega arith) (omega arith) (omega arith) in
    grind (arith, digits, c.in_ok-format.ensures.ok, c.as_str.ensures.value)
