-- Proof of what `number_of` returns for a text of digits.
use Rattle.std.proofs.Common.{Some, sym, ap, ◌∙◌}
use Rattle.serde_json.specs.Read.{number_of}
use Rattle.borrowed_json.proofs.numbers.number_of.Goals as goal

pub returns-in-Some : goal.returns-in-Some
returns-in-Some c = ap Some c.from.ensures ∙ sym c.in-Some.ensures ∙ ap number_of c.as_bytes.ensures.value
