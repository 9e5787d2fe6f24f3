-- Proof that `is_among` meets its contract.
use Rattle.std.proofs.Common.{◌∙◌}
use Rattle.borrowed_json.proofs.Looks.{list_any_texts}
use Rattle.borrowed_json.proofs.members.is_among.Goals as goal

pub returns : goal.returns
returns c = c.is_any.ensures ∙ list_any_texts c.args.text.now c.args.words.now
