-- Proof that `list_in` meets its contract.
use Rattle.std.proofs.Common.{◌∙◌, sym, ap}
use Rattle.borrowed_json.specs.Look.{items_of}
use Rattle.borrowed_json.proofs.Looks.{items_of_view}
use Rattle.borrowed_json.proofs.members.list_in.Goals as goal

pub returns : goal.returns
returns c = sym (items_of_view c.list_at.result.now) ∙ ap items_of c.list_at.ensures
