-- Proof of what `read_text` returns, by the lemmas of `Reading`.
use Rattle.std.proofs.Common.{◌≡◌, ◌∙◌, [], ◌∷◌, None, Some, sym, ap, arith}
use Rattle.json.specs.Json.{value}
use Rattle.json.specs.Lex.{tokens}
use Rattle.serde_json.specs.Read.{of_json, converted}
use Rattle.borrowed_json.specs.View.{view}
use Rattle.borrowed_json.proofs.Reading.{whole_read, whole_refused}
use Rattle.borrowed_json.proofs.read.read_text.Goals as goal
