-- Proof that `refusal_of` finds a broken rule.
use Rattle.std.proofs.Common.{◌∙◌, ap, is_none, sym}
use Rattle.std.specs.Option.{option_map}
use Rattle.std.proofs.lemmas.Bool.{false≢true}
use Rattle.file_rules.specs.Broken.{broken_view}
use Rattle.machine_file.proofs.reading.refusal_of.Goals as goal

pub unreachable-requires : goal.unreachable-requires
unreachable-requires c = false≢true (sym c.requires ∙ ap is_none (sym c.in-Ok.ensures ∙ ap (option_map broken_view) c.in-None.is))
