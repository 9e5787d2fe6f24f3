-- Proof that `has_sources` meets its contract.
use Rattle.std.proofs.Common.{◌∙◌, sym, ap}
use Rattle.std.specs.List.{list_all}
use Rattle.file_rules.specs.Knows.{texts}
use Rattle.file_rules.specs.Operations.{names_source}
use Rattle.file_rules.proofs.Looks.{all_view}
use Rattle.file_rules.proofs.rules.answers.has_sources.Goals as goal

pub returns : goal.returns
returns c =
    c.have_sources.ensures ∙ sym (all_view (names_source (texts c.args.known.now.sources)) c.list_in.result.now)
    ∙ ap (list_all (names_source (texts c.args.known.now.sources))) c.list_in.ensures
