-- Proof that `phase_in` meets its contract.
use Rattle.std.proofs.Common.{◌∙◌, List, ℕ, Bor, sym, ap}
use Rattle.std.specs.Option.{option_map}
use Rattle.borrowed_json.specs.View.{view}
use Rattle.phase_table.specs.Phases.{phase_name}
use Rattle.file_rules.specs.Answering.{answering_phases}
use Rattle.file_rules.proofs.Namings.{named_in, textless}
use Rattle.file_rules.proofs.value.words.phase_in.Goals as goal

pub returns-in-Some : goal.returns-in-Some
returns-in-Some c =
    named_in phase_name answering_phases (view c.args.value.now) c.in-Some.text.now c.phase_named.result c.phase_named.ensures
    (sym (ap (option_map (λ (s : Bor (List ℕ)). s.now)) c.in-Some.is) ∙ c.as_str.ensures)

pub returns-in-None : goal.returns-in-None
returns-in-None c = textless phase_name answering_phases (view c.args.value.now) (sym (ap (option_map (λ (s : Bor (List ℕ)). s.now)) c.in-None.is) ∙ c.as_str.ensures)
