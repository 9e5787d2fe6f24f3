-- Proof that `form_broken_by` meets its contract.
use Rattle.std.proofs.Common.{◌∙◌, ap}
use Rattle.std.specs.Option.{option_map}
use Rattle.file_rules.specs.Whole.{broken_at}
use Rattle.file_rules.specs.Broken.{broken_view}
use Rattle.file_rules.proofs.Alternatives.{first_of_six, last}
use Rattle.file_rules.proofs.rules.form_broken_by.Goals as goal

pub returns : goal.returns
returns c =
    first_of_six broken_view _ _ _ _ _ _ _ _ _ _ _ _ _ _ _ _ _ c.or.ensures c.or-2.ensures c.or-3.ensures c.or-4.ensures c.or-5.ensures
    (c.breaks.ensures ∙ ap (option_map (broken_at 2)) c.top.ensures) (c.breaks-2.ensures ∙ ap (option_map (broken_at 3)) c.version.ensures) (c.breaks-3.ensures ∙ ap (option_map (broken_at 4)) c.unformed_member.ensures) c.breaks-4.ensures (c.breaks-5.ensures ∙ ap (option_map (broken_at 6)) c.too_many.ensures) (c.breaks-6.ensures ∙ last _)
