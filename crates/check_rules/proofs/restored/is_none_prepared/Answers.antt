-- Proof by hand of `is_none_prepared`: what it returns, by the lemmas of `Resting`.
use Rattle.std.proofs.Common.{◌∙◌, sym}
use Rattle.check_rules.proofs.Resting.{all_unprepared, unprepared_all}
use Rattle.check_rules.proofs.restored.is_none_prepared.Goals as goal

pub returns : goal.returns
returns c = (
  λ h. all_unprepared c.args.phase_states.now (sym c.are_unprepared.ensures ∙ h),
  λ h. c.are_unprepared.ensures ∙ unprepared_all c.args.phase_states.now h,
)
