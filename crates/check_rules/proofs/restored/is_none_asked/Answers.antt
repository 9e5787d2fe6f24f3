-- Proof by hand of `is_none_asked`: what it returns, by the lemmas of `Resting`.
use Rattle.std.proofs.Common.{◌∙◌, sym}
use Rattle.check_rules.proofs.Resting.{all_unasked, unasked_all}
use Rattle.check_rules.proofs.restored.is_none_asked.Goals as goal

pub returns : goal.returns
returns c = (
  λ h. all_unasked c.args.freezings.now (sym c.are_unasked.ensures ∙ h),
  λ h. c.are_unasked.ensures ∙ unasked_all c.args.freezings.now h,
)
