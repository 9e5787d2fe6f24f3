-- Proof by hand of `is_none_set`: what it returns, by the lemmas of `Resting`.
use Rattle.std.proofs.Common.{◌∙◌, sym}
use Rattle.check_rules.proofs.Resting.{all_unset, unset_all}
use Rattle.check_rules.proofs.restored.is_none_set.Goals as goal

pub returns : goal.returns
returns c = (
  λ h. all_unset c.args.flags.now (sym c.are_unset.ensures ∙ h),
  λ h. c.are_unset.ensures ∙ unset_all c.args.flags.now h,
)
