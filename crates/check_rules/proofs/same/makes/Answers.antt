-- Proof by hand of `makes`: what it returns.
use Rattle.std.proofs.Common.{◌≡◌, ◌∙◌, ap, sym}
use Rattle.sleep_model.specs.declared.progress.Due.TheVariants.{Makes}
use Rattle.check_rules.proofs.same.makes.Goals as goal

pub returns-in-Makes : goal.returns-in-Makes
returns-in-Makes c = (
  λ h. c.in-Makes.is ∙ ap Makes (c.is_kind.ensures.0 h),
  λ h. c.is_kind.ensures.1 (let e : Makes c.in-Makes.made ≡ Makes c.args.kind = sym c.in-Makes.is ∙ h in cc),
)
