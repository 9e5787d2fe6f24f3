-- Proof by hand of `may_follow`: what it returns.
use Rattle.std.proofs.Common.{◌==◌, ◌∙◌, ℕ, Option, sym, ap}
use Rattle.std.specs.List.{list_any}
use Rattle.sleep_model.proofs.FirstOccurrences.{list_any_among}
use Rattle.device_chain.specs.Chains.{below_of, may_follow}
use Rattle.device_chain.proofs.certificate.may_follow.Goals as goal

pub returns-in-Some : goal.returns-in-Some
returns-in-Some c =
    let l = c.args.links.now in
    let d = c.args.device in
    c.contains.ensures.value
    ∙ (ap (list_any (λ y. y == d)) c.below.ensures
    ∙ (list_any_among (below_of l c.in-Some.before) d ∙ sym (ap (λ (b : Option ℕ). may_follow l b d) c.in-Some.is)))
