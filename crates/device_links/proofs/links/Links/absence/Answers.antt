-- Proof by hand of `absence`: what it returns.
use Rattle.std.proofs.Common.{◌<◌, ◌∙◌, length, sym, subst, arith}
use Rattle.device_links.specs.Linked.{Linked}
use Rattle.device_links.specs.Adds.{AreRegistered}
use Rattle.device_links.proofs.links.Links.absence.Goals as goal

pub returns-then-not-is_linked : goal.returns-then-not-is_linked
returns-then-not-is_linked c =
    let ps = c.self.inside.parents.items in
    let s = c.args.supplier in
    let d = c.args.consumer in
    let sup : s < length ps = omega arith in
    let con : d < length ps = omega arith in
    (subst (λ (v : Linked). AreRegistered v s d) c.self.view_is (sup, con), sym c.is_linked.ensures ∙ c.if-not-is_linked.true)

pub returns : goal.returns
returns c =
    let ps = c.self.inside.parents.items in
    let s = c.args.supplier in
    let d = c.args.consumer in
    let sup : s < length ps = omega arith in
    let con : d < length ps = omega arith in
    (subst (λ (v : Linked). AreRegistered v s d) c.self.view_is (sup, con), sym c.is_linked.ensures ∙ c.if-not-is_linked.false)
