-- Proof by hand of `refusal`: what it returns.
use Rattle.std.proofs.Common.{◌≡◌, ◌<◌, ◌∙◌, length, sym, subst, reverse, arith, true, false}
use Rattle.std.proofs.lemmas.List.{length-reverse}
use Rattle.sleep_model.specs.Links.{is_linked}
use Rattle.device_links.specs.Linked.{Linked}
use Rattle.device_links.specs.Adds.{IsOpen, AreRegistered}
use Rattle.device_links.proofs.links.Links.refusal.Goals as goal

pub returns-then-is_linked : goal.returns-then-is_linked
returns-then-is_linked c =
    let ps = c.self.inside.parents.items in
    let ls = reverse c.self.inside.links.items in
    let s = c.args.supplier in
    let d = c.args.consumer in
    let linked : is_linked c.args.self.now.links s d ≡ true = sym c.is_linked.ensures ∙ c.if-is_linked.true in
    let linked' : is_linked ls s d ≡ true = subst (λ (v : Linked). is_linked v.links s d ≡ true) (sym c.self.view_is) linked in
    let few : length ls < 4000 = omega (arith, length-reverse c.self.inside.links.items) in
    let sup : s < length ps = omega arith in
    let con : d < length ps = omega arith in
    subst (λ (v : Linked). AreRegistered v s d × (length v.links < 4000) × (is_linked v.links s d ≡ true)) c.self.view_is ((sup, con), few, linked')

pub returns : goal.returns
returns c =
    let ps = c.self.inside.parents.items in
    let ls = reverse c.self.inside.links.items in
    let s = c.args.supplier in
    let d = c.args.consumer in
    let free : is_linked c.args.self.now.links s d ≡ false = sym c.is_linked.ensures ∙ c.if-is_linked.false in
    let free' : is_linked ls s d ≡ false = subst (λ (v : Linked). is_linked v.links s d ≡ false) (sym c.self.view_is) free in
    let few' : length ls < 4000 = omega (arith, length-reverse c.self.inside.links.items) in
    let sup : s < length ps = omega arith in
    let con : d < length ps = omega arith in
    let open' : IsOpen (record { parents = ps; links = ls }) s d = record { stand = (sup, con); few = few'; new = free' } in
    subst (λ (v : Linked). IsOpen v s d) c.self.view_is open'
