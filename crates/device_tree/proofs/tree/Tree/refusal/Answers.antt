-- Proof by hand of `refusal`: what it returns, by the lemmas of `Names`.
use Rattle.std.proofs.Common.{◌≡◌, true, false, length, nat_le, ap, sym, ◌∙◌, arith}
use Rattle.std.proofs.lemmas.Bool.Decides.{nat_tests}
use Rattle.device_tree.specs.Refusal.{refusal, is_taken, is_lost}
use Rattle.device_tree.proofs.Names.{taken_is}
use Rattle.device_tree.proofs.tree.Tree.refusal.Goals as goal

pub returns-then-contains : goal.returns-then-contains
returns-then-contains c =
    let ds = c.self.inside.devices.items in
    let d = c.args.device.now in
    let few : nat_le 1000 (length ds) ≡ false = grind (arith, nat_tests) in
    let taken : is_taken d.name ds ≡ true = sym (c.if-contains.ensures ∙ taken_is d.name c.self.inside.names.keys ds c.self.invariant.same_names) in
    sym (ap (λ xs. refusal xs d) (sym c.self.view_is) ∙ rw (few, taken))

pub returns-then-is_lost : goal.returns-then-is_lost
returns-then-is_lost c =
    let ds = c.self.inside.devices.items in
    let d = c.args.device.now in
    let few : nat_le 1000 (length ds) ≡ false = grind (arith, nat_tests) in
    let new : is_taken d.name ds ≡ false = sym (c.if-contains.ensures ∙ taken_is d.name c.self.inside.names.keys ds c.self.invariant.same_names) in
    let count : c.len-2.result ≡ length ds = omega arith in
    let lost : is_lost (length ds) d.parent ≡ true = sym (c.if-is_lost.ensures ∙ ap (λ n. is_lost n d.parent) count) in
    sym (ap (λ xs. refusal xs d) (sym c.self.view_is) ∙ rw (few, new, lost))

pub returns : goal.returns
returns c =
    let ds = c.self.inside.devices.items in
    let d = c.args.device.now in
    let few : nat_le 1000 (length ds) ≡ false = grind (arith, nat_tests) in
    let new : is_taken d.name ds ≡ false = sym (c.if-contains.ensures ∙ taken_is d.name c.self.inside.names.keys ds c.self.invariant.same_names) in
    let count : c.len-2.result ≡ length ds = omega arith in
    let stands : is_lost (length ds) d.parent ≡ false = sym (c.if-is_lost.ensures ∙ ap (λ n. is_lost n d.parent) count) in
    sym (ap (λ xs. refusal xs d) (sym c.self.view_is) ∙ rw (few, new, stands))
