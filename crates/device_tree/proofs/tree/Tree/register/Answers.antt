-- Proof by hand of `register`: the invariants of its types, by the lemmas of `Invariant` and `Names`.
use Rattle.std.proofs.Common.{◌≡◌, ◌++◌, ◌∷◌, [], length, cond, false, ap, sym, ◌∙◌, arith, List, ℕ}
use Rattle.std.specs.List.{list_any}
use Rattle.device_tree.specs.Refusal.{refusal}
use Rattle.device_rows.specs.Table.{with_number}
use Rattle.device_tree.proofs.Invariant.{free_of, preserved_more, kept_as}
use Rattle.device_tree.proofs.Names.{taken_is}
use Rattle.sleep_model.specs.contracts.name.NamePartialEq.TheImpl.{eq-value}
use Rattle.device_tree.proofs.tree.Tree.register.Goals as goal

pub invariant_of-self-2 : goal.invariant_of-self-2
invariant_of-self-2 c =
    let d = c.args.device in
    let old = c.self.inside in
    let ds = old.devices.items in
    let ks = old.names.keys in
    let free = free_of ds d (ap (λ xs. refusal xs d) c.self.view_is ∙ sym c.in_default.ensures) in
    let new_name : list_any (eq-value.it d.name) ks ≡ false = taken_is d.name ks ds c.self.invariant.same_names ∙ free.new in
    let count : c.len-number.result ≡ length ds = omega arith in
    let devices = c.in-Ok-push.ensures.items ∙ ap (λ xs. xs ++ d ∷ []) c.make_room.ensures.devices in
    let names = c.in-Ok.ensures.keys ∙ ap (λ (xs : List (List ℕ)). cond (list_any (eq-value.it d.name) xs) xs (xs ++ d.name ∷ [])) c.make_room.ensures.names ∙ ap (λ b. cond b ks (ks ++ d.name ∷ [])) new_name in
    let rows = c.add_child.ensures ∙ ap (λ xs. with_number xs d.parent c.len-number.result) (c.in_ok-add_row.ensures.ok ∙ ap (λ xs. xs ++ [] ∷ []) c.make_room.ensures.children) ∙ ap (with_number (old.children.rows ++ [] ∷ []) d.parent) count in
    kept_as (sym devices) (sym names) (sym rows) (preserved_more ds ks old.children.rows d c.self.invariant free)
