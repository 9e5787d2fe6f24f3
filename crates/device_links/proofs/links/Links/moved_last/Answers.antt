-- Proof by hand of `moved_last`: the call of `moved_last` and what it returns, by the lemmas of `Moving`.
use Rattle.std.proofs.Common.{◌<◌, ◌∙◌, ℕ, length, reverse, ap, sym, subst, IfOk}
use Rattle.sleep_model.specs.Order.{dependents, is_among}
use Rattle.sleep_model.proofs.Acyclic.{order_within}
use Rattle.device_links.specs.Linked.{Linked}
use Rattle.device_links.specs.Moves.{LeavesOrder}
use Rattle.device_links.specs.Walks.{IsWalked}
use Rattle.device_links.proofs.Moving.{leaves_moved}
use Rattle.device_links.proofs.links.Links.moved_last.Goals as goal

pub moved_last-requires : goal.moved_last-requires
moved_last-requires c =
    let old = c.self.inside in
    let k = c.self.invariant.kept in
    let ps = old.parents.items in
    let ls = reverse old.links.items in
    let marks = c.args.marks.now in
    let w = subst (λ (v : Linked). IsWalked (length v.parents) (dependents v.parents v.links) c.args.link.consumer c.args.link.supplier c.args.below.now marks) (sym c.self.view_is) c.requires in
    λ d m. subst (λ (n : ℕ). d < n) (sym w.marked.count) (order_within ps k.after ls k.linked d (ap (λ o. is_among o d) (sym (c.deref.ensures.value ∙ k.ordered)) ∙ m))

pub returns : goal.returns
returns c =
    let old = c.self.inside in
    let k = c.self.invariant.kept in
    let ps = old.parents.items in
    let ls = reverse old.links.items in
    let l = c.args.link in
    let marks = c.args.marks.now in
    let found = c.args.below.now in
    let w = subst (λ (v : Linked). IsWalked (length v.parents) (dependents v.parents v.links) l.consumer l.supplier found marks) (sym c.self.view_is) c.requires in
    subst (λ (v : Linked). IfOk c.moved_last.result (λ o. LeavesOrder v l o.items)) c.self.view_is
    (leaves_moved ps k.after ls k.linked l c.deref.result.now found marks (c.deref.ensures.value ∙ k.ordered) w c.moved_last.result c.moved_last.ensures)
