-- Proof by hand of `set_active`: what it returns, the call of `children_within` and the rest, by the lemmas of `Numbering` and `Setting`.
use Rattle.std.proofs.Common.{◌≡◌, ◌≤◌, ◌∙◌, ◌==◌, List, length, map, reverse, true, ℕ, Option, set, sym, ap, subst}
use Rattle.sleep_model.specs.declared.machine.Link.{Link}
use Rattle.sleep_model.specs.Links.{is_linked}
use Rattle.sleep_model.specs.Order.{with_state, children_from, dependents, superiors}
use Rattle.sleep_model.proofs.Changing.{same_supplier, same_consumer}
use Rattle.device_rows.specs.Table.{room_at}
use Rattle.device_links.specs.Adds.{AreRegistered, with_set}
use Rattle.device_links.specs.Invariant.{IsWhole, active_below, active_above, numbers_of}
use Rattle.device_links.specs.Linked.{Linked}
use Rattle.device_links.specs.Passes.{AreApart}
use Rattle.device_links.proofs.Numbering.{supplied_preserved, consumed_preserved}
use Rattle.device_links.proofs.Setting.{reversed_map, stands_then, set_apart, set_below, set_above, whole_set, linked, children_first, supplied_few}
use Rattle.device_links.proofs.links.Links.set_active.Goals as goal

pub returns-then-not-set_state-clause-ok : goal.returns-then-not-set_state-clause-ok
returns-then-not-set_state-clause-ok c =
    let ps = c.self.inside.parents.items in
    let f = with_state c.args.supplier c.args.consumer c.args.to in
    let is : reverse c.set_state.new.links.items ≡ map f (reverse c.self.inside.links.items) = ap reverse c.set_state.ensures.set ∙ reversed_map f c.self.inside.links.items in
    subst (λ (v : Linked). ◌≡◌ {A = Linked} (record { parents = ps; links = reverse c.set_state.new.links.items }) (with_set v c.args.supplier c.args.consumer c.args.to)) c.self.view_is
    (ap (λ (x : List Link). linked ps x) is)

pub children_within-children-requires : goal.children_within-children-requires
children_within-children-requires c =
    let old = c.self.inside in
    let s = c.args.supplier in
    supplied_few old.parents.items (reverse old.links.items) s c.row.result.now c.row-supplied.result.now
    (c.row.ensures ∙ c.self.invariant.kept.all_dependents.each s) (c.row-supplied.ensures ∙ c.self.invariant.numbers.by_supplier.each s)

pub refill_below-requires-clause-children : goal.refill_below-requires-clause-children
refill_below-requires-clause-children c =
    let old = c.self.inside in
    let s = c.args.supplier in
    c.children_within-children.ensures
    ∙ (children_first old.parents.items (reverse old.links.items) s c.row.result.now c.row-supplied.result.now
    (c.row.ensures ∙ c.self.invariant.kept.all_dependents.each s) (c.row-supplied.ensures ∙ c.self.invariant.numbers.by_supplier.each s)
    ∙ ap (children_from s 0) (sym c.deref.ensures.value))

pub refill_below-requires-clause-supplied : goal.refill_below-requires-clause-supplied
refill_below-requires-clause-supplied c =
    let old = c.self.inside in
    let ls = reverse old.links.items in
    let s = c.args.supplier in
    let f = with_state s c.args.consumer c.args.to in
    let is : reverse c.deref-2.result.now ≡ map f ls = ap reverse (c.deref-2.ensures.value ∙ c.set_state.ensures.set) ∙ reversed_map f old.links.items in
    c.row-supplied.ensures
    ∙ (c.self.invariant.numbers.by_supplier.each s
    ∙ (sym (supplied_preserved f (same_supplier s c.args.consumer c.args.to) (same_consumer s c.args.consumer c.args.to) s ls) ∙ ap (numbers_of (λ l. l.supplier == s)) (sym is)))

pub refill_above-requires-clause-consumed : goal.refill_above-requires-clause-consumed
refill_above-requires-clause-consumed c =
    let old = c.self.inside in
    let ls = reverse old.links.items in
    let d = c.args.consumer in
    let f = with_state c.args.supplier d c.args.to in
    let is : reverse c.deref-4.result.now ≡ map f ls = ap reverse (c.deref-4.ensures.value ∙ c.set_state.ensures.set) ∙ reversed_map f old.links.items in
    c.row-consumed.ensures
    ∙ (c.self.invariant.numbers.by_consumer.each d
    ∙ (sym (consumed_preserved f (same_supplier c.args.supplier d c.args.to) (same_consumer c.args.supplier d c.args.to) d ls) ∙ ap (numbers_of (λ l. l.consumer == d)) (sym is)))

pub refill_below-requires-clause-places : goal.refill_below-requires-clause-places
refill_below-requires-clause-places c =
    let old = c.self.inside in
    let ps = old.parents.items in
    let ls = reverse old.links.items in
    let s = c.args.supplier in
    let f = with_state s c.args.consumer c.args.to in
    let is : reverse c.deref-2.result.now ≡ map f ls = ap reverse (c.deref-2.ensures.value ∙ c.set_state.ensures.set) ∙ reversed_map f old.links.items in
    subst (λ (qs : List (Option ℕ)). length (dependents qs (reverse c.deref-2.result.now) s) ≤ room_at old.tables.below s) (sym c.deref.ensures.value)
    (subst (λ (x : List Link). length (dependents ps x s) ≤ room_at old.tables.below s) (sym is) (set_below s c.args.consumer c.args.to ps ls old.tables.below old.tables.above c.self.invariant.places s))

pub refill_below-requires-clause-apart : goal.refill_below-requires-clause-apart
refill_below-requires-clause-apart c =
    let old = c.self.inside in
    let ps = old.parents.items in
    let ls = reverse old.links.items in
    let f = with_state c.args.supplier c.args.consumer c.args.to in
    let is : reverse c.deref-2.result.now ≡ map f ls = ap reverse (c.deref-2.ensures.value ∙ c.set_state.ensures.set) ∙ reversed_map f old.links.items in
    subst (λ (qs : List (Option ℕ)). AreApart qs (reverse c.deref-2.result.now)) (sym c.deref.ensures.value)
    (subst (AreApart ps) (sym is) (set_apart c.args.supplier c.args.consumer c.args.to ps ls old.tables.dependents.rows old.tables.below.rows old.tables.suppliers.rows old.tables.above.rows old.order.items c.self.invariant.kept))

pub refill_above-requires-clause-places : goal.refill_above-requires-clause-places
refill_above-requires-clause-places c =
    let old = c.self.inside in
    let ps = old.parents.items in
    let ls = reverse old.links.items in
    let d = c.args.consumer in
    let f = with_state c.args.supplier d c.args.to in
    let is : reverse c.deref-4.result.now ≡ map f ls = ap reverse (c.deref-4.ensures.value ∙ c.set_state.ensures.set) ∙ reversed_map f old.links.items in
    subst (λ (qs : List (Option ℕ)). length (superiors qs (reverse c.deref-4.result.now) d) ≤ room_at old.tables.above d) (sym c.deref-3.ensures.value)
    (subst (λ (x : List Link). length (superiors ps x d) ≤ room_at old.tables.above d) (sym is) (set_above c.args.supplier d c.args.to ps ls old.tables.below old.tables.above c.self.invariant.places d))

pub refill_above-requires-clause-apart : goal.refill_above-requires-clause-apart
refill_above-requires-clause-apart c =
    let old = c.self.inside in
    let ps = old.parents.items in
    let ls = reverse old.links.items in
    let f = with_state c.args.supplier c.args.consumer c.args.to in
    let is : reverse c.deref-4.result.now ≡ map f ls = ap reverse (c.deref-4.ensures.value ∙ c.set_state.ensures.set) ∙ reversed_map f old.links.items in
    subst (λ (qs : List (Option ℕ)). AreApart qs (reverse c.deref-4.result.now)) (sym c.deref-3.ensures.value)
    (subst (AreApart ps) (sym is) (set_apart c.args.supplier c.args.consumer c.args.to ps ls old.tables.dependents.rows old.tables.below.rows old.tables.suppliers.rows old.tables.above.rows old.order.items c.self.invariant.kept))

pub invariant_of-self-2 : goal.invariant_of-self-2
invariant_of-self-2 c =
    let old = c.self.inside in
    let ps = old.parents.items in
    let ls = reverse old.links.items in
    let s = c.args.supplier in
    let d = c.args.consumer in
    let f = with_state s d c.args.to in
    let is : reverse c.set_state.new.links.items ≡ map f ls = ap reverse c.set_state.ensures.set ∙ reversed_map f old.links.items in
    let seen : reverse c.deref-2.result.now ≡ map f ls = ap reverse (c.deref-2.ensures.value ∙ c.set_state.ensures.set) ∙ reversed_map f old.links.items in
    let seen' : reverse c.deref-4.result.now ≡ map f ls = ap reverse (c.deref-4.ensures.value ∙ c.set_state.ensures.set) ∙ reversed_map f old.links.items in
    let h : AreRegistered c.args.self.now s d × (is_linked c.args.self.now.links s d ≡ true) = stands_then c.args.self.now s d c.absence.result c.in_default.not-Some c.absence.ensures in
    let there : AreRegistered (record { parents = ps; links = ls }) s d = subst (λ (v : Linked). AreRegistered v s d) (sym c.self.view_is) h.0 in
    let below = c.refill_below.ensures.rows ∙ (ap (λ (x : List Link). set old.tables.below.rows s (active_below c.deref.result.now x s)) seen ∙ ap (λ (qs : List (Option ℕ)). set old.tables.below.rows s (active_below qs (map f ls) s)) c.deref.ensures.value) in
    let above = c.refill_above.ensures.rows ∙ (ap (λ (x : List Link). set old.tables.above.rows d (active_above c.deref-3.result.now x d)) seen' ∙ ap (λ (qs : List (Option ℕ)). set old.tables.above.rows d (active_above qs (map f ls) d)) c.deref-3.ensures.value) in
    subst (λ (x : List Link). IsWhole ps x old.tables.dependents.rows c.refill_below.new.table old.tables.suppliers.rows c.refill_above.new.table old.numbers.by_supplier.rows old.numbers.by_consumer.rows old.order.items) (sym is)
    (whole_set s d c.args.to ps ls old.tables.dependents.rows old.tables.below old.tables.suppliers.rows old.tables.above old.numbers.by_supplier.rows old.numbers.by_consumer.rows old.order.items c.self.invariant there.0 there.1 c.refill_below.new.table c.refill_above.new.table below c.refill_below.ensures.places above c.refill_above.ensures.places)

pub returns-clause-ok : goal.returns-clause-ok
returns-clause-ok c =
    let ps = c.self.inside.parents.items in
    let f = with_state c.args.supplier c.args.consumer c.args.to in
    let is : reverse c.set_state.new.links.items ≡ map f (reverse c.self.inside.links.items) = ap reverse c.set_state.ensures.set ∙ reversed_map f c.self.inside.links.items in
    subst (λ (v : Linked). ◌≡◌ {A = Linked} (record { parents = ps; links = reverse c.set_state.new.links.items }) (with_set v c.args.supplier c.args.consumer c.args.to)) c.self.view_is
    (ap (λ (x : List Link). linked ps x) is)
