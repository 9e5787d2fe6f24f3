-- Proof by hand of `order_of`: the call of `visit`, what it returns and the rest, by the lemmas of `Acyclicly`, `Tabulating` and `Ordered`.
use Rattle.std.proofs.Common.{◌≡◌, ◌<◌, ◌+◌, ◌-◌, ◌++◌, ◌∙◌, ℕ, Bool, [], List, length, take, reverse, filter, get_or, not, false, ap, sym, subst, arith}
use Rattle.std.specs.List.{range_with_len}
use Rattle.std.proofs.lemmas.List.{get_or_default}
use Rattle.sleep_model.specs.Order.{dependents, is_among}
use Rattle.sleep_model.proofs.Acyclic.{order_within}
use Rattle.device_links.specs.Passes.{Goes}
use Rattle.device_links.proofs.Acyclicly.{links_acyclic}
use Rattle.device_links.proofs.Tabulating.{consumer_at, no_link}
use Rattle.device_links.proofs.Ordered.{AreWalked, walked_next, walked_links, walked_order, goes_as, visits_as, within_as}
use Rattle.device_links.proofs.visits.order_of.Goals as goal

pub visit-requires-clause-registered : goal.visit-requires-clause-registered
visit-requires-clause-registered c =
    let ls = c.args.links.now in
    let i = c.loop-i.i - 1 in
    let l = get_or ls i no_link in
    let within : i < length ls = omega arith in
    let r = consumer_at c.args.parents.now ls i l within (get_or_default ls i no_link l within) c.requires.apart in
    let count = c.requires.dependents.count in
    subst (λ (n : ℕ). l.consumer < n) (sym count) r

pub visit-requires-clause-within : goal.visit-requires-clause-within
visit-requires-clause-within c = within_as c.args.parents.now (reverse c.args.links.now) c.args.table.now c.requires.dependents c.requires.after c.requires.apart

pub visit-requires-clause-visits : goal.visit-requires-clause-visits
visit-requires-clause-visits c = visits_as c.args.parents.now (reverse c.args.links.now) c.args.table.now c.requires.dependents c.loop-i.visits c.loop-i.invariant.visits

pub returns-then-not-branch : goal.returns-then-not-branch
returns-then-not-branch c =
    let ps = c.args.parents.now in
    let ls = c.args.links.now in
    let l = get_or ls (c.loop-i.i - 1) no_link in
    let g = goes_as ps (reverse ls) c.args.table.now c.requires.dependents l.consumer c.loop-i.visits c.visit.new.visits c.in_ok-visit.field-0 c.in_ok-visit.ensures in
    λ linked. subst (λ (b : Bool). Goes (length ps) (dependents ps (reverse ls)) l.consumer c.loop-i.visits c.visit.new.visits b) c.if-not-branch.true g (links_acyclic ps c.requires.after (reverse ls) linked)

pub loop-i-preserved : goal.loop-i-preserved
loop-i-preserved c =
    let ps = c.args.parents.now in
    let ls = c.args.links.now in
    let i = c.loop-i.i - 1 in
    let l = get_or ls i no_link in
    let within : i < length ls = omega arith in
    let back : c.loop-i.i ≡ i + 1 = omega arith in
    let g = goes_as ps (reverse ls) c.args.table.now c.requires.dependents l.consumer c.loop-i.visits c.visit.new.visits c.in_ok-visit.field-0 c.in_ok-visit.ensures in
    let v = subst (λ (b : Bool). Goes (length ps) (dependents ps (reverse ls)) l.consumer c.loop-i.visits c.visit.new.visits b) c.if-not-branch.false g in
    let w = subst (λ (k : ℕ). AreWalked ps (reverse ls) (reverse (take k ls)) c.loop-i.visits) back c.loop-i.invariant in
    walked_next ps c.requires.after ls i l within (get_or_default ls i no_link l within) c.loop-i.visits c.visit.new.visits w v

pub moved_last-requires : goal.moved_last-requires
moved_last-requires c =
    let ps = c.args.parents.now in
    let v = c.loop-i.visits in
    let marks : length c.deref-2.result.now ≡ length ps = ap length c.deref-2.ensures.value ∙ c.loop-i.invariant.visits.left.count in
    λ d m. subst (λ (n : ℕ). d < n) (sym marks) (order_within ps c.requires.after [] tt d (ap (λ o. is_among o d) (sym (c.deref.ensures.value ∙ c.in_ok-devices.ensures)) ∙ m))

pub returns : goal.returns
returns c =
    let ps = c.args.parents.now in
    let ls = c.args.links.now in
    let v = c.loop-i.visits in
    let none : c.loop-i.i ≡ 0 = omega arith in
    let w = subst (λ (k : ℕ). AreWalked ps (reverse ls) (reverse (take k ls)) v) none c.loop-i.invariant in (
      walked_links ps c.requires.after ls c.requires.apart v w,
      c.in_ok-order.ensures
          ∙ (ap (λ (o : List ℕ). filter (λ d. not (get_or c.deref-2.result.now d false)) o ++ c.deref-3.result.now) (c.deref.ensures.value ∙ c.in_ok-devices.ensures)
          ∙ (ap (λ (ms : List Bool). filter (λ d. not (get_or ms d false)) (range_with_len 0 (length ps)) ++ c.deref-3.result.now) c.deref-2.ensures.value
          ∙ (ap (λ (o : List ℕ). filter (λ d. not (get_or v.left.items d false)) (range_with_len 0 (length ps)) ++ o) (c.deref-3.ensures.value ∙ c.into_vec.ensures)
          ∙ walked_order ps c.requires.after ls c.requires.apart v w))),
    )
