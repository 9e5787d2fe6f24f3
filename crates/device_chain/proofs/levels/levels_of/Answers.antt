-- Proof by hand of `levels_of`: its sums and its loop, by the lemmas of `Leveling`.
use Rattle.std.proofs.Common.{◌≡◌, ◌≤◌, ◌+◌, ◌-◌, ◌∙◌, ℕ, length, length-drop, drop, get_or, set, sym, ap, subst, arith}
use Rattle.std.proofs.lemmas.List.{drop_more}
use Rattle.device_chain.specs.Chains.{above_of, greatest}
use Rattle.device_chain.proofs.Leveling.{AreLeveled, greatest_few, leveled_next}
use Rattle.device_chain.proofs.levels.levels_of.Goals as goal

pub overflow_add-greatest : goal.overflow_add-greatest
overflow_add-greatest c =
    let l = c.args.links.now in
    let order = c.order-order.result.now in
    let i = c.loop-device.device-index in
    let d = get_or order i 0 in
    let levels = c.loop-device.levels.items in
    let left : length (drop i order) ≡ length order - i = length-drop i order in
    let n = c.requires in
    let within = c.loop-device-test.true in
    let none = c.loop-device.invariant.few 0 in
    let few : greatest levels 0 (above_of l d) + length (drop i order) ≤ length l.parents = greatest_few levels (length (drop i order)) (length l.parents) c.loop-device.invariant.few 0 (omega (arith, none)) (above_of l d) in
    let same : c.greatest.result ≡ greatest levels 0 (above_of l d) = c.greatest.ensures ∙ (ap (λ ls. greatest ls 0 c.above.result.now) c.deref.ensures.value ∙ ap (greatest levels 0) c.above.ensures) in
    omega (arith, few, same, left, within, n)

pub loop-device-preserved : goal.loop-device-preserved
loop-device-preserved c =
    let l = c.args.links.now in
    let order = c.order-order.result.now in
    let i = c.loop-device.device-index in
    let d = get_or order i 0 in
    let levels = c.loop-device.levels.items in
    let next = leveled_next l levels d (drop (i + 1) order) (subst (λ ds. AreLeveled l levels ds) (drop_more order i 0 c.loop-device-test.true) c.loop-device.invariant) in
    subst (λ (k : ℕ). AreLeveled l (set levels d (k + 1)) (drop (i + 1) order)) (sym (c.greatest.ensures ∙ (ap (λ ls. greatest ls 0 c.above.result.now) c.deref.ensures.value ∙ ap (greatest levels 0) c.above.ensures))) next
