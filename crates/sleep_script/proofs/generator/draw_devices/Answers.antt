-- Proof that `draw_devices` meets its contract, and that its loop keeps its invariant, and that it meets what `draw` and `device` require.
use Rattle.std.proofs.Common.{◌≡◌, ◌<◌, ◌*◌, ◌+◌, ◌∙◌, ◌==◌, cond, length, map, ap, arith}
use Rattle.std.specs.List.{range_with_len}
use Rattle.std.proofs.lemmas.List.FromFn.{length-map-range_with_len}
use Rattle.sleep_script.specs.declared.draws.Draws.{Draws}
use Rattle.sleep_script.specs.Generated.{draw, drawn_parent, drawn_device}
use Rattle.sleep_script.proofs.Drawn.{bit_is, one_draw, one_device, next_is}
use Rattle.sleep_script.proofs.generator.draw_devices.Goals as goal

pub draw-is_async-requires-clause-few : goal.draw-is_async-requires-clause-few
draw-is_async-requires-clause-few c =
    let count = ap length c.in_ok-parents.ensures.parents ∙ length-map-range_with_len (drawn_parent c.args.draws.now.seed) 0 c.args.count in
    let next = c.loop-number.invariant.0 in
    omega (arith, count, ap (λ d. d.next) next, c.deref-parent-items.ensures.len)

pub device-requires : goal.device-requires
device-requires c =
    let count = ap length c.in_ok-parents.ensures.parents ∙ length-map-range_with_len (drawn_parent c.args.draws.now.seed) 0 c.args.count in
    omega (arith, count, c.deref-parent-items.ensures.len)

pub loop-number-preserved : goal.loop-number-preserved
loop-number-preserved c =
    let whole : c.deref-parent-items.result.now ≡ map (drawn_parent c.args.draws.now.seed) (range_with_len 0 c.args.count) = c.deref-parent-items.ensures.value ∙ c.in_ok-parents.ensures.parents in
    let count = ap length whole ∙ length-map-range_with_len (drawn_parent c.args.draws.now.seed) 0 c.args.count in
    let within : c.loop-number.number < c.args.count = omega (arith, count) in
    let number : c.draw-is_async.result ≡ draw c.args.draws.now.seed (c.args.count + c.loop-number.number) 2 = c.draw-is_async.ensures.number ∙ ap (λ (d : Draws). draw d.seed d.next 2) c.loop-number.invariant.0 in
    let drawn : cond (c.draw-is_async.result == 1) 1 0 ≡ draw c.args.draws.now.seed (c.args.count + c.loop-number.number) 2 = bit_is c.draw-is_async.result c.args.draws.now.seed (c.args.count + c.loop-number.number) number in (
      one_draw c.loop-number.draws c.draw-is_async.new.self c.args.draws.now.seed c.args.count c.loop-number.number c.loop-number.invariant.0 c.draw-is_async.ensures.next,
      one_device c.args.draws.now.seed c.args.count c.loop-number.number (cond (c.draw-is_async.result == 1) 1 0) c.deref-parent-items.result.now c.loop-number.devices.items c.push.new.self.items c.in_ok-device.field-0
          within whole drawn c.in_ok-device.ensures c.loop-number.invariant.1 c.in_ok-push.ensures.items,
    )

pub returns-clause-devices : goal.returns-clause-devices
returns-clause-devices c =
    let count = ap length c.in_ok-parents.ensures.parents ∙ length-map-range_with_len (drawn_parent c.args.draws.now.seed) 0 c.args.count in
    let all : c.loop-number.number ≡ c.args.count = omega (arith, count, c.deref-parent-items.ensures.len) in
    c.loop-number.invariant.1 ∙ ap (λ n. map (drawn_device c.args.draws.now.seed c.args.count) (range_with_len 0 n)) all

pub returns-clause-next : goal.returns-clause-next
returns-clause-next c =
    let count = ap length c.in_ok-parents.ensures.parents ∙ length-map-range_with_len (drawn_parent c.args.draws.now.seed) 0 c.args.count in
    let all : c.loop-number.number ≡ c.args.count = omega (arith, count, c.deref-parent-items.ensures.len) in
    let twice : c.args.count + c.loop-number.number ≡ 2 * c.args.count = omega arith in
    c.loop-number.invariant.0 ∙ next_is c.args.draws.now.seed _ _ twice
