-- Proof by hand of `precedes`: what it returns and its loop, by the lemmas of `Moving`.
use Rattle.std.proofs.Common.{◌≡◌, ◌==◌, ◌∙◌, ◌||◌, false, get_or, ap}
use Rattle.std.proofs.lemmas.Bool.{ne_eqb}
use Rattle.device_links.proofs.Moving.{first_at, among_more}
use Rattle.device_links.proofs.first.precedes.Goals as goal

pub returns-then-device-one : goal.returns-then-device-one
returns-then-device-one c =
    let xs = c.args.order.now in
    let i = c.loop-device.device-index in
    let other : (get_or xs i 0 == c.args.other) ≡ false = ne_eqb (get_or xs i 0) c.args.other c.if-device-other.false in
    first_at xs i c.args.one c.args.other c.loop-device-test.true c.loop-device.invariant c.if-device-one.true other

pub loop-device-preserved : goal.loop-device-preserved
loop-device-preserved c =
    let xs = c.args.order.now in
    let i = c.loop-device.device-index in
    let other : (get_or xs i 0 == c.args.other) ≡ false = ne_eqb (get_or xs i 0) c.args.other c.if-device-other.false in
    among_more xs i c.args.other c.loop-device-test.true
    ∙ (ap (λ b. b || (get_or xs i 0 == c.args.other)) c.loop-device.invariant ∙ other)
