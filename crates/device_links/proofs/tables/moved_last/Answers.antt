-- Proof by hand of `moved_last`: its indices, by the lemmas of `Walking`.
use Rattle.std.proofs.Common.{get_or}
use Rattle.std.proofs.lemmas.List.{get_or_default}
use Rattle.device_links.proofs.Walking.{among_at}
use Rattle.device_links.proofs.tables.moved_last.Goals as goal

pub bounds-marks-device : goal.bounds-marks-device
bounds-marks-device c =
    let xs = c.args.order.now in
    let i = c.loop-device.device-index in
    let d = get_or xs i 0 in
    c.requires d (among_at xs i d c.loop-device-test.true (get_or_default xs i 0 d c.loop-device-test.true))
