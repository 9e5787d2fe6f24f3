-- Proof by hand of `set_all`: its loop, by the lemmas of `Spreading`.
use Rattle.std.proofs.Common.{◌∙◌, sym, ap, take, get_or}
use Rattle.std.proofs.lemmas.List.{take_more}
use Rattle.device_rows.specs.Table.{row_at}
use Rattle.device_links.specs.Spread.{spread, spread_by}
use Rattle.device_links.proofs.Spreading.{spread_more}
use Rattle.device_links.proofs.depends.set_all.Goals as goal

pub loop-device-preserved : goal.loop-device-preserved
loop-device-preserved c =
    let order = c.args.order.now in
    let dependents_of = row_at c.args.table.now in
    let i = c.loop-device.device-index in
    let d = get_or order i 0 in
    c.set_below.ensures ∙ (ap (λ ms. spread_by dependents_of d ms) c.loop-device.invariant
    ∙ (sym (spread_more dependents_of (take i order) d c.args.marks.now) ∙ ap (λ ds. spread dependents_of ds c.args.marks.now) (sym (take_more order i 0 c.loop-device-test.true))))
