-- Proof by hand of `set_row`: its loop, by the lemmas of `Spreading`.
use Rattle.std.proofs.Common.{◌∙◌, sym, ap, take, set, true, get_or}
use Rattle.std.proofs.lemmas.List.{take_more}
use Rattle.device_links.specs.Spread.{marked}
use Rattle.device_links.proofs.Spreading.{marked_more}
use Rattle.device_links.proofs.depends.set_row.Goals as goal

pub loop-device-preserved : goal.loop-device-preserved
loop-device-preserved c =
    let row = c.args.row.now in
    let i = c.loop-device.device-index in
    let x = get_or row i 0 in
    c.set_mark.ensures ∙ (ap (λ ms. set ms x true) c.loop-device.invariant
    ∙ (sym (marked_more (take i row) x c.args.marks.now) ∙ ap (λ xs. marked xs c.args.marks.now) (sym (take_more row i 0 c.loop-device-test.true))))
