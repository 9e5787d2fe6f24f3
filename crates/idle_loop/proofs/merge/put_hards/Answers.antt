-- Proof by hand of `put_hards`: its loop, by the lemmas of `Placing`.
use Rattle.std.proofs.Common.{◌<◌, ◌+◌, List, take, length, reverse, sym, subst, arith}
use Rattle.idle_loop.specs.declared.entry.IdleEntry.{IdleEntry}
use Rattle.idle_loop.specs.Merging.{Merges}
use Rattle.idle_loop.proofs.Placing.{hard_next}
use Rattle.idle_loop.proofs.merge.put_hards.Goals as goal

pub loop-before-preserved : goal.loop-before-preserved
loop-before-preserved c = λ journal m.
    let low : c.loop-before.before < length c.args.makers.now = omega (arith, c.loop-before-test.true, c.requires.1) in
    subst (λ (es : List IdleEntry). Merges (reverse (take (c.loop-before.before + 1) c.args.makers.now)) journal (reverse es)) (sym c.in_ok-push.ensures.items)
    (hard_next c.args.makers.now c.loop-before.before journal c.loop-before.log.items low (c.loop-before.invariant journal m))
