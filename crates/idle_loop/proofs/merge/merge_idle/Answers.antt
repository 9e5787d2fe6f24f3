-- Proof by hand of `merge_idle`: its loop and the call of `put_hards`, by the lemmas of `Placing`.
use Rattle.std.proofs.Common.{◌+◌, List, get_or, take, length, reverse, sym, subst}
use Rattle.std.proofs.lemmas.List.{get_or_default}
use Rattle.idle_loop.specs.declared.entry.IdleEntry.{IdleEntry}
use Rattle.idle_loop.specs.declared.entry.IdleKind.TheVariants.{Hard}
use Rattle.idle_loop.specs.Merging.{Merges, Nothing}
use Rattle.idle_loop.proofs.Placing.{IsPlaced, see_next, entry_next}
use Rattle.idle_loop.proofs.merge.merge_idle.Goals as goal

-- what an entry past the end would be
abbrev none : IdleEntry
none = record { hard = 0; who = 0; what = Hard }

pub loop-entry-init : goal.loop-entry-init
loop-entry-init c = subst (IsPlaced c.args.makers.now c.args.journal.now 0 0) (sym c.new-log.ensures.items) (record { sees = c.requires.order; merges = Nothing })

pub put_hards-requires : goal.put_hards-requires
put_hards-requires c =
    let journal = c.args.journal.now in
    let i = c.loop-entry.entry-index in
    let e = get_or journal i none in
    let low = c.loop-entry-test.true in
    let next = see_next c.loop-entry.placed (length c.args.makers.now) journal i e low (get_or_default journal i none e low) c.loop-entry.invariant.sees in
    (next.0, next.1)

pub loop-entry-preserved : goal.loop-entry-preserved
loop-entry-preserved c =
    let journal = c.args.journal.now in
    let makers = c.args.makers.now in
    let i = c.loop-entry.entry-index in
    let e = get_or journal i none in
    let low = c.loop-entry-test.true in
    let is = get_or_default journal i none e low in
    let next = see_next c.loop-entry.placed (length makers) journal i e low is c.loop-entry.invariant.sees in
    record {
      sees = next.2;
      merges = subst (λ (es : List IdleEntry). Merges (reverse (take e.hard makers)) (reverse (take (i + 1) journal)) (reverse es)) (sym c.in_ok-push.ensures.items)
          (entry_next makers journal i e c.put_hards.new.log.items low is next.1 (c.in_ok-put_hards.ensures (reverse (take i journal)) c.loop-entry.invariant.merges));
    }
