-- Proof by hand of `merged_log`: the call of `merge_idle` and what it returns, by the lemmas of `Ending`.
use Rattle.std.proofs.Common.{◌≡◌, ◌∙◌, List, length, reverse, refl, sym, ap, subst}
use Rattle.idle_loop.specs.declared.entry.IdleEntry.{IdleEntry}
use Rattle.idle_loop.specs.declared.entry.IdleSizes.{IdleSizes}
use Rattle.idle_gate.specs.Gates.{is_entered}
use Rattle.idle_loop.specs.GateLogs.{IsGateLog}
use Rattle.idle_loop.specs.Merging.{Merges, SeeMore}
use Rattle.idle_loop.proofs.Ending.{see_more, whole_run}
use Rattle.idle_loop.proofs.closing.merged_log.Goals as goal

pub merge_idle-requires-clause-order : goal.merge_idle-requires-clause-order
merge_idle-requires-clause-order c = subst (λ (l : List IdleEntry). SeeMore 0 (length c.args.makers.now) l) (sym c.deref.ensures.value)
    (see_more 0 c.args.gate_log.seen (length c.args.makers.now) c.into_journal-journal.result.items c.requires.seen c.into_journal-journal.ensures.order)

pub returns : goal.returns
returns c =
    let b = c.args.gate_log in
    let journal : reverse c.deref.result.now ≡ b.journal = ap (λ (l : List IdleEntry). reverse l) c.deref.ensures.value ∙ c.into_journal-journal.ensures.items in
    whole_run c.args.sizes b.gate b.journal (reverse c.in_ok-entries.entries.items) (reverse c.args.makers.now) _ (subst (λ (z : IdleSizes). IsGateLog z b.gate b.journal) c.requires.sizes c.into_journal-journal.ensures.kept) c.requires.made
    (subst (λ (l : List IdleEntry). Merges (reverse c.args.makers.now) l (reverse c.in_ok-entries.entries.items)) journal c.in_ok-entries.ensures) c.requires.rest refl (c.is_entered-idle.ensures ∙ ap is_entered c.state.ensures)
