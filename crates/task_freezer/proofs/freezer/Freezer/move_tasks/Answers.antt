-- Proof that `Freezer::move_tasks` keeps the invariant of its type, and that it meets what `counts_after` requires.
use Rattle.std.proofs.Common.{◌≡◌, ◌∙◌, ◌≤◌, length, ap, ap₂, sym, subst}
use Rattle.sleep_model.specs.declared.entry.Group.TheVariants as group
use Rattle.task_freezer.specs.declared.left.LeftCounts.{LeftCounts}
use Rattle.task_freezer.specs.Waits.{AreMoved, left_counts, wait_groups}
use Rattle.task_freezer.proofs.Waiting.{are_moved, freezings_len, exited_len, left_few}
use Rattle.task_freezer.proofs.freezer.Freezer.move_tasks.Goals as goal

pub counts_after-self-inside-requires-clause-freezings : goal.counts_after-self-inside-requires-clause-freezings
counts_after-self-inside-requires-clause-freezings c =
    let f = c.self.inside in
    ap length (c.deref-3.ensures.value ∙ c.move_freezings.ensures) ∙ freezings_len f.scripts.now c.args.who c.args.kind f.freezings.items c.self.invariant.freezings

pub counts_after-self-inside-requires-clause-moved : goal.counts_after-self-inside-requires-clause-moved
counts_after-self-inside-requires-clause-moved c =
    let f = c.self.inside in
    let waited : c.waits_among-waited.result ≡ wait_groups c.args.who f.scripts.now f.freezings.items f.exited_flags.items =
    c.waits_among-waited.ensures ∙ ap₂ (λ fs gs. wait_groups c.args.who f.scripts.now fs gs) c.deref.ensures.value c.deref-2.ensures.value in
    λ one. subst (λ w. AreMoved c.args.who f.scripts.now c.deref-3.result.now c.deref-4.result.now f.left w) (sym waited)
    (subst (λ left. AreMoved c.args.who f.scripts.now c.deref-3.result.now c.deref-4.result.now left (wait_groups c.args.who f.scripts.now f.freezings.items f.exited_flags.items)) (sym c.self.invariant.left)
    (are_moved c.args.who c.args.kind f.scripts.now f.freezings.items c.deref-3.result.now f.exited_flags.items c.deref-4.result.now c.self.invariant.freezings c.self.invariant.exited_flags
    (c.deref-3.ensures.value ∙ c.move_freezings.ensures) (c.deref-4.ensures.value ∙ c.move_exited.ensures) one))

pub counts_after-self-inside-requires-clause-user_few : goal.counts_after-self-inside-requires-clause-user_few
counts_after-self-inside-requires-clause-user_few c =
    let f = c.self.inside in
    subst (λ (left : LeftCounts). left.user ≤ length f.scripts.now) (sym c.self.invariant.left) (left_few group.User 0 f.scripts.now f.freezings.items f.exited_flags.items)

pub counts_after-self-inside-requires-clause-kernel_few : goal.counts_after-self-inside-requires-clause-kernel_few
counts_after-self-inside-requires-clause-kernel_few c =
    let f = c.self.inside in
    subst (λ (left : LeftCounts). left.kernel ≤ length f.scripts.now) (sym c.self.invariant.left) (left_few group.Kernel 0 f.scripts.now f.freezings.items f.exited_flags.items)

pub invariant_of-self : goal.invariant_of-self
invariant_of-self c =
    let f = c.self.inside in
    record {
      few = c.self.invariant.few;
      freezings = ap length c.move_freezings.ensures ∙ freezings_len f.scripts.now c.args.who c.args.kind f.freezings.items c.self.invariant.freezings;
      exited_flags = ap length c.move_exited.ensures ∙ (exited_len c.args.who c.args.kind f.exited_flags.items ∙ c.self.invariant.exited_flags);
      left = c.counts_after-self-inside.ensures ∙ ap₂ (λ fs gs. left_counts f.scripts.now fs gs) c.deref-3.ensures.value c.deref-4.ensures.value;
    }
