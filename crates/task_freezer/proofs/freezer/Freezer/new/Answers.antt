-- Proof that `Freezer::new` keeps the invariant of its type.
use Rattle.std.proofs.Common.{rules, ◌≡◌, ◌∙◌, ap, ap₂, sym, length, replicate, false}
use Rattle.std.proofs.lemmas.List.{length-replicate}
use Rattle.sleep_model.specs.Freezer.{unasked}
use Rattle.task_freezer.specs.Waits.{left_counts}
use Rattle.task_freezer.proofs.Waiting.{none_left}
use Rattle.task_freezer.proofs.freezer.Freezer.new.Goals as goal

pub invariant_of-result : goal.invariant_of-result
invariant_of-result c =
    let ss = c.args.scripts.now in
    let freezings : c.in_ok-vec.field-0.items ≡ replicate (length ss) unasked = search rules in
    let exited_flags : c.in_ok-vec-2.field-0.items ≡ replicate (length ss) false = search rules in
    record {
      few = c.requires;
      freezings = simp length-replicate at (ap length freezings);
      exited_flags = simp length-replicate at (ap length exited_flags);
      left = sym (ap₂ (λ fs gs. left_counts ss fs gs) freezings exited_flags ∙ none_left ss);
    }
