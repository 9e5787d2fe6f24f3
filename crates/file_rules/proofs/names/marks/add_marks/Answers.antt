-- Proof that the loop of `add_marks` keeps its invariant.
use Rattle.std.proofs.Common.{◌∙◌, ℕ, List, Bor, Vec, Global, sym, ap}
use Rattle.std.specs.Option.{option_copied}
use Rattle.file_rules.specs.Knows.{texts}
use Rattle.file_rules.proofs.Marked.{mark_added, no_mark_added}
use Rattle.file_rules.proofs.names.marks.add_marks.Goals as goal
use Rattle.file_rules.proofs.names.marks.add_marks.Goals.{in-Some+in_ok-push, in_default}

pub loop-operation-preserved : goal.loop-operation-preserved
loop-operation-preserved c =
    elim c.match-word_at.branch [
      | in-Some+in_ok-push w ↦
          mark_added c.args.script.now c.loop-operation.operation-index c.operation-item.result c.loop-operation-test.true c.operation-item.is
          (texts c.args.marks.now.items) c.loop-operation.marks.items c.loop-operation.invariant w.in-Some.mark c.match-word_at.marks.items
          (sym (ap option_copied w.in-Some.is) ∙ c.word_at.ensures) (ap (λ (v : Vec (Bor (List ℕ)) Global). v.items) w.marks-is ∙ w.in_ok-push.ensures.items)
      | in_default w ↦
          ap (λ (v : Vec (Bor (List ℕ)) Global). texts v.items) w.marks-is
          ∙ no_mark_added c.args.script.now c.loop-operation.operation-index c.operation-item.result c.loop-operation-test.true c.operation-item.is
          (texts c.args.marks.now.items) c.loop-operation.marks.items c.loop-operation.invariant (sym (ap option_copied w.in_default.is) ∙ c.word_at.ensures)
    ]
