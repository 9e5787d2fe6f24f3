-- Proof that the loop of `first_occurrences` keeps its invariant.
use Rattle.std.proofs.Common.{◌∙◌, ℕ, List, Bor, Vec, Global, sym, ap}
use Rattle.file_rules.specs.Knows.{texts}
use Rattle.file_rules.proofs.Marked.{first_again, first_new}
use Rattle.file_rules.proofs.names.marks.first_occurrences.Goals as goal
use Rattle.file_rules.proofs.names.marks.first_occurrences.Goals.{then-not-is_before+in_ok-push, else-not-is_before}

pub loop-i-preserved : goal.loop-i-preserved
loop-i-preserved c =
    elim c.if-not-is_before.branch [
      | then-not-is_before+in_ok-push w ↦
          first_new c.keys-name-items.result.now c.args.names.now c.keys-name-items.ensures c.loop-i.i _ c.loop-i-test.true c.loop-i.first.items c.loop-i.invariant
          c.if-not-is_before.first.items (sym c.is_before.ensures ∙ w.if-not-is_before.true) (ap (λ (v : Vec (Bor (List ℕ)) Global). v.items) w.first-is ∙ w.in_ok-push.ensures.items)
      | else-not-is_before w ↦
          ap (λ (v : Vec (Bor (List ℕ)) Global). texts v.items) w.first-is
          ∙ first_again c.keys-name-items.result.now c.args.names.now c.keys-name-items.ensures c.loop-i.i _ c.loop-i-test.true c.loop-i.first.items c.loop-i.invariant
          (sym c.is_before.ensures ∙ w.if-not-is_before.false)
    ]
