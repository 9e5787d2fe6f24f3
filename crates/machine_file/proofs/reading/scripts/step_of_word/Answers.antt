use Rattle.std.proofs.Common.{◌≡◌, ◌∙◌, ℕ, codes, unwrap_or, ap, arith}
use Rattle.borrowed_json.specs.Look.{number_at}
use Rattle.borrowed_json.specs.View.{view}
use Rattle.sleep_model.specs.declared.machine.Op.{Op}
use Rattle.sleep_model.specs.declared.machine.Step.{Step}
use Rattle.file_rules.specs.Knows.{known_seen}
use Rattle.file_rules.specs.Operations.{whole_op}
use Rattle.file_rules.proofs.Worded.{by_word}
use Rattle.machine_file.proofs.reading.scripts.step_of_word.Goals as goal

abbrev made : Op → ℕ → Step
made op times = record { op = op; times = times }

pub returns-clause-spells : goal.returns-clause-spells
returns-clause-spells c = λ few.
    let k = known_seen c.args.known.now in
    let o = view c.args.operation.now in
    let op : c.in_ok-op.op ≡ whole_op k o = c.in_ok-op.ensures.spells few ∙ by_word k o c.args.word c.requires.word in
    let times : c.unwrap_or.result ≡ unwrap_or (number_at (codes "times") o) 1 = grind arith in
    ap (λ (x : Op). made x c.unwrap_or.result) op ∙ ap (λ (n : ℕ). made (whole_op k o) n) times
