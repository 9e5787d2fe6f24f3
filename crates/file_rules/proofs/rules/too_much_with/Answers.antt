-- Proof that `too_much_with` meets its contract, and what `too_much` requires.
use Rattle.std.proofs.Common.{◌≡◌, ◌<◌, ℕ, Bor, List, length, sym, ap, arith}
use Rattle.std.proofs.lemmas.Bool.{ltb-false, ltb-true}
use Rattle.std.proofs.lemmas.List.{length-map}
use Rattle.borrowed_json.specs.View.{view}
use Rattle.file_rules.specs.Knows.{texts}
use Rattle.file_rules.specs.Operations.{whole_marks}
use Rattle.file_rules.proofs.FittedFile.{marks_over}
use Rattle.file_rules.proofs.rules.too_much_with.Goals as goal

pub returns-then-names_many_marks : goal.returns-then-names_many_marks
returns-then-names_many_marks c =
    let file = view c.args.tree.now in
    let marks = c.args.known.now.marks in
    let over : 200000 < length marks = ltb-true 200000 (length marks) (sym c.if-names_many_marks.ensures) in
    let same : length (texts marks) ≡ length (whole_marks file) = ap length c.requires.knows.marks in
    let as_many : length (texts marks) ≡ length marks = length-map marks (λ (s : Bor (List ℕ)). s.now) in
    sym (marks_over file c.requires.form c.requires.operations (omega (arith, over, same, as_many)))

pub too_much-requires : goal.too_much-requires
too_much-requires c = c.requires.scripts (ltb-false 200000 (length c.args.known.now.marks) (sym c.if-names_many_marks.ensures))
