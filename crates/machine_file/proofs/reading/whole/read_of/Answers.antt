use Rattle.std.proofs.Common.{◌≡◌, ◌≤◌, ◌∙◌, ℕ, Bor, List, length, sym, ap, subst, arith}
use Rattle.std.proofs.lemmas.List.{length-map}
use Rattle.borrowed_json.specs.View.{view}
use Rattle.file_rules.specs.Fitting.{FitsFile}
use Rattle.file_rules.specs.Knows.{texts}
use Rattle.file_rules.specs.Operations.{whole_marks}
use Rattle.file_rules.proofs.Grouping.{in_order}
use Rattle.file_rules.proofs.FittedFile.{fits_file}
use Rattle.machine_file.proofs.reading.whole.read_of.Goals as goal

pub machine_of-requires-clause-fits : goal.machine_of-requires-clause-fits
machine_of-requires-clause-fits c = fits_file (view c.args.tree.now) (sym (in_order (view c.args.tree.now)) ∙ c.requires.unbroken)

pub machine_of-requires-clause-scripts : goal.machine_of-requires-clause-scripts
machine_of-requires-clause-scripts c =
    let file = view c.args.tree.now in
    let marks = c.args.known.now.marks in
    let fits : FitsFile file = fits_file file (sym (in_order file) ∙ c.requires.unbroken) in
    let few : length marks ≤ 200000 =
    let most : length (whole_marks file) ≤ 200000 = fits.few_marks in
    let same : length (texts marks) ≡ length (whole_marks file) = ap length c.requires.knows.marks in
    let as_many : length (texts marks) ≡ length marks = length-map marks (λ (s : Bor (List ℕ)). s.now) in
    omega (arith, most, same, as_many) in
    c.requires.scripts few
