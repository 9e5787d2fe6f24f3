-- What is written for a machine that a file spells spells it again.
use Rattle.std.proofs.Common.{◌≡◌, ◌∙◌, ℕ, List, Option, Some, None, option_and_then, refl, ap, ap₂, subst, arith}
use Rattle.serde_json.specs.Data.{Data}
use Rattle.sleep_model.specs.declared.machine.Machine.{Machine}
use Rattle.file_rules.specs.Tree.{tree}
use Rattle.file_rules.specs.Whole.{Broken, first_broken, whole_machine, unless_broken}
use Rattle.machine_file.specs.Spelling.{machine_value, ReadsBack, AllReadBack}
use Rattle.file_read_back.specs.Laws.{AllGenerated}
use Rattle.file_read_back.proofs.DrawnValue.{drawn_value, spells_drawn}
use Rattle.file_read_back.proofs.DrawnRules.{drawn_unbroken}
use Rattle.file_read_back.proofs.DrawnTexts.{drawn_texts}
use Rattle.file_read_back.proofs.FileValid.{valid_file}
use Rattle.file_read_back.proofs.MachineBack.{machine_same}
use Rattle.file_read_back.proofs.RulesBack.{unbroken_again}
use Rattle.file_read_back.proofs.WrittenRead.{file_read}
use Rattle.file_read_back.proofs.PlainAgain.{machine_plain}
use Rattle.file_read_back.proofs.TextsIn.{HasTexts}
use Rattle.file_read_back.proofs.TextsRead.{file_texts}

abbrev pick : Machine → Option Machine → Machine
pick m None = m
pick m (Some k) = k

-- two that are there are one if what holds them is
pub some_is : (k l : Machine) → Some k ≡ Some l → k ≡ l
some_is k l same = ap (pick k) same

value_back : (d : Data) → HasTexts d → first_broken d ≡ None → ReadsBack (whole_machine d)
value_back d texts unbroken =
    ap (option_and_then (λ v. unless_broken (first_broken v) (whole_machine v))) (file_read 5 (machine_value (whole_machine d)) (omega arith) (machine_plain d texts unbroken))
    ∙ ap₂ unless_broken (unbroken_again d unbroken) (machine_same d (valid_file d unbroken))

found_back : (d : Data) (m : Machine) → HasTexts d → (o : Option Broken) → first_broken d ≡ o → unless_broken o (whole_machine d) ≡ Some m → ReadsBack m
found_back d m texts None e is = subst ReadsBack (some_is (whole_machine d) m is) (value_back d texts e)
found_back d m texts (Some b) e is = absurd (let f : None ≡ Some m = is in cc)

tree_back : (bytes : List ℕ) (m : Machine) (o : Option Data) → tree bytes ≡ o → option_and_then (λ d. unless_broken (first_broken d) (whole_machine d)) o ≡ Some m → ReadsBack m
tree_back bytes m None e is = absurd (let f : None ≡ Some m = is in cc)
tree_back bytes m (Some d) e is = found_back d m (file_texts bytes d e) (first_broken d) refl is

-- so it is of each machine that some file spells
pub all_read_back : AllReadBack
all_read_back m spelled = tree_back spelled.0 m (tree spelled.0) refl spelled.1

-- so it is of each generated machine
pub all_drawn_back : AllGenerated
all_drawn_back seed devices some few =
    subst ReadsBack (spells_drawn seed devices some few) (value_back (drawn_value seed devices) (drawn_texts seed devices some few) (drawn_unbroken seed devices some few))
