-- Proof that `with_answers` meets its contract.
use Rattle.std.proofs.Common.{◌≡◌, ◌∙◌, IfErr, IfOk, None, Some, Vec, subst}
use Rattle.std.specs.declared.alloc.Global.{Global}
use Rattle.sleep_model.specs.declared.machine.Answer.{Answer}
use Rattle.borrowed_json.specs.View.{view}
use Rattle.file_rules.specs.Answering.{whole_answers}
use Rattle.file_rules.specs.Broken.{broken_view}
use Rattle.file_rules.specs.Groups.{reply_rules}
use Rattle.file_rules.specs.Whole.{first_of}
use Rattle.machine_file.proofs.reading.machine.with_answers.Goals as goal

pub returns-in-Ok-answers-clause-spelled : goal.returns-in-Ok-answers-clause-spelled
returns-in-Ok-answers-clause-spelled c =
    record { scripts = c.requires.scripts; answers = subst (λ r. IfOk r (λ (v : Vec Answer Global). v.items ≡ whole_answers (view c.args.tree.now))) c.in-Ok-answers.is c.in-Ok.ensures.spelled }

pub returns-in-Ok-answers-clause-unbroken : goal.returns-in-Ok-answers-clause-unbroken
returns-in-Ok-answers-clause-unbroken c =
    c.requires.operations ∙ subst (λ r. IfOk r (λ _. first_of reply_rules (view c.args.tree.now) ≡ None)) c.in-Ok-answers.is c.in-Ok.ensures.unbroken

pub returns-in-Err-clause-broken : goal.returns-in-Err-clause-broken
returns-in-Err-clause-broken c =
    c.requires.operations ∙ subst (λ r. IfErr r (λ b. first_of reply_rules (view c.args.tree.now) ≡ Some (broken_view b))) c.in-Err.is c.in-Ok.ensures.broken
