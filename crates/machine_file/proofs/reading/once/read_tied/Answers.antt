-- Proof that `read_tied` meets its contract, and what `read_of` requires.
use Rattle.std.proofs.Common.{◌≡◌, ◌∙◌, IfErr, IfOk, Option, None, Some, ap, subst}
use Rattle.std.specs.Option.{option_or}
use Rattle.borrowed_json.specs.View.{view}
use Rattle.file_rules.specs.Broken.{broken_view}
use Rattle.machine_file.specs.Sound.{SpellsBehaviour}
use Rattle.file_rules.specs.ValidFiles.{broken_cycle, broken_devices, broken_ends, broken_rest}
use Rattle.file_rules.specs.Whole.{Broken}
use Rattle.file_rules.proofs.Grouping.{few_known}
use Rattle.machine_file.proofs.KeptLinks.{rest_breaks}
use Rattle.machine_file.proofs.reading.once.read_tied.Goals as goal

pub read_of-requires : goal.read_of-requires
read_of-requires c =
    let d = view c.args.tree.now in
    let none : broken_rest d ≡ None = subst (λ r. IfOk r (λ _. broken_rest d ≡ None)) c.in-Ok-behaviour.is c.in-Ok.ensures.unbroken in
    let spelled : SpellsBehaviour d c.args.known.now c.in-Ok-behaviour.behaviour = subst (λ r. IfOk r (SpellsBehaviour d c.args.known.now)) c.in-Ok-behaviour.is c.in-Ok.ensures.spelled in
    record {
      unbroken =
          ap (λ (o : Option Broken). option_or o (option_or (broken_devices d) (option_or (broken_ends d) (option_or (broken_cycle d) (broken_rest d))))) c.requires.form
          ∙ ap (λ (o : Option Broken). option_or o (option_or (broken_ends d) (option_or (broken_cycle d) (broken_rest d)))) c.requires.devices
          ∙ ap (λ (o : Option Broken). option_or o (option_or (broken_cycle d) (broken_rest d))) c.requires.ends
          ∙ ap (λ (o : Option Broken). option_or o (broken_rest d)) c.requires.cycle
          ∙ none;
      knows = c.requires.knows;
      few = few_known c.args.known.now d c.requires.knows c.requires.form;
      links = c.requires.links;
      added = c.requires.added;
      scripts = spelled.scripts;
      answers = spelled.answers;
    }

pub returns-in-Err-clause-err : goal.returns-in-Err-clause-err
returns-in-Err-clause-err c =
    let d = view c.args.tree.now in rest_breaks d _ (subst (λ r. IfErr r (λ b. broken_rest d ≡ Some (broken_view b))) c.in-Err.is c.in-Ok.ensures.broken)
