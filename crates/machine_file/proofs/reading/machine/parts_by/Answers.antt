use Rattle.std.proofs.Common.{◌≡◌, ◌∙◌, IfOk, Option, None, ap, subst}
use Rattle.std.specs.Option.{option_or}
use Rattle.borrowed_json.specs.View.{view}
use Rattle.file_rules.specs.Whole.{Broken}
use Rattle.machine_file.specs.Sound.{SpellsBehaviour}
use Rattle.file_rules.specs.ValidFiles.{broken_devices, broken_ends, broken_cycle, broken_rest}
use Rattle.file_rules.proofs.Grouping.{joined_groups, few_known, no_cycle, or_none}
use Rattle.machine_file.proofs.reading.machine.parts_by.Goals as goal

pub linking_of-requires-clause-joined : goal.linking_of-requires-clause-joined
linking_of-requires-clause-joined c = joined_groups (view c.args.tree.now) c.requires.form c.requires.devices c.requires.ends

pub returns-in-Ok-behaviour-clause-sound : goal.returns-in-Ok-behaviour-clause-sound
returns-in-Ok-behaviour-clause-sound c =
    let d = view c.args.tree.now in
    let after = option_or (broken_cycle d) (broken_rest d) in
    let none : after ≡ None = subst (λ r. IfOk r (λ _. after ≡ None)) c.in-Ok-behaviour.is c.in-Ok.ensures.unbroken in
    let spelled : SpellsBehaviour d c.args.known.now c.in-Ok-behaviour.behaviour = subst (λ r. IfOk r (SpellsBehaviour d c.args.known.now)) c.in-Ok-behaviour.is c.in-Ok.ensures.spelled in
    record {
      unbroken =
          ap (λ (o : Option Broken). option_or o (option_or (broken_devices d) (option_or (broken_ends d) after))) c.requires.form
          ∙ ap (λ (o : Option Broken). option_or o (option_or (broken_ends d) after)) c.requires.devices
          ∙ ap (λ (o : Option Broken). option_or o after) c.requires.ends
          ∙ none;
      knows = c.requires.knows;
      few = few_known c.args.known.now d c.requires.knows c.requires.form;
      links = c.in_ok-linking.ensures.links;
      added = c.in_ok-linking.ensures.added (c.in_ok-linking.ensures.cycle ∙ no_cycle d (or_none (broken_cycle d) (broken_rest d) none).0);
      scripts = spelled.scripts;
      answers = spelled.answers;
    }
