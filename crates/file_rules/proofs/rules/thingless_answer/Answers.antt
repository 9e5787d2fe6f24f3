-- Proof that `thingless_answer` meets its contract.
use Rattle.std.proofs.Common.{◌∙◌, ◌&&◌, List, ℕ, Bool, ap, codes, map, if◌then◌else◌}
use Rattle.borrowed_json.specs.View.{view}
use Rattle.serde_json.specs.Data.{Data}
use Rattle.sleep_model.specs.Text.{down_word}
use Rattle.file_rules.specs.Knows.{texts}
use Rattle.borrowed_json.specs.Look.{has_text}
use Rattle.file_rules.specs.Names.{is_among_names, devices_named, texts_in}
use Rattle.file_rules.specs.Places.{first_item}
use Rattle.file_rules.specs.Rules.{name_of}
use Rattle.file_rules.specs.Answering.{is_of_device, has_its_phase, platform_steps}
use Rattle.file_rules.proofs.rules.thingless_answer.Goals as goal

-- the test, with these names known
abbrev is_there : List (List ℕ) → List (List ℕ) → List (List ℕ) → Data → Bool
is_there devices syscore notifiers a =
    is_among_names (if is_of_device a then devices else if has_text (codes "what") (codes "syscore") a then syscore else if has_text (codes "what") (codes "notifier") a then notifiers else map down_word platform_steps) (name_of a)
    && has_its_phase a

pub returns : goal.returns
returns c =
    let file = view c.args.tree.now in
    let k = c.args.known.now in
    c.first_answer.ensures
    ∙ ap (λ (ns : List (List ℕ)). first_item (codes "answers") (is_there ns (texts k.syscore) (texts k.notifiers)) file) c.requires.devices
    ∙ ap (λ (ns : List (List ℕ)). first_item (codes "answers") (is_there (devices_named file) ns (texts k.notifiers)) file) c.requires.syscore
    ∙ ap (λ (ns : List (List ℕ)). first_item (codes "answers") (is_there (devices_named file) (texts_in (codes "syscore") file) ns) file) c.requires.notifiers
