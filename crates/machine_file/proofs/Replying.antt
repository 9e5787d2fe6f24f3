-- Answers by the names that are known.
use Rattle.std.proofs.Common.{◌≡◌, ◌∙◌, List, ℕ, ap, map, codes, if◌then◌else◌}
use Rattle.serde_json.specs.Data.{Data}
use Rattle.sleep_model.specs.declared.machine.Answer.{Answer}
use Rattle.sleep_model.specs.declared.machine.What.TheVariants as what
use Rattle.sleep_model.specs.Text.{down_word}
use Rattle.file_rules.specs.declared.names.known.Known.{Known}
use Rattle.file_rules.specs.Knows.{Knows, texts}
use Rattle.borrowed_json.specs.Look.{has_text, list_in, number_at}
use Rattle.file_rules.specs.Names.{devices_named, texts_in, names_in}
use Rattle.file_rules.specs.Rules.{name_of}
use Rattle.file_rules.specs.Spelled.{index_among}
use Rattle.file_rules.specs.Answering.{is_of_device, platform_steps, phase_of, step_of, ret_of, whole_report, whole_answer}
use Rattle.file_rules.specs.AnswerTests.{answer_made}

-- an answer, with these names known
abbrev made : List (List ℕ) → List (List ℕ) → List (List ℕ) → List (List ℕ) → Data → Answer
made devices syscore notifiers sources a =
    let names = (if is_of_device a then devices else if has_text (codes "what") (codes "syscore") a then syscore else if has_text (codes "what") (codes "notifier") a then notifiers else map down_word platform_steps) in
    let place = index_among names (name_of a) in
    record {
      what = if is_of_device a then what.Device place (phase_of a) else if has_text (codes "what") (codes "syscore") a then what.Syscore place else if has_text (codes "what") (codes "notifier") a then what.Notifier place else what.Platform (step_of a);
      attempt = number_at (codes "attempt") a;
      ret = ret_of a;
      reports = map (whole_report sources) (list_in (codes "reports") a);
    }

pub answers_made : (k : Known) (file : Data) (items : List Data) → Knows k file → map (answer_made k) items ≡ map (whole_answer file) items
answers_made k file items h =
    ap (λ (ns : List (List ℕ)). map (made ns (texts k.syscore) (texts k.notifiers) (texts k.sources)) items) h.devices
    ∙ ap (λ (ns : List (List ℕ)). map (made (devices_named file) ns (texts k.notifiers) (texts k.sources)) items) h.syscore
    ∙ ap (λ (ns : List (List ℕ)). map (made (devices_named file) (texts_in (codes "syscore") file) ns (texts k.sources)) items) h.notifiers
    ∙ ap (λ (ns : List (List ℕ)). map (made (devices_named file) (texts_in (codes "syscore") file) (names_in (codes "notifiers") file) ns) items) h.sources
