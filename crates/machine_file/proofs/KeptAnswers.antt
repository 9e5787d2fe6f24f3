-- Answers that keep each rule on one answer: one reading tells of all these rules.
use Rattle.std.proofs.Common.{◌≡◌, ◌∙◌, ◌&&◌, ℕ, Bool, true, List, [], ◌∷◌, codes, drop, map, Option, None, refl, ap, if◌then◌else◌}
use Rattle.std.specs.List.{list_all}
use Rattle.std.specs.Option.{option_map, option_or}
use Rattle.std.proofs.lemmas.Bool.{and_from, and_parts}
use Rattle.serde_json.specs.Data.{Data}
use Rattle.sleep_model.specs.Text.{down_word}
use Rattle.borrowed_json.specs.Look.{has_text, list_in, may_have}
use Rattle.file_rules.specs.declared.names.known.Known.{Known}
use Rattle.file_rules.specs.AnswerTests.{is_valid_answer}
use Rattle.file_rules.specs.Answering.{forbidden_reports, forbidden_ret, has_its_phase, is_of_device, is_ret_allowed, may_report, names_thing, platform_steps, sourceless_report, thingless_answer}
use Rattle.file_rules.specs.Groups.{answer_rules, reply_rules}
use Rattle.file_rules.specs.Knows.{Knows, texts}
use Rattle.file_rules.specs.Names.{devices_named, is_among_names, names_in, sources_named, texts_in}
use Rattle.file_rules.specs.Operations.{names_source}
use Rattle.file_rules.specs.Places.{first_item, item_place}
use Rattle.file_rules.specs.Rules.{name_of}
use Rattle.file_rules.specs.Whole.{broken_at, first_of}
use Rattle.file_rules.proofs.Grouping.{none_left, or_none}
use Rattle.machine_file.proofs.Keeping.{both_tests, none_in_script}
use Rattle.file_rules.proofs.ScriptsValid.{each_item}

-- the reports of an answer name sources of the file
abbrev pub names_sources : Data → Data → Bool
names_sources file a = list_all (names_source (sources_named file)) (list_in (codes "reports") a)

-- what it answers is allowed
abbrev pub may_answer : Data → Bool
may_answer a = may_have (codes "ret") (is_ret_allowed a) a

-- an answer of the file keeps each rule on one answer
abbrev pub keeps_answer : Data → Data → Bool
keeps_answer file a = names_thing file a && may_answer a && may_report a && names_sources file a

-- it does, if the things have these names
abbrev kept_by : List (List ℕ) → List (List ℕ) → List (List ℕ) → List (List ℕ) → Data → Bool
kept_by devices syscore notifiers sources a =
    (is_among_names (if is_of_device a then devices else if has_text (codes "what") (codes "syscore") a then syscore else if has_text (codes "what") (codes "notifier") a then notifiers else map down_word platform_steps) (name_of a)
    && has_its_phase a)
    && may_answer a && may_report a && list_all (names_source sources) (list_in (codes "reports") a)

-- what is read by what is known is tested by what the file names
pub answers_kept : (k : Known) (file : Data) (answers : List Data) → Knows k file → answers ≡ list_in (codes "answers") file
    → list_all (is_valid_answer k) answers ≡ list_all (keeps_answer file) (list_in (codes "answers") file)
answers_kept k file answers h e =
    ap (λ (ns : List (List ℕ)). list_all (kept_by ns (texts k.syscore) (texts k.notifiers) (texts k.sources)) answers) h.devices
    ∙ ap (λ (ns : List (List ℕ)). list_all (kept_by (devices_named file) ns (texts k.notifiers) (texts k.sources)) answers) h.syscore
    ∙ ap (λ (ns : List (List ℕ)). list_all (kept_by (devices_named file) (texts_in (codes "syscore") file) ns (texts k.sources)) answers) h.notifiers
    ∙ ap (λ (ns : List (List ℕ)). list_all (kept_by (devices_named file) (texts_in (codes "syscore") file) (names_in (codes "notifiers") file) ns) answers) h.sources
    ∙ ap (list_all (keeps_answer file)) e

-- ---- all of them, and each rule

pub weaker : (p q : Data → Bool) → ((a : Data) → p a ≡ true → q a ≡ true) → (ds : List Data) → list_all p ds ≡ true → list_all q ds ≡ true
weaker p q h [] e = refl
weaker p q h (d ∷ ds) e = let both = and_parts (p d) (list_all p ds) e in and_from (q d) (list_all q ds) (h d both.0) (weaker p q h ds both.1)

module _ (file : Data) where
  parts_of : (a : Data) → keeps_answer file a ≡ true → ((names_thing file a ≡ true) × (may_answer a ≡ true)) × ((may_report a ≡ true) × (names_sources file a ≡ true))
  parts_of a k =
      let four = and_parts (names_thing file a && may_answer a && may_report a) (names_sources file a) k in
      let three = and_parts (names_thing file a && may_answer a) (may_report a) four.0 in
      (and_parts (names_thing file a) (may_answer a) three.0, (three.1, four.1))

  -- where each answer keeps them, none is the first that breaks one of them
  none_first : list_all (keeps_answer file) (list_in (codes "answers") file) ≡ true → (test : Data → Bool) → ((a : Data) → keeps_answer file a ≡ true → test a ≡ true)
      → first_item (codes "answers") test file ≡ None
  none_first e test h =
      let answers = list_in (codes "answers") file in ap (option_map (item_place (codes "answers"))) (none_in_script test answers (weaker (keeps_answer file) test h answers e))

  pub replies_valid : list_all (keeps_answer file) (list_in (codes "answers") file) ≡ true → first_of reply_rules file ≡ None
  replies_valid e =
      ap (λ o. option_or (option_map (broken_at 18) o) (first_of answer_rules file)) (none_first e (names_sources file) (λ a k. (parts_of a k).1.1))
      ∙ ap (λ o. option_or (option_map (broken_at 20) o) (first_of (drop 1 answer_rules) file)) (none_first e (names_thing file) (λ a k. (parts_of a k).0.0))
      ∙ ap (λ o. option_or (option_map (broken_at 21) o) (first_of (drop 2 answer_rules) file)) (none_first e may_answer (λ a k. (parts_of a k).0.1))
      ∙ ap (λ o. option_or (option_map (broken_at 22) o) None) (none_first e may_report (λ a k. (parts_of a k).1.0))

  -- where none of these rules is broken, each answer keeps them
  pub replies_pass : first_of reply_rules file ≡ None → list_all (keeps_answer file) (list_in (codes "answers") file) ≡ true
  replies_pass e =
      let answers = list_in (codes "answers") file in
      let one = or_none (option_map (broken_at 18) (sourceless_report file)) (first_of answer_rules file) e in
      let two = or_none (option_map (broken_at 20) (thingless_answer file)) (first_of (drop 1 answer_rules) file) one.1 in
      let three = or_none (option_map (broken_at 21) (forbidden_ret file)) (first_of (drop 2 answer_rules) file) two.1 in
      let four = or_none (option_map (broken_at 22) (forbidden_reports file)) None three.1 in
      both_tests (λ a. names_thing file a && may_answer a && may_report a) (names_sources file) answers
      (both_tests (λ a. names_thing file a && may_answer a) may_report answers
      (both_tests (names_thing file) may_answer answers
      (each_item (codes "answers") (names_thing file) file (none_left (broken_at 20) (thingless_answer file) two.0))
      (each_item (codes "answers") may_answer file (none_left (broken_at 21) (forbidden_ret file) three.0)))
      (each_item (codes "answers") may_report file (none_left (broken_at 22) (forbidden_reports file) four.0)))
      (each_item (codes "answers") (names_sources file) file (none_left (broken_at 18) (sourceless_report file) one.0))
