-- The tests of answers, by name.
use Rattle.std.specs.Prelude.{ℕ, List, Bool, ◌&&◌, codes, map, if◌then◌else◌}
use Rattle.std.specs.List.{list_all}
use Rattle.serde_json.specs.Data.{Data}
use Rattle.sleep_model.specs.declared.machine.Answer.{Answer}
use Rattle.sleep_model.specs.declared.machine.What.{What}
use Rattle.sleep_model.specs.declared.machine.What.TheVariants as what
use Rattle.sleep_model.specs.Text.{down_word}
use Rattle.file_rules.specs.declared.rules.answers.AnswerTest.{AnswerTest}
use Rattle.file_rules.specs.declared.rules.answers.AnswerTest.TheVariants as test
use Rattle.file_rules.specs.declared.names.known.Known.{Known}
use Rattle.file_rules.specs.Knows.{names, texts}
use Rattle.borrowed_json.specs.Look.{may_have, has_text, list_in, number_at}
use Rattle.file_rules.specs.Names.{is_among_names}
use Rattle.file_rules.specs.Operations.{names_source}
use Rattle.file_rules.specs.Spelled.{index_among}
use Rattle.file_rules.specs.Rules.{name_of}
use Rattle.file_rules.specs.Answering.{is_of_device, has_its_phase, is_ret_allowed, may_report, platform_steps, phase_of, step_of, ret_of, whole_report}

-- the names of the things of an answer's kind
abbrev pub kind_names : Known → Data → List (List ℕ)
kind_names k a =
    if is_of_device a then names k.devices else if has_text (codes "what") (codes "syscore") a then texts k.syscore
    else if has_text (codes "what") (codes "notifier") a then texts k.notifiers
    else map down_word platform_steps

-- a test of an answer
abbrev pub answer_test : AnswerTest → Known → Data → Bool
answer_test test.Thing k a = is_among_names (kind_names k a) (name_of a) && has_its_phase a
answer_test test.Ret k a = may_have (codes "ret") (is_ret_allowed a) a
answer_test test.Reports k a = may_report a
answer_test test.Sources k a = list_all (names_source (texts k.sources)) (list_in (codes "reports") a)

-- an answer keeps each rule on one answer, by the names that are known
abbrev pub is_valid_answer : Known → Data → Bool
is_valid_answer k a = answer_test test.Thing k a && answer_test test.Ret k a && answer_test test.Reports k a && answer_test test.Sources k a

-- the thing that an answer is of, by the names that are known
abbrev pub thing_seen : Known → Data → What
thing_seen k a =
    let place = index_among (kind_names k a) (name_of a) in
    if is_of_device a then what.Device place (phase_of a) else if has_text (codes "what") (codes "syscore") a then what.Syscore place
    else if has_text (codes "what") (codes "notifier") a then what.Notifier place
    else what.Platform (step_of a)

-- an answer, by the names that are known
abbrev pub answer_made : Known → Data → Answer
answer_made k a =
    record { what = thing_seen k a; attempt = number_at (codes "attempt") a; ret = ret_of a; reports = map (whole_report (texts k.sources)) (list_in (codes "reports") a) }
