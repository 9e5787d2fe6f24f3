-- The answers of callbacks: their rules, and what they spell.
use Rattle.std.specs.Prelude.{ℕ, List, [], ◌∷◌, length, codes, Bool, not, ◌&&◌, ◌||◌, ℤ, pos, neg_ℤ, bytes_eq, nat_le, map, Option, option_map, unwrap_or, is_some, is_none, if◌then◌else◌}
use Rattle.std.specs.List.{list_any, list_all, find}
use Rattle.serde_json.specs.Data.{Data}
use Rattle.serde_json.specs.Find.{get}
use Rattle.sleep_base.specs.declared.errno.Errno.TheVariants.{EIO, EAGAIN, EBUSY, ENODEV, EINVAL}
use Rattle.sleep_base.specs.Errno.{name_of as error_name, number_of}
use Rattle.sleep_model.specs.declared.machine.Answer.{Answer}
use Rattle.sleep_model.specs.declared.machine.PlatDo.{PlatDo}
use Rattle.sleep_model.specs.declared.machine.PlatDo.TheVariants as step
use Rattle.sleep_model.specs.declared.machine.Report.{Report}
use Rattle.sleep_model.specs.declared.machine.SourceCall.{SourceCall}
use Rattle.sleep_model.specs.declared.machine.SourceCall.TheVariants as call
use Rattle.sleep_model.specs.declared.machine.What.{What}
use Rattle.sleep_model.specs.declared.machine.What.TheVariants.{Device, Syscore, Notifier, Platform}
use Rattle.phase_table.specs.declared.phase.Phase.{Phase}
use Rattle.phase_table.specs.declared.phase.Phase.TheVariants as phase
use Rattle.sleep_model.specs.Answers.{errors, is_for}
use Rattle.phase_table.specs.Phases.{phase_name}
use Rattle.sleep_model.specs.Text.{down_word}
use Rattle.borrowed_json.specs.Look.{is_number, is_text, text_at, may_have, has_text, list_in, number_at, is_one_of}
use Rattle.file_rules.specs.Places.{first_item, first_later_item}
use Rattle.file_rules.specs.Names.{is_among_names, texts_in, names_in, devices_named, sources_named}
use Rattle.file_rules.specs.Spelled.{index_among}
use Rattle.file_rules.specs.Operations.{names_source, ms_of, says}
use Rattle.file_rules.specs.Rules.{name_of}

-- ---- things that answer

-- the steps of the platform that answer (struct platform_suspend_ops)
abbrev pub platform_steps : List PlatDo
platform_steps = step.Begin ∷ step.Prepare ∷ step.PrepareLate ∷ []

-- the phases in which a device answers (struct dev_pm_ops)
abbrev pub answering_phases : List Phase
answering_phases = phase.Prepare ∷ phase.Suspend ∷ phase.Late ∷ phase.Noirq ∷ phase.ResumeNoirq ∷ phase.Early ∷ phase.Resume ∷ []

-- it is of a device
abbrev pub is_of_device : Data → Bool
is_of_device a = has_text (codes "what") (codes "device") a

-- the names of the things of its kind
abbrev pub names_of_kind : Data → Data → List (List ℕ)
names_of_kind file a =
    if is_of_device a then devices_named file else if has_text (codes "what") (codes "syscore") a then texts_in (codes "syscore") file
    else if has_text (codes "what") (codes "notifier") a then names_in (codes "notifiers") file
    else map down_word platform_steps

-- it names a phase exactly if it is of a device
abbrev pub has_its_phase : Data → Bool
has_its_phase a = if is_of_device a then is_some (get (codes "phase") a) else is_none (get (codes "phase") a)

-- it names a thing that is there
abbrev pub names_thing : Data → Data → Bool
names_thing file a = is_among_names (names_of_kind file a) (name_of a) && has_its_phase a

-- the place of an answer that is of nothing there
abbrev pub thingless_answer : Data → Option (List ℕ)
thingless_answer file = first_item (codes "answers") (names_thing file) file

-- ---- what is answered

-- it is of a device's prepare, and only that may answer 1 (device_prepare)
abbrev pub is_of_prepare : Data → Bool
is_of_prepare a = is_of_device a && has_text (codes "phase") (codes "prepare") a

-- the errors that everything may answer
abbrev pub common_errors : List (List ℕ)
common_errors = map error_name (EIO ∷ EBUSY ∷ ENODEV ∷ EINVAL ∷ [])

-- 0 and the common errors; besides these prepare may answer 1, and the others EAGAIN
abbrev pub is_ret_allowed : Data → Data → Bool
is_ret_allowed a ret = is_number 0 ret || is_one_of common_errors ret || (if is_of_prepare a then is_number 1 ret else is_text (error_name EAGAIN) ret)

-- the place of an answer whose number or error is not allowed
abbrev pub forbidden_ret : Data → Option (List ℕ)
forbidden_ret file = first_item (codes "answers") (λ a. may_have (codes "ret") (is_ret_allowed a) a) file

-- none at all; or at most 16, in a device's phase other than prepare
abbrev pub may_report : Data → Bool
may_report a = nat_le (length (list_in (codes "reports") a)) (if is_of_device a && not (is_of_prepare a) then 16 else 0)

-- the place of an answer with reports that it may not have
abbrev pub forbidden_reports : Data → Option (List ℕ)
forbidden_reports file = first_item (codes "answers") may_report file

-- the place of a report that names a source which is not there
abbrev pub sourceless_report : Data → Option (List ℕ)
sourceless_report file = first_item (codes "answers") (λ a. list_all (names_source (sources_named file)) (list_in (codes "reports") a)) file

-- the same text at a member, or none at both
abbrev pub is_same_at : List ℕ → Data → Data → Bool
is_same_at member a b = bytes_eq (text_at member a) (text_at member b)

-- an answer of the same thing, in the same phase and for the same attempt
abbrev pub is_same_answer : Data → Data → Bool
is_same_answer a b =
    is_same_at (codes "what") a b && is_same_at (codes "name") a b && is_same_at (codes "phase") a b && is_for (number_at (codes "attempt") a) (number_at (codes "attempt") b)

-- the place of an answer that comes a second time
abbrev pub repeated_answer : Data → Option (List ℕ)
repeated_answer file = first_later_item (codes "answers") (λ before a. not (list_any (is_same_answer a) before)) file

-- ---- the answers that are spelled

-- the phase that a word is; Prepare if it is none, which the rules refuse
abbrev pub phase_of : Data → Phase
phase_of a = unwrap_or (find (λ p. has_text (codes "phase") (phase_name p) a) answering_phases) phase.Prepare

-- the platform's step that a name is; Begin if it is none, which the rules refuse
abbrev pub step_of : Data → PlatDo
step_of a = unwrap_or (find (λ s. has_text (codes "name") (down_word s) a) platform_steps) step.Begin

-- the thing that it is of
abbrev pub thing_of : Data → Data → What
thing_of file a =
    let place = index_among (names_of_kind file a) (name_of a) in
    if is_of_device a then Device place (phase_of a) else if has_text (codes "what") (codes "syscore") a then Syscore place
    else if has_text (codes "what") (codes "notifier") a then Notifier place
    else Platform (step_of a)

-- the error's number below 0 if a text is given; the number that is given; and else 0
abbrev pub ret_of : Data → ℤ
ret_of a =
    unwrap_or (option_map (λ e. neg_ℤ (pos (number_of e))) (find (λ e. has_text (codes "ret") (error_name e) a) errors)) (pos (unwrap_or (number_at (codes "ret") a) 0))

-- the call of a report
abbrev pub call_of : Data → SourceCall
call_of r = if has_text (codes "call") (codes "awake") r then call.Awake else if has_text (codes "call") (codes "relax") r then call.Relax else call.Event (ms_of r) (says (codes "hard") r)

-- a report, if the sources have these names
abbrev pub whole_report : List (List ℕ) → Data → Report
whole_report sources r = record { source = index_among sources (text_at (codes "source") r); call = call_of r }

-- an answer
abbrev pub whole_answer : Data → Data → Answer
whole_answer file a =
    record {
      what = thing_of file a;
      attempt = number_at (codes "attempt") a;
      ret = ret_of a;
      reports = map (whole_report (sources_named file)) (list_in (codes "reports") a);
    }

-- the answers of a file
abbrev pub whole_answers : Data → List Answer
whole_answers file = map (whole_answer file) (list_in (codes "answers") file)
