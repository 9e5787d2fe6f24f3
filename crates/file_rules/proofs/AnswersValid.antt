-- That the answers of a file that keeps the rules are such as a machine may have.
use Rattle.std.proofs.Common.{◌≡◌, ◌<◌, ◌≤◌, ◌∙◌, ◌&&◌, ◌||◌, ◌==◌, ◌⊎◌, inl, inr, if◌then◌else◌, ℕ, zero, suc, cond, Bool, true, false, pos, List, [], ◌∷◌, length, map, drop, get_or, codes, unwrap_or, option_and_then, Option, Some, None, refl, sym, arith}
use Rattle.std.specs.Prelude.{neg_ℤ, not, nat_le}
use Rattle.std.specs.List.{list_all, find}
use Rattle.std.specs.Option.{option_map, option_or}
use Rattle.std.proofs.lemmas.Bool.{and_from, and_parts, or_cases, or_left, or_right, leb-true, false≢true}
use Rattle.std.proofs.lemmas.List.{length-map}
use Rattle.serde_json.specs.Data.{Data, null, boolean, number, string, array, object, no_items}
use Rattle.serde_json.specs.Find.{get, as_number, as_u64, as_str, as_array}
use Rattle.sleep_base.specs.Errno.{name_of as error_name, number_of}
use Rattle.sleep_base.specs.declared.errno.Errno.{Errno}
use Rattle.sleep_base.specs.declared.errno.Errno.TheVariants.{EINTR}
use Rattle.phase_table.specs.declared.phase.Phase.{Phase}
use Rattle.phase_table.specs.declared.phase.Phase.TheVariants as phase
use Rattle.phase_table.specs.Phases.{phase_name}
use Rattle.sleep_model.specs.declared.machine.Machine.{Machine}
use Rattle.sleep_model.specs.declared.machine.PlatDo.{PlatDo}
use Rattle.sleep_model.specs.declared.machine.What.{What}
use Rattle.sleep_model.specs.declared.machine.What.TheVariants.{Device, Syscore, Notifier, Platform}
use Rattle.sleep_model.specs.declared.machine.SourceCall.TheVariants as call
use Rattle.sleep_model.specs.Accepted.{AreAnswers, AreReports, IsReport, IsThing, is_one_allowed, is_ret_of}
use Rattle.sleep_model.specs.Answers.{errors}
use Rattle.sleep_model.specs.Text.{down_word}
use Rattle.borrowed_json.specs.Look.{is_some_and, is_none_or, is_number, is_text, has_only, must_have, may_have, has_text, items_of, list_in, number_at, is_string, is_one_of, is_within, is_truth}
use Rattle.file_rules.specs.Members.{answer_members, report_members}
use Rattle.file_rules.specs.Places.{item_place, first_item}
use Rattle.file_rules.specs.Form.{Named, row, first_in_lists, item_forms, unformed_item, is_time, is_ret_form, is_plain_report, is_event_report, is_report_form, are_reports, is_answer_form, answerers, phases}
use Rattle.file_rules.specs.Names.{is_among_names, names_in, texts_in, devices_named, sources_named}
use Rattle.file_rules.specs.Rules.{is_second, name_of}
use Rattle.file_rules.specs.Spelled.{index_among}
use Rattle.file_rules.specs.Devices.{whole_device}
use Rattle.file_rules.specs.Operations.{names_source, ms_of, says}
use Rattle.file_rules.specs.Answering.{thingless_answer, forbidden_ret, forbidden_reports, sourceless_report, names_thing, names_of_kind, has_its_phase, is_of_device, is_of_prepare, is_ret_allowed, common_errors, may_report, thing_of, phase_of, step_of, answering_phases, platform_steps, call_of, whole_report, whole_answer}
use Rattle.file_rules.specs.Whole.{whole_machine, whole_notifier}
use Rattle.file_rules.proofs.Fitted.{absent}
use Rattle.file_rules.proofs.Freshly.{all_pass, place_within}
use Rattle.file_rules.proofs.LinksValid.{none_of}
use Rattle.file_rules.proofs.ScriptsValid.{number_in, or_most}

-- ---- the form of the items

either_none : {A : Type 0} (o q : Option A) → option_or o q ≡ None → (o ≡ None) × (q ≡ None)
either_none None q e = (refl, e)
either_none (Some x) q e = cc

-- each list's items have their form, if none is the first that has not
pub lists_pass : (rows : List (Named (Data → Bool))) (r : Named (Data → Bool)) (file : Data) (i : ℕ) → i < length rows → first_in_lists rows file ≡ None →
    list_all (get_or rows i r).is (list_in (get_or rows i r).name file) ≡ true
lists_pass [] r file i h e = absurd (omega arith)
lists_pass (k ∷ rows) r file zero h e =
    all_pass k.is (list_in k.name file) (none_of (item_place k.name) _ (either_none (first_item k.name k.is file) (first_in_lists rows file) e).0)
lists_pass (k ∷ rows) r file (suc i) h e = lists_pass rows r file i (omega arith) (either_none (first_item k.name k.is file) (first_in_lists rows file) e).1

answers_formed : (d : Data) → unformed_item d ≡ None → list_all is_answer_form (list_in (codes "answers") d) ≡ true
answers_formed d e = lists_pass (item_forms (is_second d)) (row (codes "answers") is_answer_form) d 6 (omega arith) e

-- ---- things

-- the names of one kind
abbrev of_kind : Bool → Bool → Bool → (devices syscore notifiers others : List (List ℕ)) → List (List ℕ)
of_kind is_device is_syscore is_notifier devices syscore notifiers others =
    if is_device then devices else if is_syscore then syscore else if is_notifier then notifiers else others

-- the thing is there, if its name is one of its kind's
thing_case : (m : Machine) (is_device is_syscore is_notifier : Bool) (devices syscore notifiers others : List (List ℕ)) (name : List ℕ) (p : Phase) (s : PlatDo) →
    length devices ≡ length m.devices → length syscore ≡ length m.syscore → length notifiers ≡ length m.notifiers →
    is_among_names (of_kind is_device is_syscore is_notifier devices syscore notifiers others) name ≡ true →
    IsThing m (if is_device then Device (index_among (of_kind is_device is_syscore is_notifier devices syscore notifiers others) name) p
    else if is_syscore then Syscore (index_among (of_kind is_device is_syscore is_notifier devices syscore notifiers others) name)
    else if is_notifier then Notifier (index_among (of_kind is_device is_syscore is_notifier devices syscore notifiers others) name)
    else Platform s)
thing_case m true y n devices syscore notifiers others name p s c k l e = let w = place_within devices name e in omega arith
thing_case m false true n devices syscore notifiers others name p s c k l e = let w = place_within syscore name e in omega arith
thing_case m false false true devices syscore notifiers others name p s c k l e = let w = place_within notifiers name e in omega arith
thing_case m false false false devices syscore notifiers others name p s c k l e = tt

-- ---- numbers

-- a text is no number
pub text_no_number : (test : List ℕ → Bool) (r : Data) → is_some_and test (as_str r) ≡ true → option_and_then as_u64 (as_number r) ≡ None
text_no_number test null e = refl
text_no_number test (boolean b) e = refl
text_no_number test (number n) e = absurd (false≢true e)
text_no_number test (string s) e = refl
text_no_number test (array ds) e = refl
text_no_number test (object ms) e = refl

-- 0, or 1 if that is allowed
abbrev is_plain : Bool → Option ℕ → Bool
is_plain allowed o = unwrap_or o 0 == 0 || (unwrap_or o 0 == 1 && allowed)

zero_plain : (o : Option ℕ) (allowed : Bool) → is_some_and (λ k. k == 0) o ≡ true → is_plain allowed o ≡ true
zero_plain None allowed e = absurd (false≢true e)
zero_plain (Some k) allowed e = or_left (k == 0) (k == 1 && allowed) e

one_plain : (o : Option ℕ) (allowed : Bool) → allowed ≡ true → is_some_and (λ k. k == 1) o ≡ true → is_plain allowed o ≡ true
one_plain None allowed f e = absurd (false≢true e)
one_plain (Some k) allowed f e = or_right (k == 0) (k == 1 && allowed) (and_from (k == 1) allowed e f)

none_plain : (o : Option ℕ) (allowed : Bool) → o ≡ None → is_plain allowed o ≡ true
none_plain None allowed e = refl
none_plain (Some k) allowed e = cc

last_plain : (prepare allowed : Bool) (r : Data) → (prepare ≡ true → allowed ≡ true) → (if prepare then is_number 1 r else is_text (codes "EAGAIN") r) ≡ true →
    is_plain allowed (option_and_then as_u64 (as_number r)) ≡ true
last_plain true allowed r f e = one_plain (option_and_then as_u64 (as_number r)) allowed (f refl) e
last_plain false allowed r f e = none_plain (option_and_then as_u64 (as_number r)) allowed (text_no_number _ r e)

ret_plain : (prepare allowed : Bool) (r : Data) → (prepare ≡ true → allowed ≡ true) →
    (is_number 0 r || is_one_of common_errors r || (if prepare then is_number 1 r else is_text (codes "EAGAIN") r)) ≡ true → is_plain allowed (option_and_then as_u64 (as_number r)) ≡ true
ret_plain prepare allowed r f e = first (or_cases (is_number 0 r || is_one_of common_errors r) (if prepare then is_number 1 r else is_text (codes "EAGAIN") r) e)
  where
    second : ((is_number 0 r ≡ true) ⊎ (is_one_of common_errors r ≡ true)) → is_plain allowed (option_and_then as_u64 (as_number r)) ≡ true
    second (inl z) = zero_plain (option_and_then as_u64 (as_number r)) allowed z
    second (inr w) = none_plain (option_and_then as_u64 (as_number r)) allowed (text_no_number _ r w)

    first : (((is_number 0 r || is_one_of common_errors r) ≡ true) ⊎ ((if prepare then is_number 1 r else is_text (codes "EAGAIN") r) ≡ true)) →
        is_plain allowed (option_and_then as_u64 (as_number r)) ≡ true
    first (inl b) = second (or_cases (is_number 0 r) (is_one_of common_errors r) b)
    first (inr l) = last_plain prepare allowed r f l

-- each error may be answered
error_allowed : (thing : What) (e : Errno) → is_ret_of thing (neg_ℤ (pos (number_of e))) ≡ true
error_allowed thing EINTR = refl
error_allowed thing _ = refl

ret_case : (thing : What) (prepare : Bool) (found : Option Errno) (o : Option Data) → (prepare ≡ true → is_one_allowed thing ≡ true) →
    is_none_or (λ r. is_number 0 r || is_one_of common_errors r || (if prepare then is_number 1 r else is_text (codes "EAGAIN") r)) o ≡ true →
    is_ret_of thing (unwrap_or (option_map (λ e. neg_ℤ (pos (number_of e))) found) (pos (unwrap_or (option_and_then as_u64 (option_and_then as_number o)) 0))) ≡ true
ret_case thing prepare (Some e) o f h = error_allowed thing e
ret_case thing prepare None None f h = refl
ret_case thing prepare None (Some r) f h = ret_plain prepare (is_one_allowed thing) r f h

one_case : (is_device is_prepare : Bool) (place : ℕ) (rest : Option Phase) (other : What) → (is_device && is_prepare) ≡ true →
    is_one_allowed (if is_device then Device place (unwrap_or (cond is_prepare (Some phase.Prepare) rest) phase.Prepare) else other) ≡ true
one_case true true place rest other e = refl
one_case true false place rest other e = absurd (false≢true e)
one_case false p place rest other e = absurd (false≢true e)

-- ---- reports

few_case : (b : Bool) (n : ℕ) → nat_le n (if b then 16 else 0) ≡ true → n ≤ 16
few_case true n e = leb-true n 16 e
few_case false n e = let z = leb-true n 0 e in omega arith

pub reports_formed : (o : Option Data) → is_none_or are_reports o ≡ true → list_all is_report_form (items_of (unwrap_or (option_and_then as_array o) no_items)) ≡ true
reports_formed None e = refl
reports_formed (Some null) e = absurd (false≢true e)
reports_formed (Some (boolean b)) e = absurd (false≢true e)
reports_formed (Some (number n)) e = absurd (false≢true e)
reports_formed (Some (string s)) e = absurd (false≢true e)
reports_formed (Some (array ds)) e = e
reports_formed (Some (object ms)) e = absurd (false≢true e)

source_case : (sources : List (List ℕ)) (o : Option Data) → is_some_and is_string o ≡ true → is_none_or (is_among_names sources) (option_and_then as_str o) ≡ true →
    index_among sources (unwrap_or (option_and_then as_str o) []) < length sources
source_case sources None e h = absurd (false≢true e)
source_case sources (Some null) e h = absurd (false≢true e)
source_case sources (Some (boolean b)) e h = absurd (false≢true e)
source_case sources (Some (number n)) e h = absurd (false≢true e)
source_case sources (Some (string s)) e h = place_within sources s h
source_case sources (Some (array ds)) e h = absurd (false≢true e)
source_case sources (Some (object ms)) e h = absurd (false≢true e)

-- the event of a report ends within a day
report_ms : (r : Data) → is_report_form r ≡ true → ms_of r ≤ 86400000
report_ms r e = by (or_cases (is_plain_report r) (is_event_report r) (and_parts (must_have (codes "source") is_string r) (is_plain_report r || is_event_report r) e).1)
  where
    none_ms : (o : Option Data) → o ≡ None → unwrap_or (option_and_then as_u64 (option_and_then as_number o)) 0 ≤ 86400000
    none_ms None e = omega arith
    none_ms (Some v) e = absurd (cc)

    by : ((is_plain_report r ≡ true) ⊎ (is_event_report r ≡ true)) → ms_of r ≤ 86400000
    by (inl h) =
        none_ms (get (codes "ms") r) (absent (codes "call" ∷ codes "source" ∷ []) (codes "ms") r
        (and_parts (has_only (codes "call" ∷ codes "source" ∷ []) r) (must_have (codes "call") (is_one_of (codes "awake" ∷ codes "relax" ∷ [])) r) h).0 refl)
    by (inr h) =
        let front = has_only report_members r && has_text (codes "call") (codes "event") r in
        let ms = may_have (codes "ms") (is_time 0) r in
        or_most 0 86400000 0 (number_at (codes "ms") r)
        (number_in 0 86400000 (get (codes "ms") r) (and_parts front ms (and_parts (front && ms) (may_have (codes "hard") is_truth r) h).0).1) (omega arith)

-- the call of a report is one that a callback may make
report_call : (r : Data) → ms_of r ≤ 86400000 → IsReport (call_of r)
report_call r e = by (has_text (codes "call") (codes "awake") r) (has_text (codes "call") (codes "relax") r) (says (codes "hard") r)
  where
    by : (awake relax hard : Bool) → IsReport (if awake then call.Awake else if relax then call.Relax else call.Event (ms_of r) hard)
    by true relax hard = tt
    by false true hard = tt
    by false false hard = e

-- each report is of a source that is there
are_reports_valid : (m : Machine) (sources : List (List ℕ)) (rs : List Data) → length sources ≡ length m.sources → list_all is_report_form rs ≡ true →
    list_all (names_source sources) rs ≡ true → AreReports m (map (whole_report sources) rs)
are_reports_valid m sources [] c e h = tt
are_reports_valid m sources (r ∷ rs) c e h =
    let form = and_parts (is_report_form r) (list_all is_report_form rs) e in
    let named = and_parts (names_source sources r) (list_all (names_source sources) rs) h in
    let source = (and_parts (must_have (codes "source") is_string r) (is_plain_report r || is_event_report r) form.0).0 in
    let within = source_case sources (get (codes "source") r) source named.0 in
    (omega (arith, c, within), report_call r (report_ms r form.0), are_reports_valid m sources rs c form.1 named.1)

-- ---- answers

-- what the rules say of an answer
record IsValidAnswer (file a : Data) : Type 0 where
  form : is_answer_form a ≡ true
  thing : names_thing file a ≡ true
  ret : may_have (codes "ret") (is_ret_allowed a) a ≡ true
  few : may_report a ≡ true
  sources : list_all (names_source (sources_named file)) (list_in (codes "reports") a) ≡ true

-- as many things as names
record Counts (m : Machine) (file : Data) : Type 0 where
  devices : length (devices_named file) ≡ length m.devices
  syscore : length (texts_in (codes "syscore") file) ≡ length m.syscore
  notifiers : length (names_in (codes "notifiers") file) ≡ length m.notifiers
  sources : length (sources_named file) ≡ length m.sources

module _ (m : Machine) (file : Data) (counts : Counts m file) where
  module _ (a : Data) (kept : IsValidAnswer file a) where
    is_thing : IsThing m (thing_of file a)
    is_thing =
        thing_case m (is_of_device a) (has_text (codes "what") (codes "syscore") a) (has_text (codes "what") (codes "notifier") a) (devices_named file) (texts_in (codes "syscore") file)
        (names_in (codes "notifiers") file) (map down_word platform_steps) (name_of a) (phase_of a) (step_of a) counts.devices counts.syscore counts.notifiers
        (and_parts (is_among_names (names_of_kind file a) (name_of a)) (has_its_phase a) kept.thing).0

    one_allowed : is_of_prepare a ≡ true → is_one_allowed (thing_of file a) ≡ true
    one_allowed e =
        one_case (is_of_device a) (has_text (codes "phase") (codes "prepare") a) (index_among (names_of_kind file a) (name_of a))
        (find (λ p. has_text (codes "phase") (phase_name p) a) (drop 1 answering_phases))
        (if has_text (codes "what") (codes "syscore") a then Syscore (index_among (names_of_kind file a) (name_of a))
        else if has_text (codes "what") (codes "notifier") a then Notifier (index_among (names_of_kind file a) (name_of a))
        else Platform (step_of a)) e

    is_ret : is_ret_of (thing_of file a) (whole_answer file a).ret ≡ true
    is_ret = ret_case (thing_of file a) (is_of_prepare a) (find (λ e. has_text (codes "ret") (error_name e) a) errors) (get (codes "ret") a) one_allowed kept.ret

    few_reports : length (whole_answer file a).reports ≤ 16
    few_reports =
        let n = length-map (list_in (codes "reports") a) (whole_report (sources_named file)) in
        let f = few_case (is_of_device a && not (is_of_prepare a)) (length (list_in (codes "reports") a)) kept.few in
        omega (arith, n, f)

    reports : AreReports m (whole_answer file a).reports
    reports =
        are_reports_valid m (sources_named file) (list_in (codes "reports") a) counts.sources
        (reports_formed (get (codes "reports") a)
        (and_parts (has_only answer_members a && must_have (codes "what") (is_one_of answerers) a && must_have (codes "name") is_string a && may_have (codes "phase") (is_one_of phases) a
        && may_have (codes "attempt") (is_within 1 1000) a && may_have (codes "ret") is_ret_form a) (may_have (codes "reports") are_reports a) kept.form).1)
        kept.sources

  are_answers : (given : List Data) → list_all is_answer_form given ≡ true → list_all (names_thing file) given ≡ true → list_all (λ a. may_have (codes "ret") (is_ret_allowed a) a) given ≡ true →
      list_all may_report given ≡ true → list_all (λ a. list_all (names_source (sources_named file)) (list_in (codes "reports") a)) given ≡ true → AreAnswers m (map (whole_answer file) given)
  are_answers [] f t r w s = tt
  are_answers (a ∷ rest) f t r w s =
      let form = and_parts (is_answer_form a) (list_all is_answer_form rest) f in
      let thing = and_parts (names_thing file a) (list_all (names_thing file) rest) t in
      let ret = and_parts (may_have (codes "ret") (is_ret_allowed a) a) (list_all (λ b. may_have (codes "ret") (is_ret_allowed b) b) rest) r in
      let few = and_parts (may_report a) (list_all may_report rest) w in
      let sources = and_parts (list_all (names_source (sources_named file)) (list_in (codes "reports") a)) (list_all (λ b. list_all (names_source (sources_named file)) (list_in (codes "reports") b)) rest) s in
      let kept : IsValidAnswer file a = record { form = form.0; thing = thing.0; ret = ret.0; few = few.0; sources = sources.0 } in
      (is_thing a kept, is_ret a kept, few_reports a kept, reports a kept, are_answers rest form.1 thing.1 ret.1 few.1 sources.1)

-- the machine of a file has as many things as the file names
counted : (d : Data) → Counts (whole_machine d) d
counted d = record {
  devices = length-map (list_in (codes "devices") d) name_of ∙ sym (length-map (list_in (codes "devices") d) (whole_device (devices_named d)));
  syscore = refl;
  notifiers = length-map (list_in (codes "notifiers") d) name_of ∙ sym (length-map (list_in (codes "notifiers") d) whole_notifier);
  sources = refl;
}

-- a file that keeps the rules on answers spells such as a machine may have
pub answers_valid : (d : Data) → unformed_item d ≡ None → thingless_answer d ≡ None → forbidden_ret d ≡ None → forbidden_reports d ≡ None → sourceless_report d ≡ None →
    AreAnswers (whole_machine d) (whole_machine d).answers
answers_valid d form thing ret few sources =
    let given = list_in (codes "answers") d in
    let place = item_place (codes "answers") in
    are_answers (whole_machine d) d (counted d) given (answers_formed d form) (all_pass (names_thing d) given (none_of place _ thing))
    (all_pass (λ a. may_have (codes "ret") (is_ret_allowed a) a) given (none_of place _ ret)) (all_pass may_report given (none_of place _ few))
    (all_pass (λ a. list_all (names_source (sources_named d)) (list_in (codes "reports") a)) given (none_of place _ sources))
