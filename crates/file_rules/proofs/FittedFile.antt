-- That a file that breaks no rule has room in a machine.
use Rattle.std.proofs.Common.{◌≡◌, ◌<◌, ◌≤◌, ◌+◌, ◌*◌, ◌∙◌, ◌&&◌, ◌||◌, ◌==◌, ◌++◌, ◌⊎◌, inl, inr, ℕ, suc, Bool, true, false, if◌then◌else◌, nat_le, sum_by, List, [], ◌∷◌, length, map, flat_map, codes, option_and_then, IfSome, Option, Some, None, refl, ap, arith, length-append}
use Rattle.std.specs.List.{All, list_all, cons_option}
use Rattle.std.specs.Option.{option_or}
use Rattle.std.proofs.lemmas.Bool.{and_parts, and_from, or_cases, eqb-true, lt-leb}
use Rattle.std.proofs.lemmas.List.Elements.{All-nil, All-cons}
use Rattle.std.proofs.lemmas.List.Folds.{list_all-append}
use Rattle.std.proofs.lemmas.List.Sums.{sum_by-cons}
use Rattle.std.proofs.lemmas.Nat.{mul-le}
use Rattle.serde_json.specs.Data.{Data}
use Rattle.serde_json.specs.Find.{get, as_number, as_u64}
use Rattle.sleep_base.specs.Errno.{name_of as error_name}
use Rattle.sleep_model.specs.Answers.{errors}
use Rattle.borrowed_json.specs.Look.{has_only, is_some_and, is_none_or, is_list, is_number, text_of, must_have, may_have, has_text, list_in, word_at, is_string, is_truth, is_within, is_bounded, is_one_of}
use Rattle.file_rules.specs.Members.{actor_members, answer_members, report_members, notifier_members}
use Rattle.file_rules.specs.Form.{Named, is_time, is_notifier_form, is_actor_form, kinds, answerers, phases, is_ret_form, is_plain_report, is_event_report, is_report_form, are_reports, is_answer_form, item_forms, member_forms}
use Rattle.file_rules.specs.Names.{spells_name, names_of_device, own_name, item_names, is_among_names}
use Rattle.file_rules.specs.Rules.{is_second}
use Rattle.sleep_model.specs.NameBytes.{is_name}
use Rattle.file_rules.specs.Operations.{is_formed, marks_of, first_occurrences, unformed_operation, whole_marks}
use Rattle.file_rules.specs.Limits.{times_of, repeat_of, times_if, script_steps, all_steps, most_attempts, are_links_few, are_reports_few, too_much}
use Rattle.file_rules.specs.Places.{first_item, unless}
use Rattle.file_rules.specs.Whole.{rules, first_broken}
use Rattle.file_rules.specs.Fitting.{IsShort, HasShortName, FitsAt, FitsNotifier, FitsScript, HasPlainRet, FitsAnswer, FitsFile}
use Rattle.file_rules.specs.Groups.{form_rules}
use Rattle.file_rules.specs.ValidFiles.{broken_form}
use Rattle.file_rules.proofs.Accepted.{keeps_all, all_pass}
use Rattle.file_rules.proofs.AnswersValid.{text_no_number, reports_formed}
use Rattle.file_rules.proofs.ScriptsValid.{EachList, each_list, each_item, each_operation, steps_few}
use Rattle.file_rules.proofs.Fitted.{absent_fits, within_fits, least_or, short_text, short_name, short_spelled, plain_operation}

-- ---- lists

-- what each item is that passes
all_passed : {X Y : Type 0} (P : Y → Type 0) (f : X → Y) (test : X → Bool) → ((x : X) → test x ≡ true → P (f x)) → (xs : List X) → list_all test xs ≡ true → All P (map f xs)
all_passed P f test each [] e = All-nil P
all_passed P f test each (x ∷ xs) e =
    let both = and_parts (test x) (list_all test xs) e in
    All-cons P (f x) (map f xs) (each x both.0) (all_passed P f test each xs both.1)

all_of : {X : Type 0} (P : X → Type 0) (test : X → Bool) → ((x : X) → test x ≡ true → P x) → (xs : List X) → list_all test xs ≡ true → All P xs
all_of P test each [] e = All-nil P
all_of P test each (x ∷ xs) e =
    let both = and_parts (test x) (list_all test xs) e in All-cons P x xs (each x both.0) (all_of P test each xs both.1)

-- what each item is that passes both
all_both : {X : Type 0} (P : X → Type 0) (one other : X → Bool) → ((x : X) → one x ≡ true → other x ≡ true → P x) → (xs : List X) → list_all one xs ≡ true → list_all other xs ≡ true → All P xs
all_both P one other each [] e f = All-nil P
all_both P one other each (x ∷ xs) e f =
    let es = and_parts (one x) (list_all one xs) e in
    let fs = and_parts (other x) (list_all other xs) f in
    All-cons P x xs (each x es.0 fs.0) (all_both P one other each xs es.1 fs.1)

-- ---- actors

abbrev is_formed_script : Bool → Data → Bool
is_formed_script second a = list_all (is_formed second a) (list_in (codes "script") a)

repeats : (a : Data) → is_actor_form a ≡ true → may_have (codes "repeat") (is_within 1 1000) a ≡ true
repeats a e =
    let named = has_only actor_members a && must_have (codes "name") is_string a && must_have (codes "kind") (is_one_of kinds) a in
    let repeat = may_have (codes "repeat") (is_within 1 1000) a in
    (and_parts named repeat (and_parts (named && repeat) (may_have (codes "script") is_list a) e).0).1

fits_script : (a : Data) → is_actor_form a ≡ true → own_name a ≡ true → FitsScript a
fits_script a form name = record { name = short_name a name; repeat = within_fits 1 1000 (codes "repeat") a (omega arith) (repeats a form) }

-- ---- marks

script_marks : (second : Bool) (a : Data) (os : List Data) → list_all (is_formed second a) os ≡ true → list_all is_name (marks_of os) ≡ true
script_marks second a [] e = refl
script_marks second a (o ∷ os) e =
    let both = and_parts (is_formed second a o) (list_all (is_formed second a) os) e in
    by (word_at (codes "mark") o) (marks_of os) (plain_operation second a o both.0).mark (script_marks second a os both.1)
  where
    by : (w : Option (List ℕ)) (rest : List (List ℕ)) → is_none_or is_name w ≡ true → list_all is_name rest ≡ true → list_all is_name (cons_option w rest) ≡ true
    by None rest h r = r
    by (Some s) rest h r = and_from (is_name s) (list_all is_name rest) h r

all_marks : (second : Bool) (actors : List Data) → list_all (is_formed_script second) actors ≡ true → list_all is_name (flat_map (λ a. marks_of (list_in (codes "script") a)) actors) ≡ true
all_marks second [] e = refl
all_marks second (a ∷ actors) e =
    let both = and_parts (is_formed_script second a) (list_all (is_formed_script second) actors) e in
    let rest = flat_map (λ b. marks_of (list_in (codes "script") b)) actors in
    list_all-append is_name (marks_of (list_in (codes "script") a)) rest
    ∙ and_from (list_all is_name (marks_of (list_in (codes "script") a))) (list_all is_name rest) (script_marks second a (list_in (codes "script") a) both.0) (all_marks second actors both.1)

-- names that pass, with one more
with_more : (b : Bool) (test : List ℕ → Bool) (found : List (List ℕ)) (name : List ℕ) → list_all test found ≡ true → test name ≡ true →
    list_all test (if b then found else found ++ name ∷ []) ≡ true
with_more true test found name f n = f
with_more false test found name f n =
    list_all-append test found (name ∷ []) ∙ and_from (list_all test found) (list_all test (name ∷ [])) f (and_from (test name) true n refl)

first_pass : (test : List ℕ → Bool) (found names : List (List ℕ)) → list_all test found ≡ true → list_all test names ≡ true → list_all test (first_occurrences found names) ≡ true
first_pass test found [] f n = f
first_pass test found (name ∷ names) f n =
    let both = and_parts (test name) (list_all test names) n in
    first_pass test (if is_among_names found name then found else found ++ name ∷ []) names (with_more (is_among_names found name) test found name f both.0) both.1

-- ---- how many marks

one_more : (b : Bool) (found : List (List ℕ)) (name : List ℕ) → length (if b then found else found ++ name ∷ []) ≤ suc (length found)
one_more true found name = omega arith
one_more false found name = let h = length-append found (name ∷ []) in omega (arith, h)

first_few : (found names : List (List ℕ)) → length (first_occurrences found names) ≤ length found + length names
first_few found [] = omega arith
first_few found (name ∷ names) =
    let more = if is_among_names found name then found else found ++ name ∷ [] in
    let rest : length (first_occurrences more names) ≤ length more + length names = first_few more names in
    let one : length more ≤ suc (length found) = one_more (is_among_names found name) found name in
    omega (arith, rest, one)

marks_few : (os : List Data) → length (marks_of os) ≤ length os
marks_few [] = omega arith
marks_few (o ∷ os) = by (word_at (codes "mark") o) (marks_of os) (marks_few os)
  where
    by : (w : Option (List ℕ)) (rest : List (List ℕ)) → length rest ≤ length os → length (cons_option w rest) ≤ suc (length os)
    by None rest h = omega arith
    by (Some s) rest h = omega arith

script_few : (second : Bool) (a : Data) (os : List Data) → list_all (is_formed second a) os ≡ true → length os ≤ sum_by (times_if (λ o. true)) os
script_few second a [] e = omega arith
script_few second a (o ∷ os) e =
    let both = and_parts (is_formed second a o) (list_all (is_formed second a) os) e in
    let made : 1 ≤ times_of o = (plain_operation second a o both.0).made in
    let rest : length os ≤ sum_by (times_if (λ x. true)) os = script_few second a os both.1 in
    let split : sum_by (times_if (λ x. true)) (o ∷ os) ≡ times_of o + sum_by (times_if (λ x. true)) os = sum_by-cons (times_if (λ x. true)) o os in
    omega (arith, made, rest, split)

over : (n r s : ℕ) → n ≤ s → 1 ≤ r → n ≤ r * s
over n r s h k = let p : 1 * n ≤ r * s = mul-le 1 n r s k h in omega (arith, p)

all_few : (second : Bool) (actors : List Data) → list_all is_actor_form actors ≡ true → list_all (is_formed_script second) actors ≡ true →
    length (flat_map (λ a. marks_of (list_in (codes "script") a)) actors) ≤ sum_by (script_steps (λ o. true)) actors
all_few second [] f s = omega arith
all_few second (a ∷ actors) f s =
    let fs = and_parts (is_actor_form a) (list_all is_actor_form actors) f in
    let ss = and_parts (is_formed_script second a) (list_all (is_formed_script second) actors) s in
    let script = list_in (codes "script") a in
    let rest = flat_map (λ b. marks_of (list_in (codes "script") b)) actors in
    let own : length (marks_of script) ≤ length script = marks_few script in
    let steps : length script ≤ sum_by (times_if (λ o. true)) script = script_few second a script ss.0 in
    let most : length script ≤ script_steps (λ o. true) a =
    over (length script) (repeat_of a) (sum_by (times_if (λ o. true)) script) steps (least_or 1000 (get (codes "repeat") a) (repeats a fs.0)) in
    let others : length rest ≤ sum_by (script_steps (λ o. true)) actors = all_few second actors fs.1 ss.1 in
    let joined : length (marks_of script ++ rest) ≡ length (marks_of script) + length rest = length-append (marks_of script) rest in
    let split : sum_by (script_steps (λ o. true)) (a ∷ actors) ≡ script_steps (λ o. true) a + sum_by (script_steps (λ o. true)) actors = sum_by-cons (script_steps (λ o. true)) a actors in
    omega (arith, own, most, others, joined, split)

-- ---- notifiers and answers

near : (d : Data) → is_notifier_form d ≡ true → may_have (codes "priority") (is_bounded 1000) d ≡ true
near d e = (and_parts (has_only notifier_members d && must_have (codes "name") is_string d) (may_have (codes "priority") (is_bounded 1000) d) e).1

fits_notifier : (d : Data) → is_notifier_form d ≡ true → own_name d ≡ true → FitsNotifier d
fits_notifier d form name = record { name = short_name d name; priority = near d form }

is_that : (n : ℕ) (o : Option ℕ) → n ≤ 1 → is_some_and (λ k. k == n) o ≡ true → IfSome o (λ k. k ≤ 1)
is_that n None h e = tt
is_that n (Some k) h e = let same : k ≡ n = eqb-true k n e in omega (arith, same)

plain_ret : (a : Data) → may_have (codes "ret") is_ret_form a ≡ true → HasPlainRet a
plain_ret a e = record { most = by (get (codes "ret") a) e }
  where
    no_number : (o : Option ℕ) → o ≡ None → IfSome o (λ k. k ≤ 1)
    no_number None h = tt
    no_number (Some k) h = cc

    number_ret : (d : Data) → ((is_number 0 d ≡ true) ⊎ (is_number 1 d ≡ true)) → IfSome (option_and_then as_u64 (as_number d)) (λ k. k ≤ 1)
    number_ret d (inl h) = is_that 0 (option_and_then as_u64 (as_number d)) (omega arith) h
    number_ret d (inr h) = is_that 1 (option_and_then as_u64 (as_number d)) (omega arith) h

    some_ret : (d : Data) → (((is_number 0 d || is_number 1 d) ≡ true) ⊎ (is_one_of (map error_name errors) d ≡ true)) → IfSome (option_and_then as_u64 (as_number d)) (λ k. k ≤ 1)
    some_ret d (inl h) = number_ret d (or_cases (is_number 0 d) (is_number 1 d) h)
    some_ret d (inr h) = no_number (option_and_then as_u64 (as_number d)) (text_no_number _ d h)

    by : (o : Option Data) → is_none_or is_ret_form o ≡ true → IfSome (option_and_then as_u64 (option_and_then as_number o)) (λ k. k ≤ 1)
    by None h = tt
    by (Some d) h = some_ret d (or_cases (is_number 0 d || is_number 1 d) (is_one_of (map error_name errors) d) h)

fits_report : (r : Data) → is_report_form r ≡ true → FitsAt (codes "ms") r
fits_report r e = by (or_cases (is_plain_report r) (is_event_report r) (and_parts (must_have (codes "source") is_string r) (is_plain_report r || is_event_report r) e).1)
  where
    by : ((is_plain_report r ≡ true) ⊎ (is_event_report r ≡ true)) → FitsAt (codes "ms") r
    by (inl h) =
        absent_fits (codes "call" ∷ codes "source" ∷ []) (codes "ms") r
        (and_parts (has_only (codes "call" ∷ codes "source" ∷ []) r) (must_have (codes "call") (is_one_of (codes "awake" ∷ codes "relax" ∷ [])) r) h).0 refl
    by (inr h) =
        let front = has_only report_members r && has_text (codes "call") (codes "event") r in
        let ms = may_have (codes "ms") (is_time 0) r in
        within_fits 0 86400000 (codes "ms") r (omega arith) (and_parts front ms (and_parts (front && ms) (may_have (codes "hard") is_truth r) h).0).1

fits_answer : (a : Data) → is_answer_form a ≡ true → FitsAnswer a
fits_answer a e =
    let front =
    has_only answer_members a && must_have (codes "what") (is_one_of answerers) a && must_have (codes "name") is_string a && may_have (codes "phase") (is_one_of phases) a in
    let attempt = may_have (codes "attempt") (is_within 1 1000) a in
    let ret = may_have (codes "ret") is_ret_form a in
    let reports = may_have (codes "reports") are_reports a in
    let all = and_parts (front && attempt && ret) reports e in
    let some = and_parts (front && attempt) ret all.0 in
    record {
      attempt = within_fits 1 1000 (codes "attempt") a (omega arith) (and_parts front attempt some.0).1;
      ret = plain_ret a some.1;
      reports = all_of (FitsAt (codes "ms")) is_report_form fits_report (list_in (codes "reports") a) (reports_formed (get (codes "reports") a) all.1);
    }

-- ---- the file

device_name : (d : Data) → names_of_device d ≡ true → HasShortName d
device_name d e = record { name = short_name d (and_parts (must_have (codes "name") spells_name d) (may_have (codes "parent") spells_name d) e).0 }

-- devices whose names are spelled as names are have short names
pub short_devices : (d : Data) → first_item (codes "devices") names_of_device d ≡ None → All HasShortName (list_in (codes "devices") d)
short_devices d e = all_of HasShortName names_of_device device_name (list_in (codes "devices") d) (each_item (codes "devices") names_of_device d e)

-- the actors of a file that keeps the rules on form have room
pub fits_actors : (d : Data) → broken_form d ≡ None → All FitsScript (list_in (codes "actors") d)
unfolding broken_form
fits_actors d h =
    let r = keeps_all form_rules d h in
    let forms : EachList d (item_forms (is_second d)) = each_list d (item_forms (is_second d)) r.1.1.1.0 in
    let spelled : EachList d item_names = each_list d item_names r.1.1.1.1.1.0 in
    all_both FitsScript is_actor_form own_name fits_script (list_in (codes "actors") d)
    (each_item (codes "actors") is_actor_form d forms.1.1.1.1.1.0) (each_item (codes "actors") own_name d spelled.1.1.1.1.1.0)

-- and its answers have room
pub fits_answers : (d : Data) → broken_form d ≡ None → All FitsAnswer (list_in (codes "answers") d)
unfolding broken_form
fits_answers d h =
    let forms : EachList d (item_forms (is_second d)) = each_list d (item_forms (is_second d)) (keeps_all form_rules d h).1.1.1.0 in
    all_of FitsAnswer is_answer_form fits_answer (list_in (codes "answers") d) (each_item (codes "answers") is_answer_form d forms.1.1.1.1.1.1.0)

-- each mark is named by a step, so more marks than a machine makes steps are too much
pub marks_over : (d : Data) → broken_form d ≡ None → unformed_operation d ≡ None → 200000 < length (whole_marks d) → too_much d ≡ Some (codes "actors")
unfolding broken_form
marks_over d h formed over =
    let forms : EachList d (item_forms (is_second d)) = each_list d (item_forms (is_second d)) (keeps_all form_rules d h).1.1.1.0 in
    let actors = list_in (codes "actors") d in
    let actor_forms = each_item (codes "actors") is_actor_form d forms.1.1.1.1.1.0 in
    let scripts : list_all (is_formed_script (is_second d)) actors ≡ true = each_operation (is_formed (is_second d)) 0 actors formed in
    let marks = flat_map (λ a. marks_of (list_in (codes "script") a)) actors in
    let all : length marks ≤ sum_by (script_steps (λ o. true)) actors = all_few (is_second d) actors actor_forms scripts in
    let first : length (first_occurrences [] marks) ≤ 0 + length marks = first_few [] marks in
    let many : 200000 < all_steps (λ o. true) d = omega (arith, all, first, over) in
    ap (λ (b : Bool). option_or (unless (b && nat_le (most_attempts d * (length (list_in (codes "devices") d) + 50)) 100000 && are_links_few d) (codes "actors")) (unless (are_reports_few d) (codes "answers")))
    (lt-leb (all_steps (λ o. true) d) 200000 many)

-- a file that breaks no rule has room
pub fits_file : (d : Data) → first_broken d ≡ None → FitsFile d
fits_file d h =
    let r = keeps_all rules d h in
    let members = all_pass (λ (f : Named (Data → Bool)). may_have f.name f.is d) member_forms r.1.1.0 in
    let forms : EachList d (item_forms (is_second d)) = each_list d (item_forms (is_second d)) r.1.1.1.0 in
    let spelled : EachList d item_names = each_list d item_names r.1.1.1.1.1.0 in
    let operations = r.1.1.1.1.1.1.1.1.1.1.1.1.1.1 in
    let actors = list_in (codes "actors") d in
    let actor_forms = each_item (codes "actors") is_actor_form d forms.1.1.1.1.1.0 in
    let scripts : list_all (is_formed_script (is_second d)) actors ≡ true = each_operation (is_formed (is_second d)) 0 actors operations.0 in
    let much = operations.1.1.1.1.1.1.1.1.0 in
    let marks = flat_map (λ a. marks_of (list_in (codes "script") a)) actors in
    let all : length marks ≤ sum_by (script_steps (λ o. true)) actors = all_few (is_second d) actors actor_forms scripts in
    let first : length (first_occurrences [] marks) ≤ 0 + length marks = first_few [] marks in
    let steps = steps_few d much in
    record {
      cpus = within_fits 1 64 (codes "cpus") d (omega arith) members.1.0;
      auto_cycles = within_fits 1 1000 (codes "auto_cycles") d (omega arith) members.1.1.0;
      syscore = all_passed IsShort text_of spells_name short_text (list_in (codes "syscore") d) (each_item (codes "syscore") spells_name d spelled.1.1.0);
      notifiers =
          all_both FitsNotifier is_notifier_form own_name fits_notifier (list_in (codes "notifiers") d)
          (each_item (codes "notifiers") is_notifier_form d forms.1.1.1.0) (each_item (codes "notifiers") own_name d spelled.1.1.1.0);
      sources = all_passed IsShort text_of spells_name short_text (list_in (codes "sources") d) (each_item (codes "sources") spells_name d spelled.1.1.1.1.0);
      marks = all_of IsShort is_name short_spelled (whole_marks d) (first_pass is_name [] marks refl (all_marks (is_second d) actors scripts));
      few_marks = omega (arith, all, first, steps);
    }
