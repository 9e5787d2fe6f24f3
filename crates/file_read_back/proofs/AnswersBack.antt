-- An answer that is written again says the same.
use Rattle.std.proofs.Common.{◌≡◌, ◌∙◌, ◌&&◌, ◌||◌, ◌==◌, ℕ, List, [], ◌∷◌, map, codes, Bool, true, false, cond, bytes_eq, find, ℤ, pos, Option, Some, None, option_map, option_and_then, unwrap_or, is_some, is_none, ◌⊎◌, inl, inr, refl, sym, ap, ap₂}
use Rattle.std.specs.Prelude.{neg_ℤ}
use Rattle.std.specs.List.{list_all, list_any}
use Rattle.std.specs.Cmp.Lexicographic.{bytes_decides}
use Rattle.std.proofs.lemmas.Bool.{and_parts, and_from, false≢true, eqb-true}
use Rattle.serde_json.specs.Data.{Data, null, boolean, number, string, array, object, unsigned, negative, float, no_items}
use Rattle.serde_json.specs.Find.{get, as_str, as_array}
use Rattle.sleep_base.specs.declared.errno.Errno.{Errno}
use Rattle.sleep_base.specs.declared.errno.Errno.TheVariants.{EINTR}
use Rattle.sleep_base.specs.Errno.{name_of as error_name, number_of as error_number}
use Rattle.sleep_model.specs.Answers.{errors, error_of_number}
use Rattle.sleep_model.specs.declared.machine.PlatDo.TheVariants as step
use Rattle.sleep_model.specs.declared.machine.What.{What}
use Rattle.sleep_model.specs.declared.machine.What.TheVariants as what
use Rattle.sleep_model.specs.Text.{device, syscore, notifier, down_word}
use Rattle.phase_table.specs.declared.phase.Phase.TheVariants as phase
use Rattle.phase_table.specs.Phases.{phase_name}
use Rattle.borrowed_json.specs.Look.{is_some_and, is_none_or, is_number, is_text, has_only, must_have, may_have, has_text, list_in, items_of, number_at, word_at, is_string, is_within, is_one_of}
use Rattle.file_rules.specs.Members.{answer_members}
use Rattle.file_rules.specs.Form.{answerers, phases, is_ret_form, is_report_form, are_reports, is_answer_form}
use Rattle.file_rules.specs.Names.{is_among_names, own_name, spells_name, devices_named, sources_named, texts_in, names_in}
use Rattle.file_rules.specs.Rules.{name_of}
use Rattle.sleep_model.specs.NameBytes.{is_name}
use Rattle.file_rules.specs.Spelled.{index_among}
use Rattle.file_rules.specs.Operations.{names_source}
use Rattle.file_rules.specs.Answering.{platform_steps, answering_phases, is_of_device, names_of_kind, has_its_phase, names_thing, is_of_prepare, common_errors, is_ret_allowed, may_report, phase_of, step_of, thing_of, ret_of, whole_report, whole_answer}
use Rattle.file_rules.specs.Whole.{whole_machine}
use Rattle.machine_file.specs.Spelling.{list_unless_empty, count, error_or, thing_word, thing_name, thing_phase, answer_rows, answer_value, report_value}
use Rattle.file_read_back.proofs.Rows.{at_name, named, list_found, items_back}
use Rattle.file_read_back.proofs.NamesBack.{device_back, syscore_back, notifier_back}
use Rattle.file_read_back.proofs.LinksBack.{spelled}
use Rattle.file_read_back.proofs.Numbers.{number_of, maybe_back, maybe_form}
use Rattle.file_read_back.proofs.Alike.{EachOf, mapped, made_pass}
use Rattle.file_read_back.proofs.OperationsBack.{some_string}
use Rattle.file_read_back.proofs.ReportsBack.{report_again, SameReport, same_report}

-- ---- texts at a name

has_by : (x : List ℕ) (r : Option Data) → is_some_and (is_text x) r ≡ is_some_and (λ s. bytes_eq s x) (option_and_then as_str r)
has_by x None = refl
has_by x (Some v) = refl

-- the same text is at the name of both
pub same_text : (name x : List ℕ) (v w : Data) → word_at name v ≡ word_at name w → has_text name x v ≡ has_text name x w
same_text name x v w e = has_by x (get name v) ∙ ap (is_some_and (λ s. bytes_eq s x)) e ∙ sym (has_by x (get name w))

word_is : (x : List ℕ) (r : Option Data) → is_some_and (is_text x) r ≡ true → Some x ≡ option_and_then as_str r
word_is x None e = absurd (false≢true e)
word_is x (Some v) e = by (as_str v) e
  where
    by : (w : Option (List ℕ)) → is_some_and (λ s. bytes_eq s x) w ≡ true → Some x ≡ w
    by None h = absurd (false≢true h)
    by (Some s) h = ap Some (sym ((bytes_decides s x).0 h))

-- what is found by its name has that name
record IsFound {X : Type 0} (name : X → List ℕ) (xs : List X) (s : List ℕ) : Type 0 where
  it : X
  found : find (λ x. bytes_eq s (name x)) xs ≡ Some it
  named : name it ≡ s

found_named : {X : Type 0} (name : X → List ℕ) (xs : List X) (s : List ℕ) → list_any (λ x. bytes_eq s (name x)) xs ≡ true → IsFound name xs s
found_named name [] s e = absurd (false≢true e)
found_named name (x ∷ xs) s e = by (bytes_eq s (name x)) refl e (found_named name xs s)
  where
    by : (b : Bool) → bytes_eq s (name x) ≡ b → (b || list_any (λ y. bytes_eq s (name y)) xs) ≡ true →
        (list_any (λ y. bytes_eq s (name y)) xs ≡ true → IsFound name xs s) → IsFound name (x ∷ xs) s
    by true same h rest = record { it = x; found = ap (λ b. cond b (Some x) (find (λ y. bytes_eq s (name y)) xs)) same; named = sym ((bytes_decides s (name x)).0 same) }
    by false same h rest =
        let r = rest h in
        record { it = r.it; found = ap (λ b. cond b (Some x) (find (λ y. bytes_eq s (name y)) xs)) same ∙ r.found; named = r.named }

-- ---- the phase

phase_text : (r : Option Data) → is_none_or (is_one_of phases) r ≡ true → is_some r ≡ true →
    (Some (phase_name (unwrap_or (find (λ p. is_some_and (is_text (phase_name p)) r) answering_phases) phase.Prepare)) ≡ option_and_then as_str r)
    × (list_any (bytes_eq (phase_name (unwrap_or (find (λ p. is_some_and (is_text (phase_name p)) r) answering_phases) phase.Prepare))) phases ≡ true)
phase_text None e h = absurd (false≢true h)
phase_text (Some x) e h = by (as_str x) e
  where
    by : (w : Option (List ℕ)) → is_some_and (λ s. list_any (bytes_eq s) phases) w ≡ true →
        (Some (phase_name (unwrap_or (find (λ p. is_some_and (λ s. bytes_eq s (phase_name p)) w) answering_phases) phase.Prepare)) ≡ w)
        × (list_any (bytes_eq (phase_name (unwrap_or (find (λ p. is_some_and (λ s. bytes_eq s (phase_name p)) w) answering_phases) phase.Prepare))) phases ≡ true)
    by None k = absurd (false≢true k)
    by (Some s) k =
        let f = found_named phase_name answering_phases s k in
        let same : phase_name (unwrap_or (find (λ p. bytes_eq s (phase_name p)) answering_phases) phase.Prepare) ≡ s =
        ap (λ o. phase_name (unwrap_or o phase.Prepare)) f.found ∙ f.named in
        (ap Some same, ap (λ t. list_any (bytes_eq t) phases) same ∙ k)

-- ---- the platform's step

step_text : (r : Option Data) → is_some_and is_string r ≡ true → is_among_names (map down_word platform_steps) (unwrap_or (option_and_then as_str r) []) ≡ true →
    down_word (unwrap_or (find (λ s. is_some_and (is_text (down_word s)) r) platform_steps) step.Begin) ≡ unwrap_or (option_and_then as_str r) []
step_text None e h = absurd (false≢true e)
step_text (Some x) e h = by (as_str x) e h
  where
    by : (w : Option (List ℕ)) → is_some w ≡ true → is_among_names (map down_word platform_steps) (unwrap_or w []) ≡ true →
        down_word (unwrap_or (find (λ p. is_some_and (λ s. bytes_eq s (down_word p)) w) platform_steps) step.Begin) ≡ unwrap_or w []
    by None k i = absurd (false≢true k)
    by (Some s) k i = let f = found_named down_word platform_steps s i in ap (λ o. down_word (unwrap_or o step.Begin)) f.found ∙ f.named

-- ---- what is answered

abbrev pub ret_by : Option Data → ℤ
ret_by r = unwrap_or (option_map (λ e. neg_ℤ (pos (error_number e))) (find (λ e. is_some_and (is_text (error_name e)) r) errors)) (pos (unwrap_or (number_of r) 0))

abbrev pub ret_written : ℤ → Option Data
ret_written z = error_or (error_of_number z) z

error_back : (e : Errno) → ret_written (neg_ℤ (pos (error_number e))) ≡ Some (string (error_name e))
error_back EINTR = refl
error_back _ = refl

-- what is written is what was there; or it is left out, as it is 0
abbrev pub RetBack : Option Data → Type 0
RetBack r = (ret_written (ret_by r) ≡ r) ⊎ ((ret_written (ret_by r) ≡ None) × (ret_by r ≡ pos 0))

count_case : (n : ℕ) → RetBack (Some (number (unsigned n)))
count_case n = by (n == 0) refl
  where
    by : (b : Bool) → (n == 0) ≡ b → RetBack (Some (number (unsigned n)))
    by true e = inr (ap (λ b. cond b None (Some (count n))) e, ap pos (eqb-true n 0 e))
    by false e = inl (ap (λ b. cond b None (Some (count n))) e)

text_case : (s : List ℕ) → list_any (bytes_eq s) (map error_name errors) ≡ true → RetBack (Some (string s))
text_case s h =
    let f = found_named error_name errors s h in
    inl (ap (λ o. ret_written (unwrap_or (option_map (λ e. neg_ℤ (pos (error_number e))) o) (pos 0))) f.found ∙ error_back f.it ∙ ap (λ t. Some (string t)) f.named)

pub ret_back : (r : Option Data) → is_none_or is_ret_form r ≡ true → RetBack r
ret_back None e = inr (refl, refl)
ret_back (Some null) e = absurd (false≢true e)
ret_back (Some (boolean b)) e = absurd (false≢true e)
ret_back (Some (number (unsigned n))) e = count_case n
ret_back (Some (number (negative z))) e = absurd (false≢true e)
ret_back (Some (number (float x))) e = absurd (false≢true e)
ret_back (Some (string s)) e = text_case s e
ret_back (Some (array ds)) e = absurd (false≢true e)
ret_back (Some (object ms)) e = absurd (false≢true e)

ret_same : (r : Option Data) → RetBack r → ret_by (ret_written (ret_by r)) ≡ ret_by r
ret_same r (inl h) = ap ret_by h
ret_same r (inr h) = ap ret_by h.0 ∙ sym h.1

ret_passes : (test : Data → Bool) (r : Option Data) → RetBack r → is_none_or test r ≡ true → is_none_or test (ret_written (ret_by r)) ≡ true
ret_passes test r (inl h) e = ap (is_none_or test) h ∙ e
ret_passes test r (inr h) e = ap (is_none_or test) h.0

-- what is allowed, by whether it is of a device's prepare
abbrev allowed_by : Bool → Data → Bool
allowed_by prepares ret = is_number 0 ret || is_one_of common_errors ret || cond prepares (is_number 1 ret) (is_text (codes "EAGAIN") ret)

-- ---- reports

reports_formed : (r : Option Data) → is_none_or are_reports r ≡ true → list_all is_report_form (items_of (unwrap_or (option_and_then as_array r) no_items)) ≡ true
reports_formed None e = refl
reports_formed (Some x) e = by x e
  where
    by : (x : Data) → are_reports x ≡ true → list_all is_report_form (items_of (unwrap_or (as_array x) no_items)) ≡ true
    by null h = absurd (false≢true h)
    by (boolean b) h = absurd (false≢true h)
    by (number n) h = absurd (false≢true h)
    by (string s) h = absurd (false≢true h)
    by (array ds) h = h
    by (object ms) h = absurd (false≢true h)

reports_form : (ds : List Data) → list_all is_report_form ds ≡ true → is_none_or are_reports (list_unless_empty ds) ≡ true
reports_form [] e = refl
reports_form (x ∷ ds) e = ap (list_all is_report_form) (items_back (x ∷ ds)) ∙ e

each_report : (d : Data) (rs : List Data) → list_all is_report_form rs ≡ true → list_all (names_source (sources_named d)) rs ≡ true → EachOf (SameReport d) rs
each_report d [] f n = tt
each_report d (r ∷ rs) f n =
    let fs = and_parts (is_report_form r) (list_all is_report_form rs) f in
    let ns = and_parts (names_source (sources_named d) r) (list_all (names_source (sources_named d)) rs) n in
    (same_report d r fs.0 ns.0, each_report d rs fs.1 ns.1)

each_form : (d : Data) (rs : List Data) → EachOf (SameReport d) rs → EachOf (λ r. is_report_form (report_again d r) ≡ true) rs
each_form d [] h = tt
each_form d (r ∷ rs) h = (h.0.form, each_form d rs h.1)

-- ---- the thing

-- what is known of an answer of a file that keeps the rules
pub record ValidAnswer (d a : Data) : Type 0 where
  pub form : is_answer_form a ≡ true
  pub names : own_name a ≡ true
  pub thing : names_thing d a ≡ true
  pub ret : may_have (codes "ret") (is_ret_allowed a) a ≡ true
  pub reports : may_report a ≡ true
  pub sources : list_all (names_source (sources_named d)) (list_in (codes "reports") a) ≡ true

-- a thing that an answer names
pub record IsNamed (d a : Data) (w : What) : Type 0 where
  pub word : Some (thing_word w) ≡ word_at (codes "what") a
  pub name : thing_name (whole_machine d) w ≡ name_of a
  pub phase : option_and_then as_str (thing_phase w) ≡ word_at (codes "phase") a
  pub formed : is_none_or (is_one_of phases) (thing_phase w) ≡ true
  pub owned : cond (bytes_eq (thing_word w) (codes "device")) (is_some (thing_phase w)) (is_none (thing_phase w)) ≡ true

fourth : (r : Option Data) → is_some_and (is_one_of answerers) r ≡ true → is_some_and (is_text (codes "device")) r ≡ false → is_some_and (is_text (codes "syscore")) r ≡ false →
    is_some_and (is_text (codes "notifier")) r ≡ false → Some (codes "platform") ≡ option_and_then as_str r
fourth None e a b c = absurd (false≢true e)
fourth (Some x) e a b c = by (as_str x) e a b c
  where
    last : (p q r t : Bool) → (p || (q || (r || (t || false)))) ≡ true → p ≡ false → q ≡ false → r ≡ false → t ≡ true
    last true q r t e a b c = absurd (false≢true (sym a))
    last false true r t e a b c = absurd (false≢true (sym b))
    last false false true t e a b c = absurd (false≢true (sym c))
    last false false false true e a b c = refl
    last false false false false e a b c = absurd (false≢true e)

    by : (w : Option (List ℕ)) → is_some_and (λ s. list_any (bytes_eq s) answerers) w ≡ true → is_some_and (λ s. bytes_eq s (codes "device")) w ≡ false →
        is_some_and (λ s. bytes_eq s (codes "syscore")) w ≡ false → is_some_and (λ s. bytes_eq s (codes "notifier")) w ≡ false → Some (codes "platform") ≡ w
    by None e a b c = absurd (false≢true e)
    by (Some s) e a b c =
        ap Some (sym ((bytes_decides s (codes "platform")).0
        (last (bytes_eq s (codes "device")) (bytes_eq s (codes "syscore")) (bytes_eq s (codes "notifier")) (bytes_eq s (codes "platform")) e a b c)))

no_phase : (r : Option Data) → is_none r ≡ true → None ≡ option_and_then as_str r
no_phase None e = refl
no_phase (Some x) e = absurd (false≢true e)

module _ (d a : Data) (kept : ValidAnswer d a) where
  front_form : ((has_only answer_members a && must_have (codes "what") (is_one_of answerers) a && must_have (codes "name") is_string a && may_have (codes "phase") (is_one_of phases) a
      && may_have (codes "attempt") (is_within 1 1000) a && may_have (codes "ret") is_ret_form a) ≡ true) × (may_have (codes "reports") are_reports a ≡ true)
  front_form = and_parts _ (may_have (codes "reports") are_reports a) kept.form

  pub with_attempt : ((has_only answer_members a && must_have (codes "what") (is_one_of answerers) a && must_have (codes "name") is_string a && may_have (codes "phase") (is_one_of phases) a
      && may_have (codes "attempt") (is_within 1 1000) a) ≡ true) × (may_have (codes "ret") is_ret_form a ≡ true)
  with_attempt = and_parts _ (may_have (codes "ret") is_ret_form a) front_form.0

  pub with_phase : ((has_only answer_members a && must_have (codes "what") (is_one_of answerers) a && must_have (codes "name") is_string a && may_have (codes "phase") (is_one_of phases) a) ≡ true)
      × (may_have (codes "attempt") (is_within 1 1000) a ≡ true)
  with_phase = and_parts _ (may_have (codes "attempt") (is_within 1 1000) a) with_attempt.0

  with_name : ((has_only answer_members a && must_have (codes "what") (is_one_of answerers) a && must_have (codes "name") is_string a) ≡ true) × (may_have (codes "phase") (is_one_of phases) a ≡ true)
  with_name = and_parts _ (may_have (codes "phase") (is_one_of phases) a) with_phase.0

  with_what : ((has_only answer_members a && must_have (codes "what") (is_one_of answerers) a) ≡ true) × (must_have (codes "name") is_string a ≡ true)
  with_what = and_parts _ (must_have (codes "name") is_string a) with_name.0

  what_form : must_have (codes "what") (is_one_of answerers) a ≡ true
  what_form = (and_parts (has_only answer_members a) (must_have (codes "what") (is_one_of answerers) a) with_what.0).1

  there : (is_among_names (names_of_kind d a) (name_of a) ≡ true) × (has_its_phase a ≡ true)
  there = and_parts (is_among_names (names_of_kind d a) (name_of a)) (has_its_phase a) kept.thing

  abbrev place : ℕ
  place = index_among (names_of_kind d a) (name_of a)

  device_case : is_of_device a ≡ true → IsNamed d a (what.Device place (phase_of a))
  device_case e =
      let ours : names_of_kind d a ≡ devices_named d =
      ap (λ b. cond b (devices_named d) (cond (has_text (codes "what") (codes "syscore") a) (texts_in (codes "syscore") d) (cond (has_text (codes "what") (codes "notifier") a) (names_in (codes "notifiers") d) (map down_word platform_steps)))) e in
      let some : is_some (get (codes "phase") a) ≡ true = sym (ap (λ b. cond b (is_some (get (codes "phase") a)) (is_none (get (codes "phase") a))) e) ∙ there.1 in
      let text = phase_text (get (codes "phase") a) with_name.1 some in
      record {
        word = word_is (codes "device") (get (codes "what") a) e;
        name = ap (λ ns. device (whole_machine d) (index_among ns (name_of a))) ours ∙ device_back d (name_of a) (sym (ap (λ ns. is_among_names ns (name_of a)) ours) ∙ there.0);
        phase = text.0;
        formed = text.1;
        owned = refl;
      }

  -- of anything else there is no phase
  phaseless : is_of_device a ≡ false → None ≡ word_at (codes "phase") a
  phaseless e = no_phase (get (codes "phase") a) (sym (ap (λ b. cond b (is_some (get (codes "phase") a)) (is_none (get (codes "phase") a))) e) ∙ there.1)

  abbrev others : Bool → Bool → List (List ℕ)
  others s n = cond s (texts_in (codes "syscore") d) (cond n (names_in (codes "notifiers") d) (map down_word platform_steps))

  other_names : is_of_device a ≡ false → names_of_kind d a ≡ others (has_text (codes "what") (codes "syscore") a) (has_text (codes "what") (codes "notifier") a)
  other_names e = ap (λ b. cond b (devices_named d) (others (has_text (codes "what") (codes "syscore") a) (has_text (codes "what") (codes "notifier") a))) e

  syscore_case : is_of_device a ≡ false → has_text (codes "what") (codes "syscore") a ≡ true → IsNamed d a (what.Syscore place)
  syscore_case e f =
      let ours : names_of_kind d a ≡ texts_in (codes "syscore") d = other_names e ∙ ap (λ b. others b (has_text (codes "what") (codes "notifier") a)) f in
      record {
        word = word_is (codes "syscore") (get (codes "what") a) f;
        name = ap (λ ns. syscore (whole_machine d) (index_among ns (name_of a))) ours ∙ syscore_back d (name_of a) (sym (ap (λ ns. is_among_names ns (name_of a)) ours) ∙ there.0);
        phase = phaseless e;
        formed = refl;
        owned = refl;
      }

  notifier_case : is_of_device a ≡ false → has_text (codes "what") (codes "syscore") a ≡ false → has_text (codes "what") (codes "notifier") a ≡ true → IsNamed d a (what.Notifier place)
  notifier_case e f g =
      let ours : names_of_kind d a ≡ names_in (codes "notifiers") d = other_names e ∙ ap₂ others f g in
      record {
        word = word_is (codes "notifier") (get (codes "what") a) g;
        name = ap (λ ns. notifier (whole_machine d) (index_among ns (name_of a))) ours ∙ notifier_back d (name_of a) (sym (ap (λ ns. is_among_names ns (name_of a)) ours) ∙ there.0);
        phase = phaseless e;
        formed = refl;
        owned = refl;
      }

  platform_case : is_of_device a ≡ false → has_text (codes "what") (codes "syscore") a ≡ false → has_text (codes "what") (codes "notifier") a ≡ false → IsNamed d a (what.Platform (step_of a))
  platform_case e f g =
      let ours : names_of_kind d a ≡ map down_word platform_steps = other_names e ∙ ap₂ others f g in
      record {
        word = fourth (get (codes "what") a) what_form e f g;
        name = step_text (get (codes "name") a) with_what.1 (sym (ap (λ ns. is_among_names ns (name_of a)) ours) ∙ there.0);
        phase = phaseless e;
        formed = refl;
        owned = refl;
      }

  pub thing_named : IsNamed d a (thing_of d a)
  thing_named = by (is_of_device a) (has_text (codes "what") (codes "syscore") a) (has_text (codes "what") (codes "notifier") a) refl refl refl
    where
      by : (v s n : Bool) → is_of_device a ≡ v → has_text (codes "what") (codes "syscore") a ≡ s → has_text (codes "what") (codes "notifier") a ≡ n →
          IsNamed d a (cond v (what.Device place (phase_of a)) (cond s (what.Syscore place) (cond n (what.Notifier place) (what.Platform (step_of a)))))
      by true s n e f g = device_case e
      by false true n e f g = syscore_case e f
      by false false true e f g = notifier_case e f g
      by false false false e f g = platform_case e f g

-- ---- an answer

-- an answer, written again
abbrev pub answer_again : Data → Data → Data
answer_again d a = answer_value (whole_machine d) (whole_answer d a)

-- it says the same, in form
pub record SameAnswer (d a : Data) : Type 0 where
  pub word : word_at (codes "what") (answer_again d a) ≡ word_at (codes "what") a
  pub name : word_at (codes "name") (answer_again d a) ≡ word_at (codes "name") a
  pub phase : word_at (codes "phase") (answer_again d a) ≡ word_at (codes "phase") a
  pub attempt : number_at (codes "attempt") (answer_again d a) ≡ number_at (codes "attempt") a
  pub ret : ret_of (answer_again d a) ≡ ret_of a
  pub allowed : may_have (codes "ret") (is_ret_allowed (answer_again d a)) (answer_again d a) ≡ true
  pub reports : list_in (codes "reports") (answer_again d a) ≡ map (report_again d) (list_in (codes "reports") a)
  pub each : EachOf (SameReport d) (list_in (codes "reports") a)
  pub form : is_answer_form (answer_again d a) ≡ true
  pub names : own_name (answer_again d a) ≡ true
  pub owned : has_its_phase (answer_again d a) ≡ true

answerer_form : (w : What) → is_one_of answerers (string (thing_word w)) ≡ true
answerer_form (what.Device x p) = refl
answerer_form (what.Syscore x) = refl
answerer_form (what.Notifier x) = refl
answerer_form (what.Platform x) = refl

pub answers_same : (d a : Data) → ValidAnswer d a → SameAnswer d a
answers_same d a kept =
    let thing = thing_named d a kept in
    let rows = answer_rows (whole_machine d) (whole_answer d a) in
    let at = at_name (answer_rows (whole_machine d) (whole_answer d a)) refl in
    let reports = list_in (codes "reports") a in
    let each = each_report d reports (reports_formed (get (codes "reports") a) (front_form d a kept).1) kept.sources in
    let back = ret_back (get (codes "ret") a) (with_attempt d a kept).1 in
    let word : word_at (codes "what") (answer_again d a) ≡ word_at (codes "what") a = ap (option_and_then as_str) (at (codes "what")) ∙ thing.word in
    let phase : word_at (codes "phase") (answer_again d a) ≡ word_at (codes "phase") a = ap (option_and_then as_str) (at (codes "phase")) ∙ thing.phase in
    let prepares : is_of_prepare (answer_again d a) ≡ is_of_prepare a =
    ap₂ (λ x y. x && y) (same_text (codes "what") (codes "device") (answer_again d a) a word) (same_text (codes "phase") (codes "prepare") (answer_again d a) a phase) in
    let listed : list_in (codes "reports") (answer_again d a) ≡ map (report_value (whole_machine d)) (map (whole_report (sources_named d)) reports) =
    list_found (answer_rows (whole_machine d) (whole_answer d a)) refl (codes "reports") (map (report_value (whole_machine d)) (map (whole_report (sources_named d)) reports)) refl in
    let written = mapped (report_value (whole_machine d)) (whole_report (sources_named d)) reports in
    record {
      word = word;
      name = ap (option_and_then as_str) (at (codes "name")) ∙ ap Some thing.name ∙ sym (some_string (get (codes "name") a) (with_what d a kept).1);
      phase = phase;
      attempt = ap number_of (at (codes "attempt")) ∙ maybe_back (number_at (codes "attempt") a);
      ret = ap ret_by (at (codes "ret")) ∙ ret_same (get (codes "ret") a) back;
      allowed =
          ap (λ p. is_none_or (allowed_by p) (get (codes "ret") (answer_again d a))) prepares
          ∙ ap (is_none_or (allowed_by (is_of_prepare a))) (at (codes "ret")) ∙ ret_passes (allowed_by (is_of_prepare a)) (get (codes "ret") a) back kept.ret;
      reports = listed ∙ written;
      each = each;
      form =
          and_from _ _ (and_from _ _ (and_from _ _ (and_from _ _ (and_from _ _ (and_from _ _ (named answer_members (answer_rows (whole_machine d) (whole_answer d a)) refl refl)
          (ap (is_some_and (is_one_of answerers)) (at (codes "what")) ∙ answerer_form (thing_of d a)))
          (ap (is_some_and is_string) (at (codes "name"))))
          (ap (is_none_or (is_one_of phases)) (at (codes "phase")) ∙ thing.formed))
          (ap (is_none_or (is_within 1 1000)) (at (codes "attempt")) ∙ maybe_form 1 1000 (get (codes "attempt") a) (with_phase d a kept).1))
          (ap (is_none_or is_ret_form) (at (codes "ret")) ∙ ret_passes is_ret_form (get (codes "ret") a) back (with_attempt d a kept).1))
          (ap (is_none_or are_reports) (at (codes "reports")) ∙ reports_form (map (report_value (whole_machine d)) (map (whole_report (sources_named d)) reports))
          (ap (list_all is_report_form) written ∙ made_pass is_report_form (report_again d) reports (each_form d reports each)));
      names = ap (is_some_and spells_name) (at (codes "name")) ∙ ap is_name thing.name ∙ spelled (get (codes "name") a) kept.names;
      owned =
          ap₂ (λ b r. cond b (is_some r) (is_none r)) (ap (is_some_and (is_text (codes "device"))) (at (codes "what"))) (at (codes "phase")) ∙ thing.owned;
    }
