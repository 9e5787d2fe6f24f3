-- A report that is written again says the same.
use Rattle.std.proofs.Common.{◌≡◌, ◌∙◌, ◌&&◌, ◌||◌, ℕ, List, [], ◌∷◌, codes, Bool, true, false, cond, bytes_eq, Option, Some, None, option_and_then, unwrap_or, refl, sym, ap, ap₂}
use Rattle.std.specs.List.{list_any}
use Rattle.std.proofs.lemmas.Bool.{and_parts, and_from, false≢true}
use Rattle.serde_json.specs.Data.{Data}
use Rattle.serde_json.specs.Find.{get, as_str, as_bool}
use Rattle.sleep_model.specs.declared.machine.SourceCall.{SourceCall}
use Rattle.sleep_model.specs.declared.machine.SourceCall.TheVariants as call
use Rattle.sleep_model.specs.Text.{source}
use Rattle.borrowed_json.specs.Look.{is_some_and, is_none_or, is_text, has_only, text_at, must_have, may_have, has_text, word_at, is_string, is_truth, is_one_of}
use Rattle.file_rules.specs.Members.{report_members}
use Rattle.file_rules.specs.Form.{Named, is_time, is_plain_report, is_event_report, is_report_form}
use Rattle.file_rules.specs.Names.{sources_named}
use Rattle.file_rules.specs.Spelled.{index_among}
use Rattle.file_rules.specs.Operations.{names_source, ms_of, says}
use Rattle.file_rules.specs.Answering.{call_of, whole_report}
use Rattle.file_rules.specs.Whole.{whole_machine}
use Rattle.machine_file.specs.Spelling.{object_of, report_rows, report_value}
use Rattle.file_read_back.proofs.Rows.{at_name, at_names, named}
use Rattle.file_read_back.proofs.NamesBack.{source_back}
use Rattle.file_read_back.proofs.Numbers.{number_of, number_back, in_range_or, number_form, truth_back, truth_form}
use Rattle.file_read_back.proofs.OperationsBack.{among_word, some_string}

-- the call, by what is at each name
abbrev call_by : (List ℕ → Option Data) → SourceCall
call_by g =
    cond (is_some_and (is_text (codes "awake")) (g (codes "call"))) call.Awake
    (cond (is_some_and (is_text (codes "relax")) (g (codes "call"))) call.Relax
    (call.Event (unwrap_or (number_of (g (codes "ms"))) 0) (unwrap_or (option_and_then as_bool (g (codes "hard"))) false)))

-- a report, written again
abbrev pub report_again : Data → Data → Data
report_again d r = report_value (whole_machine d) (whole_report (sources_named d) r)

-- it says the same, in form
pub record SameReport (d r : Data) : Type 0 where
  pub source : word_at (codes "source") (report_again d r) ≡ word_at (codes "source") r
  pub call : call_of (report_again d r) ≡ call_of r
  pub form : is_report_form (report_again d r) ≡ true

or_left : (a b : Bool) → a ≡ true → (a || b) ≡ true
or_left true b e = refl
or_left false b e = absurd (false≢true e)

or_right : (a b : Bool) → b ≡ true → (a || b) ≡ true
or_right true b e = refl
or_right false b e = e

or_second : (a b : Bool) → (a || b) ≡ true → a ≡ false → b ≡ true
or_second true b e h = refl_absurd h
  where
    refl_absurd : true ≡ false → b ≡ true
    refl_absurd k = absurd (false≢true (sym k))
or_second false b e h = e

-- a call that is neither is of no plain report
no_plain : (r : Option Data) → is_some_and (is_text (codes "awake")) r ≡ false → is_some_and (is_text (codes "relax")) r ≡ false →
    is_some_and (is_one_of (codes "awake" ∷ codes "relax" ∷ [])) r ≡ false
no_plain None a b = refl
no_plain (Some x) a b = by (as_str x) a b
  where
    by : (w : Option (List ℕ)) → is_some_and (λ s. bytes_eq s (codes "awake")) w ≡ false → is_some_and (λ s. bytes_eq s (codes "relax")) w ≡ false →
        is_some_and (λ s. list_any (bytes_eq s) (codes "awake" ∷ codes "relax" ∷ [])) w ≡ false
    by None a b = refl
    by (Some s) a b = ap₂ (λ p q. p || (q || false)) a b

and_false : (a b : Bool) → b ≡ false → (a && b) ≡ false
and_false true b e = e
and_false false b e = refl

module _ (d r : Data) (form : is_report_form r ≡ true) (names : names_source (sources_named d) r ≡ true) where
  abbrev written : SourceCall → Data
  written c = object_of (report_rows (source (whole_machine d) (index_among (sources_named d) (text_at (codes "source") r))) c)

  abbrev Same : SourceCall → Type 0
  Same c = (word_at (codes "source") (written c) ≡ word_at (codes "source") r) × (call_of (written c) ≡ c) × (is_report_form (written c) ≡ true)

  parts : (must_have (codes "source") is_string r ≡ true) × ((is_plain_report r || is_event_report r) ≡ true)
  parts = and_parts (must_have (codes "source") is_string r) (is_plain_report r || is_event_report r) form

  source_same : source (whole_machine d) (index_among (sources_named d) (text_at (codes "source") r)) ≡ text_at (codes "source") r
  source_same = source_back d (text_at (codes "source") r) (among_word (sources_named d) (get (codes "source") r) parts.0 names)

  word_same : Some (source (whole_machine d) (index_among (sources_named d) (text_at (codes "source") r))) ≡ word_at (codes "source") r
  word_same = ap Some source_same ∙ sym (some_string (get (codes "source") r) parts.0)

  abbrev rows : SourceCall → List (Named (Option Data))
  rows c = report_rows (source (whole_machine d) (index_among (sources_named d) (text_at (codes "source") r))) c

  awake_again : Same call.Awake
  awake_again = (
    ap (option_and_then as_str) (at_name (rows call.Awake) refl (codes "source")) ∙ word_same,
    ap call_by (at_names (rows call.Awake) refl),
    and_from _ _ (ap (is_some_and is_string) (at_name (rows call.Awake) refl (codes "source")))
        (or_left (is_plain_report (written call.Awake)) (is_event_report (written call.Awake)) (and_from _ _ (named (codes "call" ∷ codes "source" ∷ []) (rows call.Awake) refl refl) (ap (is_some_and (is_one_of (codes "awake" ∷ codes "relax" ∷ []))) (at_name (rows call.Awake) refl (codes "call"))))),
  )

  relax_again : Same call.Relax
  relax_again = (
    ap (option_and_then as_str) (at_name (rows call.Relax) refl (codes "source")) ∙ word_same,
    ap call_by (at_names (rows call.Relax) refl),
    and_from _ _ (ap (is_some_and is_string) (at_name (rows call.Relax) refl (codes "source")))
        (or_left (is_plain_report (written call.Relax)) (is_event_report (written call.Relax)) (and_from _ _ (named (codes "call" ∷ codes "source" ∷ []) (rows call.Relax) refl refl) (ap (is_some_and (is_one_of (codes "awake" ∷ codes "relax" ∷ []))) (at_name (rows call.Relax) refl (codes "call"))))),
  )

  event_again : is_event_report r ≡ true → Same (call.Event (ms_of r) (says (codes "hard") r))
  event_again e =
      let c = call.Event (ms_of r) (says (codes "hard") r) in
      let last = and_parts (has_only report_members r && has_text (codes "call") (codes "event") r && may_have (codes "ms") (is_time 0) r) (may_have (codes "hard") is_truth r) e in
      let ms = (and_parts (has_only report_members r && has_text (codes "call") (codes "event") r) (may_have (codes "ms") (is_time 0) r) last.0).1 in (
        ap (option_and_then as_str) (at_name (rows c) refl (codes "source")) ∙ word_same,
        ap call_by (at_names (rows c) refl) ∙ ap₂ call.Event (number_back 0 (ms_of r)) (truth_back (says (codes "hard") r)),
        and_from _ _ (ap (is_some_and is_string) (at_name (rows c) refl (codes "source")))
            (or_right _ _ (and_from _ _ (and_from _ _ (and_from _ _ (named report_members (rows c) refl refl) (ap (is_some_and (is_text (codes "event"))) (at_name (rows c) refl (codes "call"))))
            (ap (is_none_or (is_time 0)) (at_name (rows c) refl (codes "ms")) ∙ number_form 0 86400000 0 (ms_of r) (in_range_or 0 86400000 0 (get (codes "ms") r) ms refl)))
            (ap (is_none_or is_truth) (at_name (rows c) refl (codes "hard")) ∙ truth_form (says (codes "hard") r)))),
      )

  same_call : Same (call_of r)
  same_call = by (has_text (codes "call") (codes "awake") r) (has_text (codes "call") (codes "relax") r) refl refl
    where
      by : (a b : Bool) → has_text (codes "call") (codes "awake") r ≡ a → has_text (codes "call") (codes "relax") r ≡ b →
          Same (cond a call.Awake (cond b call.Relax (call.Event (ms_of r) (says (codes "hard") r))))
      by true b e f = awake_again
      by false true e f = relax_again
      by false false e f =
          event_again (or_second (is_plain_report r) (is_event_report r) parts.1
          (and_false (has_only (codes "call" ∷ codes "source" ∷ []) r) (must_have (codes "call") (is_one_of (codes "awake" ∷ codes "relax" ∷ [])) r) (no_plain (get (codes "call") r) e f)))

  pub same_report : SameReport d r
  same_report = let s = same_call in record { source = s.0; call = s.1; form = s.2 }
