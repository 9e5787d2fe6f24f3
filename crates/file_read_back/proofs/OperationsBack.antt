-- An operation that is written again says the same.
use Rattle.std.proofs.Common.{◌≡◌, ◌∙◌, ◌&&◌, ℕ, List, [], ◌∷◌, codes, Bool, true, false, not, cond, bytes_eq, nat_le, length, find, Option, Some, None, option_map, option_and_then, unwrap_or, is_some, refl, sym, ap, ap₂}
use Rattle.std.specs.List.{list_all, list_any}
use Rattle.std.proofs.lemmas.Bool.{and_parts, and_from, false≢true}
use Rattle.serde_json.specs.Data.{Data, string}
use Rattle.serde_json.specs.Find.{get, as_str, as_bool, as_number, as_u64}
use Rattle.sleep_model.specs.declared.machine.Op.{Op}
use Rattle.sleep_model.specs.declared.machine.Op.TheVariants.{Read, Save, State, Autosleep, Sleep, SleepD, FreezePoint, Post, Wait, Runtime, Link, LinkState, Awake, Relax, Event}
use Rattle.sleep_model.specs.Text.{device, source, mark, runtime_word, link_word}
use Rattle.borrowed_json.specs.Look.{is_some_and, is_none_or, is_text, has_only, text_at, must_have, may_have, has_text, number_at, word_at, is_string, is_truth, is_within, is_one_of}
use Rattle.file_rules.specs.Form.{Named, is_time, statuses, link_states}
use Rattle.file_rules.specs.Names.{spells_name, is_among_names, devices_named, sources_named}
use Rattle.sleep_model.specs.NameBytes.{is_name}
use Rattle.file_rules.specs.Spelled.{index_among}
use Rattle.file_rules.specs.Limits.{times_of}
use Rattle.file_rules.specs.Operations.{Operation, operation, operations, row_of, fits_row, names_source, names_device_at, names_device, has_count, is_state_form, has_short_text, has_length, has_mark, is_runtime_form, has_ends_named, is_link_state_form, has_source, is_event_form, plain, users, tasks, everyone, Known, known_of, thing_at, ms_of, says, spelled_op, whole_op, whole_step, whole_marks}
use Rattle.file_rules.specs.Whole.{whole_machine}
use Rattle.machine_file.specs.Spelling.{object_of, op_rows, step_value}
use Rattle.file_rules.proofs.Fitted.{absent}
use Rattle.file_read_back.proofs.Rows.{found, at_name, at_names, named}
use Rattle.machine_file.proofs.Sheets.{are_rising}
use Rattle.file_read_back.proofs.NamesBack.{device_back, source_back, mark_back}
use Rattle.file_read_back.proofs.LinksBack.{spelled}
use Rattle.file_read_back.proofs.Numbers.{number_of, unless_default, number_back, in_range_or, number_form, maybe_back, maybe_form, if_true, truth_back, truth_form}
use Rattle.file_rules.proofs.ScriptsValid.{member_apart}

-- what each word of the table spells, by what is at each name
abbrev spelled_by : Known → (List ℕ → Option Data) → List (List ℕ × Op)
spelled_by known g =
    (codes "read", Read)
    ∷ (codes "save", Save (number_of (g (codes "count"))))
    ∷ (codes "state", State (unwrap_or (option_and_then as_str (g (codes "text"))) []) (unwrap_or (option_and_then as_bool (g (codes "if_saved"))) false))
    ∷ (codes "autosleep", Autosleep (unwrap_or (option_and_then as_str (g (codes "text"))) []))
    ∷ (codes "sleep", Sleep (unwrap_or (number_of (g (codes "ms"))) 0))
    ∷ (codes "sleep_d", SleepD (unwrap_or (number_of (g (codes "ms"))) 0))
    ∷ (codes "freeze_point", FreezePoint)
    ∷ (codes "post", Post (index_among known.marks (unwrap_or (option_and_then as_str (g (codes "mark"))) [])))
    ∷ (codes "wait", Wait (index_among known.marks (unwrap_or (option_and_then as_str (g (codes "mark"))) [])))
    ∷ (codes "runtime", Runtime (index_among known.devices (unwrap_or (option_and_then as_str (g (codes "device"))) [])) (is_some_and (is_text (codes "suspended")) (g (codes "to"))))
    ∷ (codes "link", Link (index_among known.devices (unwrap_or (option_and_then as_str (g (codes "supplier"))) [])) (index_among known.devices (unwrap_or (option_and_then as_str (g (codes "consumer"))) [])))
    ∷ (
      codes "link_state",
      LinkState (index_among known.devices (unwrap_or (option_and_then as_str (g (codes "supplier"))) [])) (index_among known.devices (unwrap_or (option_and_then as_str (g (codes "consumer"))) []))
          (not (is_some_and (is_text (codes "dormant")) (g (codes "to")))),
    )
    ∷ (codes "awake", Awake (index_among known.sources (unwrap_or (option_and_then as_str (g (codes "source"))) [])))
    ∷ (codes "relax", Relax (index_among known.sources (unwrap_or (option_and_then as_str (g (codes "source"))) [])))
    ∷ (codes "event", Event (index_among known.sources (unwrap_or (option_and_then as_str (g (codes "source"))) [])) (unwrap_or (number_of (g (codes "ms"))) 0) (unwrap_or (option_and_then as_bool (g (codes "hard"))) false))
    ∷ []

abbrev op_by : Known → (List ℕ → Option Data) → Op
op_by known g = unwrap_or (option_map (λ r. r.1) (find (λ r. is_some_and (is_text r.0) (g (codes "op"))) (spelled_by known g))) Read

abbrev word_of : Option Data → Option (List ℕ)
word_of r = option_and_then as_str r

-- the members of an operation, written again
abbrev pub rows_again : Data → Data → Op → List (Named (Option Data))
rows_again d o op = op_rows (whole_machine d) (times_of o) op

-- written so, it says the same, in form
pub record SameOp (d o : Data) (op : Op) : Type 0 where
  pub word : (x : List ℕ) → has_text (codes "op") x (object_of (rows_again d o op)) ≡ has_text (codes "op") x o
  pub times : times_of (object_of (rows_again d o op)) ≡ times_of o
  pub source : word_at (codes "source") (object_of (rows_again d o op)) ≡ word_at (codes "source") o
  pub device : word_at (codes "device") (object_of (rows_again d o op)) ≡ word_at (codes "device") o
  pub supplier : word_at (codes "supplier") (object_of (rows_again d o op)) ≡ word_at (codes "supplier") o
  pub consumer : word_at (codes "consumer") (object_of (rows_again d o op)) ≡ word_at (codes "consumer") o
  pub mark : word_at (codes "mark") (object_of (rows_again d o op)) ≡ word_at (codes "mark") o
  pub spelled : whole_op (known_of d) (object_of (rows_again d o op)) ≡ op
  pub form : is_some_and (fits_row (object_of (rows_again d o op))) (row_of (object_of (rows_again d o op))) ≡ true

-- what is known of an operation of a file that keeps the rules
pub record ValidOperation (d o : Data) : Type 0 where
  pub form : is_some_and (fits_row o) (row_of o) ≡ true
  pub source : names_source (sources_named d) o ≡ true
  pub device : names_device (devices_named d) o ≡ true
  pub mark : is_none_or (is_among_names (whole_marks d)) (word_at (codes "mark") o) ≡ true

no_word : (r : Option Data) → r ≡ None → word_of r ≡ None
no_word r e = ap word_of e

pub among_word : (names : List (List ℕ)) (r : Option Data) → is_some_and is_string r ≡ true → is_none_or (is_among_names names) (word_of r) ≡ true → is_among_names names (unwrap_or (word_of r) []) ≡ true
among_word names None e h = absurd (false≢true e)
among_word names (Some x) e h = by (as_str x) e h
  where
    by : (w : Option (List ℕ)) → is_some w ≡ true → is_none_or (is_among_names names) w ≡ true → is_among_names names (unwrap_or w []) ≡ true
    by None e h = absurd (false≢true e)
    by (Some s) e h = h

pub some_string : (r : Option Data) → is_some_and is_string r ≡ true → word_of r ≡ Some (unwrap_or (word_of r) [])
some_string None e = absurd (false≢true e)
some_string (Some x) e = by (as_str x) e
  where
    by : (w : Option (List ℕ)) → is_some w ≡ true → w ≡ Some (unwrap_or w [])
    by None e = absurd (false≢true e)
    by (Some s) e = refl

some_passes : (p : List ℕ → Bool) (w : Option (List ℕ)) → is_some_and p w ≡ true → is_some w ≡ true
some_passes p None e = absurd (false≢true e)
some_passes p (Some s) e = refl

pub name_string : (r : Option Data) → is_some_and spells_name r ≡ true → is_some_and is_string r ≡ true
name_string None e = absurd (false≢true e)
name_string (Some x) e = some_passes is_name (as_str x) e

short_back : (r : Option Data) → is_some_and (λ x. is_some_and (λ s. nat_le (length s) 32) (as_str x)) r ≡ true → nat_le (length (unwrap_or (word_of r) [])) 32 ≡ true
short_back None e = absurd (false≢true e)
short_back (Some x) e = by (as_str x) e
  where
    by : (w : Option (List ℕ)) → is_some_and (λ s. nat_le (length s) 32) w ≡ true → nat_le (length (unwrap_or w [])) 32 ≡ true
    by None e = absurd (false≢true e)
    by (Some s) e = e

length_back : (r : Option Data) → is_some_and (is_time 1) r ≡ true → (nat_le 1 (unwrap_or (number_of r) 0) && nat_le (unwrap_or (number_of r) 0) 86400000) ≡ true
length_back None e = absurd (false≢true e)
length_back (Some x) e = by (option_and_then as_u64 (as_number x)) e
  where
    by : (w : Option ℕ) → is_some_and (λ n. nat_le 1 n && nat_le n 86400000) w ≡ true → (nat_le 1 (unwrap_or w 0) && nat_le (unwrap_or w 0) 86400000) ≡ true
    by None e = absurd (false≢true e)
    by (Some n) e = e

spelled_as : {s t : List ℕ} → s ≡ t → is_name t ≡ true → is_name s ≡ true
spelled_as e h = ap is_name e ∙ h

status_back : (b : Bool) → bytes_eq (runtime_word b) (codes "suspended") ≡ b
status_back true = refl
status_back false = refl

active_back : (b : Bool) → not (bytes_eq (link_word b) (codes "dormant")) ≡ b
active_back true = refl
active_back false = refl

active_form : (b : Bool) → is_one_of link_states (string (link_word b)) ≡ true
active_form true = refl
active_form false = refl

status_form : (b : Bool) → is_one_of statuses (string (runtime_word b)) ≡ true
status_form true = refl
status_form false = refl

module _ (d o : Data) where
  -- the facts of one row
  module _ (r : Operation) (is : has_text (codes "op") r.word o ≡ true) (fits : fits_row o r ≡ true) where
    abbrev names : List (List ℕ)
    names = codes "op" ∷ codes "times" ∷ r.members

    front : (has_only names o && may_have (codes "times") (is_within 1 20000) o) ≡ true
    front = (and_parts (has_only names o && may_have (codes "times") (is_within 1 20000) o) (r.form o) fits).0

    only : has_only names o ≡ true
    only = (and_parts (has_only names o) (may_have (codes "times") (is_within 1 20000) o) front).0

    often : (nat_le 1 (times_of o) && nat_le (times_of o) 20000) ≡ true
    often = in_range_or 1 20000 1 (get (codes "times") o) (and_parts (has_only names o) (may_have (codes "times") (is_within 1 20000) o) front).1 refl

    pub formed : r.form o ≡ true
    formed = (and_parts (has_only names o && may_have (codes "times") (is_within 1 20000) o) (r.form o) fits).1

    -- a member that is not of the row is not there
    pub none_at : (k : List ℕ) → list_any (bytes_eq k) names ≡ false → None ≡ word_at k o
    none_at k n = sym (ap word_of (absent names k o only n))

    -- both ends of a link, in the rows and in the value
    abbrev pub SameEnds : Op → Type 0
    SameEnds op =
        (word_of (found (rows_again d o op) (codes "supplier")) ≡ word_at (codes "supplier") o) × (word_of (found (rows_again d o op) (codes "consumer")) ≡ word_at (codes "consumer") o)

    -- an operation that has no such members
    pub endless : list_any (bytes_eq (codes "supplier")) names ≡ false → list_any (bytes_eq (codes "consumer")) names ≡ false →
        (None ≡ word_at (codes "supplier") o) × (None ≡ word_at (codes "consumer") o)
    endless s c = (none_at (codes "supplier") s, none_at (codes "consumer") c)

    -- what is left to be shown of a row
    pub made : (op : Op) → are_rising (rows_again d o op) ≡ true → found (rows_again d o op) (codes "op") ≡ Some (string r.word) →
        found (rows_again d o op) (codes "times") ≡ unless_default 1 (times_of o) →
        list_all (λ x. list_any (bytes_eq x.name) names) (rows_again d o op) ≡ true →
        find (λ q. bytes_eq r.word q.word) operations ≡ Some r →
        word_of (found (rows_again d o op) (codes "source")) ≡ word_at (codes "source") o →
        word_of (found (rows_again d o op) (codes "device")) ≡ word_at (codes "device") o →
        word_of (found (rows_again d o op) (codes "mark")) ≡ word_at (codes "mark") o → SameEnds op →
        op_by (known_of d) (found (rows_again d o op)) ≡ op →
        r.form (object_of (rows_again d o op)) ≡ true →
        SameOp d o op
    made op rising word times own row source device mark ends spells form =
        let at = at_name (rows_again d o op) rising in record {
          word = λ x. ap (is_some_and (is_text x)) (at (codes "op") ∙ word) ∙ sym (member_apart (get (codes "op") o) r.word x is);
          times = ap (λ q. unwrap_or (number_of q) 1) (at (codes "times") ∙ times) ∙ number_back 1 (times_of o);
          source = ap word_of (at (codes "source")) ∙ source;
          device = ap word_of (at (codes "device")) ∙ device;
          supplier = ap word_of (at (codes "supplier")) ∙ ends.0;
          consumer = ap word_of (at (codes "consumer")) ∙ ends.1;
          mark = ap word_of (at (codes "mark")) ∙ mark;
          spelled = ap (op_by (known_of d)) (at_names (rows_again d o op) rising) ∙ spells;
          form =
              ap (is_some_and (fits_row (object_of (rows_again d o op)))) (ap (λ q. find (λ x. is_some_and (is_text x.word) q) operations) (at (codes "op") ∙ word) ∙ row)
              ∙ and_from _ _ (and_from _ _ (named names (rows_again d o op) rising own) (ap (is_none_or (is_within 1 20000)) (at (codes "times") ∙ times) ∙ number_form 1 20000 1 (times_of o) often)) form;
        }

  module _ (kept : ValidOperation d o) where
    abbrev of_row : List (List ℕ) → List ℕ → (Data → Bool) → List (List ℕ) → Operation
    of_row makers word form members = operation word members form makers

    read_again : has_text (codes "op") (codes "read") o ≡ true → fits_row o (of_row users (codes "read") plain []) ≡ true → SameOp d o Read
    read_again is fits =
        let r = of_row users (codes "read") plain [] in
        made r is fits Read refl refl refl refl refl (none_at r is fits (codes "source") refl) (none_at r is fits (codes "device") refl) (none_at r is fits (codes "mark") refl) (endless r is fits refl refl) refl refl

    save_again : has_text (codes "op") (codes "save") o ≡ true → fits_row o (of_row users (codes "save") has_count (codes "count" ∷ [])) ≡ true → SameOp d o (Save (number_at (codes "count") o))
    save_again is fits =
        let r = of_row users (codes "save") has_count (codes "count" ∷ []) in
        let op = Save (number_at (codes "count") o) in
        made r is fits op refl refl refl refl refl (none_at r is fits (codes "source") refl) (none_at r is fits (codes "device") refl) (none_at r is fits (codes "mark") refl) (endless r is fits refl refl)
        (ap Save (maybe_back (number_at (codes "count") o)))
        (ap (is_none_or (is_within 0 4294967295)) (at_name (rows_again d o op) refl (codes "count")) ∙ maybe_form 0 4294967295 (get (codes "count") o) (formed r is fits))

    state_again : has_text (codes "op") (codes "state") o ≡ true → fits_row o (of_row users (codes "state") is_state_form (codes "text" ∷ codes "if_saved" ∷ [])) ≡ true →
        SameOp d o (State (text_at (codes "text") o) (says (codes "if_saved") o))
    state_again is fits =
        let r = of_row users (codes "state") is_state_form (codes "text" ∷ codes "if_saved" ∷ []) in
        let op = State (text_at (codes "text") o) (says (codes "if_saved") o) in
        let form = and_parts (has_short_text o) (may_have (codes "if_saved") is_truth o) (formed r is fits) in
        made r is fits op refl refl refl refl refl (none_at r is fits (codes "source") refl) (none_at r is fits (codes "device") refl) (none_at r is fits (codes "mark") refl) (endless r is fits refl refl)
        (ap (State (text_at (codes "text") o)) (truth_back (says (codes "if_saved") o)))
        (and_from _ _ (ap (is_some_and (λ x. is_some_and (λ s. nat_le (length s) 32) (as_str x))) (at_name (rows_again d o op) refl (codes "text")) ∙ short_back (get (codes "text") o) form.0)
        (ap (is_none_or is_truth) (at_name (rows_again d o op) refl (codes "if_saved")) ∙ truth_form (says (codes "if_saved") o)))

    autosleep_again : has_text (codes "op") (codes "autosleep") o ≡ true → fits_row o (of_row users (codes "autosleep") has_short_text (codes "text" ∷ [])) ≡ true →
        SameOp d o (Autosleep (text_at (codes "text") o))
    autosleep_again is fits =
        let r = of_row users (codes "autosleep") has_short_text (codes "text" ∷ []) in
        let op = Autosleep (text_at (codes "text") o) in
        made r is fits op refl refl refl refl refl (none_at r is fits (codes "source") refl) (none_at r is fits (codes "device") refl) (none_at r is fits (codes "mark") refl) (endless r is fits refl refl) refl
        (ap (is_some_and (λ x. is_some_and (λ s. nat_le (length s) 32) (as_str x))) (at_name (rows_again d o op) refl (codes "text")) ∙ short_back (get (codes "text") o) (formed r is fits))

    sleep_again : has_text (codes "op") (codes "sleep") o ≡ true → fits_row o (of_row everyone (codes "sleep") has_length (codes "ms" ∷ [])) ≡ true → SameOp d o (Sleep (ms_of o))
    sleep_again is fits =
        let r = of_row everyone (codes "sleep") has_length (codes "ms" ∷ []) in
        let op = Sleep (ms_of o) in
        made r is fits op refl refl refl refl refl (none_at r is fits (codes "source") refl) (none_at r is fits (codes "device") refl) (none_at r is fits (codes "mark") refl) (endless r is fits refl refl) refl
        (ap (is_some_and (is_time 1)) (at_name (rows_again d o op) refl (codes "ms")) ∙ length_back (get (codes "ms") o) (formed r is fits))

    sleep_d_again : has_text (codes "op") (codes "sleep_d") o ≡ true → fits_row o (of_row tasks (codes "sleep_d") has_length (codes "ms" ∷ [])) ≡ true → SameOp d o (SleepD (ms_of o))
    sleep_d_again is fits =
        let r = of_row tasks (codes "sleep_d") has_length (codes "ms" ∷ []) in
        let op = SleepD (ms_of o) in
        made r is fits op refl refl refl refl refl (none_at r is fits (codes "source") refl) (none_at r is fits (codes "device") refl) (none_at r is fits (codes "mark") refl) (endless r is fits refl refl) refl
        (ap (is_some_and (is_time 1)) (at_name (rows_again d o op) refl (codes "ms")) ∙ length_back (get (codes "ms") o) (formed r is fits))

    freeze_point_again : has_text (codes "op") (codes "freeze_point") o ≡ true → fits_row o (of_row tasks (codes "freeze_point") plain []) ≡ true → SameOp d o FreezePoint
    freeze_point_again is fits =
        let r = of_row tasks (codes "freeze_point") plain [] in
        made r is fits FreezePoint refl refl refl refl refl (none_at r is fits (codes "source") refl) (none_at r is fits (codes "device") refl) (none_at r is fits (codes "mark") refl) (endless r is fits refl refl) refl refl

    -- the name of the mark, of the device or of the source
    mark_same : has_mark o ≡ true → mark (whole_machine d) (thing_at (codes "mark") (whole_marks d) o) ≡ text_at (codes "mark") o
    mark_same e = mark_back d (text_at (codes "mark") o) (among_word (whole_marks d) (get (codes "mark") o) (name_string (get (codes "mark") o) e) kept.mark)

    device_same : (member : List ℕ) → names_device_at member (devices_named d) o ≡ true → must_have member is_string o ≡ true →
        device (whole_machine d) (thing_at member (devices_named d) o) ≡ text_at member o
    device_same member h e = device_back d (text_at member o) (among_word (devices_named d) (get member o) e h)

    -- each device that it may name
    named_devices : (names_device_at (codes "device") (devices_named d) o ≡ true) × (names_device_at (codes "supplier") (devices_named d) o ≡ true) × (names_device_at (codes "consumer") (devices_named d) o ≡ true)
    named_devices =
        let two =
        and_parts (names_device_at (codes "device") (devices_named d) o && names_device_at (codes "supplier") (devices_named d) o) (names_device_at (codes "consumer") (devices_named d) o) kept.device in
        let one = and_parts (names_device_at (codes "device") (devices_named d) o) (names_device_at (codes "supplier") (devices_named d) o) two.0 in
        (one.0, one.1, two.1)

    source_same : has_source o ≡ true → source (whole_machine d) (thing_at (codes "source") (sources_named d) o) ≡ text_at (codes "source") o
    source_same e = source_back d (text_at (codes "source") o) (among_word (sources_named d) (get (codes "source") o) e kept.source)

    post_again : has_text (codes "op") (codes "post") o ≡ true → fits_row o (of_row everyone (codes "post") has_mark (codes "mark" ∷ [])) ≡ true →
        SameOp d o (Post (thing_at (codes "mark") (whole_marks d) o))
    post_again is fits =
        let r = of_row everyone (codes "post") has_mark (codes "mark" ∷ []) in
        let op = Post (thing_at (codes "mark") (whole_marks d) o) in
        let form : has_mark o ≡ true = formed r is fits in
        made r is fits op refl refl refl refl refl (none_at r is fits (codes "source") refl) (none_at r is fits (codes "device") refl)
        (ap Some (mark_same form) ∙ sym (some_string (get (codes "mark") o) (name_string (get (codes "mark") o) form))) (endless r is fits refl refl)
        (ap (λ s. Post (index_among (whole_marks d) s)) (mark_same form))
        (ap (is_some_and spells_name) (at_name (rows_again d o op) refl (codes "mark")) ∙ spelled_as (mark_same form) (spelled (get (codes "mark") o) form))

    wait_again : has_text (codes "op") (codes "wait") o ≡ true → fits_row o (of_row everyone (codes "wait") has_mark (codes "mark" ∷ [])) ≡ true →
        SameOp d o (Wait (thing_at (codes "mark") (whole_marks d) o))
    wait_again is fits =
        let r = of_row everyone (codes "wait") has_mark (codes "mark" ∷ []) in
        let op = Wait (thing_at (codes "mark") (whole_marks d) o) in
        let form : has_mark o ≡ true = formed r is fits in
        made r is fits op refl refl refl refl refl (none_at r is fits (codes "source") refl) (none_at r is fits (codes "device") refl)
        (ap Some (mark_same form) ∙ sym (some_string (get (codes "mark") o) (name_string (get (codes "mark") o) form))) (endless r is fits refl refl)
        (ap (λ s. Wait (index_among (whole_marks d) s)) (mark_same form))
        (ap (is_some_and spells_name) (at_name (rows_again d o op) refl (codes "mark")) ∙ spelled_as (mark_same form) (spelled (get (codes "mark") o) form))

    runtime_again : has_text (codes "op") (codes "runtime") o ≡ true → fits_row o (of_row tasks (codes "runtime") is_runtime_form (codes "device" ∷ codes "to" ∷ [])) ≡ true →
        SameOp d o (Runtime (thing_at (codes "device") (devices_named d) o) (has_text (codes "to") (codes "suspended") o))
    runtime_again is fits =
        let r = of_row tasks (codes "runtime") is_runtime_form (codes "device" ∷ codes "to" ∷ []) in
        let op = Runtime (thing_at (codes "device") (devices_named d) o) (has_text (codes "to") (codes "suspended") o) in
        let form = and_parts (must_have (codes "device") is_string o) (must_have (codes "to") (is_one_of statuses) o) (formed r is fits) in
        made r is fits op refl refl refl refl refl (none_at r is fits (codes "source") refl)
        (ap Some (device_same (codes "device") named_devices.0 form.0) ∙ sym (some_string (get (codes "device") o) form.0)) (none_at r is fits (codes "mark") refl) (endless r is fits refl refl)
        (ap₂ (λ s b. Runtime (index_among (devices_named d) s) b) (device_same (codes "device") named_devices.0 form.0) (status_back (has_text (codes "to") (codes "suspended") o)))
        (and_from _ _ (ap (is_some_and is_string) (at_name (rows_again d o op) refl (codes "device")))
        (ap (is_some_and (is_one_of statuses)) (at_name (rows_again d o op) refl (codes "to")) ∙ status_form (has_text (codes "to") (codes "suspended") o)))

    -- both ends of a link, by the form
    module _ (ends : has_ends_named o ≡ true) where
      given : (must_have (codes "supplier") is_string o ≡ true) × (must_have (codes "consumer") is_string o ≡ true)
      given = and_parts (must_have (codes "supplier") is_string o) (must_have (codes "consumer") is_string o) ends

      supplier_same : device (whole_machine d) (thing_at (codes "supplier") (devices_named d) o) ≡ text_at (codes "supplier") o
      supplier_same = device_same (codes "supplier") named_devices.1 given.0

      consumer_same : device (whole_machine d) (thing_at (codes "consumer") (devices_named d) o) ≡ text_at (codes "consumer") o
      consumer_same = device_same (codes "consumer") named_devices.2 given.1

      supplier_word : Some (device (whole_machine d) (thing_at (codes "supplier") (devices_named d) o)) ≡ word_at (codes "supplier") o
      supplier_word = ap Some supplier_same ∙ sym (some_string (get (codes "supplier") o) given.0)

      consumer_word : Some (device (whole_machine d) (thing_at (codes "consumer") (devices_named d) o)) ≡ word_at (codes "consumer") o
      consumer_word = ap Some consumer_same ∙ sym (some_string (get (codes "consumer") o) given.1)

    link_again : has_text (codes "op") (codes "link") o ≡ true → fits_row o (of_row tasks (codes "link") has_ends_named (codes "supplier" ∷ codes "consumer" ∷ [])) ≡ true →
        SameOp d o (Link (thing_at (codes "supplier") (devices_named d) o) (thing_at (codes "consumer") (devices_named d) o))
    link_again is fits =
        let r = of_row tasks (codes "link") has_ends_named (codes "supplier" ∷ codes "consumer" ∷ []) in
        let op = Link (thing_at (codes "supplier") (devices_named d) o) (thing_at (codes "consumer") (devices_named d) o) in
        let form : has_ends_named o ≡ true = formed r is fits in
        made r is fits op refl refl refl refl refl (none_at r is fits (codes "source") refl) (none_at r is fits (codes "device") refl) (none_at r is fits (codes "mark") refl)
        (supplier_word form, consumer_word form)
        (ap₂ (λ s c. Link (index_among (devices_named d) s) (index_among (devices_named d) c)) (supplier_same form) (consumer_same form))
        (and_from _ _ (ap (is_some_and is_string) (at_name (rows_again d o op) refl (codes "supplier"))) (ap (is_some_and is_string) (at_name (rows_again d o op) refl (codes "consumer"))))

    link_state_again : has_text (codes "op") (codes "link_state") o ≡ true → fits_row o (of_row tasks (codes "link_state") is_link_state_form (codes "supplier" ∷ codes "consumer" ∷ codes "to" ∷ [])) ≡ true →
        SameOp d o (LinkState (thing_at (codes "supplier") (devices_named d) o) (thing_at (codes "consumer") (devices_named d) o) (not (has_text (codes "to") (codes "dormant") o)))
    link_state_again is fits =
        let r = of_row tasks (codes "link_state") is_link_state_form (codes "supplier" ∷ codes "consumer" ∷ codes "to" ∷ []) in
        let active = not (has_text (codes "to") (codes "dormant") o) in
        let op = LinkState (thing_at (codes "supplier") (devices_named d) o) (thing_at (codes "consumer") (devices_named d) o) active in
        let form = (and_parts (has_ends_named o) (must_have (codes "to") (is_one_of link_states) o) (formed r is fits)).0 in
        made r is fits op refl refl refl refl refl (none_at r is fits (codes "source") refl) (none_at r is fits (codes "device") refl) (none_at r is fits (codes "mark") refl)
        (supplier_word form, consumer_word form)
        (λ i. LinkState (index_among (devices_named d) (supplier_same form i)) (index_among (devices_named d) (consumer_same form i)) (active_back active i))
        (and_from _ _ (and_from _ _ (ap (is_some_and is_string) (at_name (rows_again d o op) refl (codes "supplier"))) (ap (is_some_and is_string) (at_name (rows_again d o op) refl (codes "consumer"))))
        (ap (is_some_and (is_one_of link_states)) (at_name (rows_again d o op) refl (codes "to")) ∙ active_form active))

    awake_again : has_text (codes "op") (codes "awake") o ≡ true → fits_row o (of_row everyone (codes "awake") has_source (codes "source" ∷ [])) ≡ true →
        SameOp d o (Awake (thing_at (codes "source") (sources_named d) o))
    awake_again is fits =
        let r = of_row everyone (codes "awake") has_source (codes "source" ∷ []) in
        let op = Awake (thing_at (codes "source") (sources_named d) o) in
        let form : has_source o ≡ true = formed r is fits in
        made r is fits op refl refl refl refl refl (ap Some (source_same form) ∙ sym (some_string (get (codes "source") o) form))
        (none_at r is fits (codes "device") refl) (none_at r is fits (codes "mark") refl) (endless r is fits refl refl)
        (ap (λ s. Awake (index_among (sources_named d) s)) (source_same form))
        (ap (is_some_and is_string) (at_name (rows_again d o op) refl (codes "source")))

    relax_again : has_text (codes "op") (codes "relax") o ≡ true → fits_row o (of_row everyone (codes "relax") has_source (codes "source" ∷ [])) ≡ true →
        SameOp d o (Relax (thing_at (codes "source") (sources_named d) o))
    relax_again is fits =
        let r = of_row everyone (codes "relax") has_source (codes "source" ∷ []) in
        let op = Relax (thing_at (codes "source") (sources_named d) o) in
        let form : has_source o ≡ true = formed r is fits in
        made r is fits op refl refl refl refl refl (ap Some (source_same form) ∙ sym (some_string (get (codes "source") o) form))
        (none_at r is fits (codes "device") refl) (none_at r is fits (codes "mark") refl) (endless r is fits refl refl)
        (ap (λ s. Relax (index_among (sources_named d) s)) (source_same form))
        (ap (is_some_and is_string) (at_name (rows_again d o op) refl (codes "source")))

    event_again : has_text (codes "op") (codes "event") o ≡ true → fits_row o (of_row everyone (codes "event") is_event_form (codes "source" ∷ codes "ms" ∷ codes "hard" ∷ [])) ≡ true →
        SameOp d o (Event (thing_at (codes "source") (sources_named d) o) (ms_of o) (says (codes "hard") o))
    event_again is fits =
        let r = of_row everyone (codes "event") is_event_form (codes "source" ∷ codes "ms" ∷ codes "hard" ∷ []) in
        let op = Event (thing_at (codes "source") (sources_named d) o) (ms_of o) (says (codes "hard") o) in
        let both = and_parts (has_source o && may_have (codes "ms") (is_time 0) o) (may_have (codes "hard") is_truth o) (formed r is fits) in
        let form = and_parts (has_source o) (may_have (codes "ms") (is_time 0) o) both.0 in
        made r is fits op refl refl refl refl refl (ap Some (source_same form.0) ∙ sym (some_string (get (codes "source") o) form.0))
        (none_at r is fits (codes "device") refl) (none_at r is fits (codes "mark") refl) (endless r is fits refl refl)
        (ap (λ s. Event (index_among (sources_named d) s) (unwrap_or (number_of (unless_default 0 (ms_of o))) 0) (unwrap_or (option_and_then as_bool (if_true (says (codes "hard") o))) false)) (source_same form.0)
        ∙ ap₂ (λ n b. Event (thing_at (codes "source") (sources_named d) o) n b) (number_back 0 (ms_of o)) (truth_back (says (codes "hard") o)))
        (and_from _ _ (and_from _ _ (ap (is_some_and is_string) (at_name (rows_again d o op) refl (codes "source")))
        (ap (is_none_or (is_time 0)) (at_name (rows_again d o op) refl (codes "ms")) ∙ number_form 0 86400000 0 (ms_of o) (in_range_or 0 86400000 0 (get (codes "ms") o) form.1 refl)))
        (ap (is_none_or is_truth) (at_name (rows_again d o op) refl (codes "hard")) ∙ truth_form (says (codes "hard") o)))

-- ---- the row that is found

-- what is shown of each row's word holds of what the found word spells
abbrev Along : Data → (Op → Type 0) → List Operation → List (List ℕ × Op) → Type 0
Along o P [] ops = Unit {0}
Along o P (r ∷ rows) [] = ⊥
Along o P (r ∷ rows) (q ∷ ops) = (r.word ≡ q.0) × (has_text (codes "op") r.word o ≡ true → fits_row o r ≡ true → P q.1) × Along o P rows ops

along : (o : Data) (P : Op → Type 0) (rows : List Operation) (ops : List (List ℕ × Op)) → Along o P rows ops →
    is_some_and (fits_row o) (find (λ r. has_text (codes "op") r.word o) rows) ≡ true →
    P (unwrap_or (option_map (λ q. q.1) (find (λ q. has_text (codes "op") q.0 o) ops)) Read)
along o P [] ops a e = absurd (false≢true e)
along o P (r ∷ rows) [] a e = absurd a
along o P (r ∷ rows) (q ∷ ops) a e = by (has_text (codes "op") r.word o) (has_text (codes "op") q.0 o) refl (ap (λ x. has_text (codes "op") x o) a.0) (along o P rows ops a.2) e
  where
    by : (b c : Bool) → has_text (codes "op") r.word o ≡ b → b ≡ c →
        (is_some_and (fits_row o) (find (λ x. has_text (codes "op") x.word o) rows) ≡ true → P (unwrap_or (option_map (λ x. x.1) (find (λ x. has_text (codes "op") x.0 o) ops)) Read)) →
        is_some_and (fits_row o) (cond b (Some r) (find (λ x. has_text (codes "op") x.word o) rows)) ≡ true →
        P (unwrap_or (option_map (λ x. x.1) (cond c (Some q) (find (λ x. has_text (codes "op") x.0 o) ops))) Read)
    by true true is s rest h = a.1 is h
    by true false is s rest h = absurd (false≢true (sym s))
    by false true is s rest h = absurd (false≢true s)
    by false false is s rest h = rest h

-- an operation, written again
abbrev pub op_again : Data → Data → Data
op_again d o = step_value (whole_machine d) (whole_step (known_of d) o)

pub same_op : (d o : Data) → ValidOperation d o → SameOp d o (whole_op (known_of d) o)
same_op d o kept =
    along o (SameOp d o) operations (spelled_op (known_of d) o) (
      refl,
      read_again d o kept,
      (
        refl,
        save_again d o kept,
        (
          refl,
          state_again d o kept,
          (
            refl,
            autosleep_again d o kept,
            (
              refl,
              sleep_again d o kept,
              (
                refl,
                sleep_d_again d o kept,
                (
                  refl,
                  freeze_point_again d o kept,
                  (
                    refl,
                    post_again d o kept,
                    (
                      refl,
                      wait_again d o kept,
                      (
                        refl,
                        runtime_again d o kept,
                        (
                          refl,
                          link_again d o kept,
                          (
                            refl,
                            link_state_again d o kept,
                            (
                              refl,
                              awake_again d o kept,
                              (
                                refl,
                                relax_again d o kept,
                                (refl, event_again d o kept, tt),
                              ),
                            ),
                          ),
                        ),
                      ),
                    ),
                  ),
                ),
              ),
            ),
          ),
        ),
      ),
    )
    kept.form
