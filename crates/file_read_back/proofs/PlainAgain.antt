-- The value that is written for the machine of a file is one that is read as it is written.
use Rattle.std.proofs.Common.{◌≡◌, ◌∙◌, ◌&&◌, ◌||◌, ◌==◌, ◌<◌, ◌≤◌, ◌^◌, ℕ, suc, List, [], ◌∷◌, map, codes, Bool, true, false, cond, nat_le, nat_abs, find, ℤ, pos, negsuc, Option, Some, None, option_map, option_and_then, unwrap_or, IfSome, IsUtf8, inl, inr, refl, sym, ap, subst, arith, nat_cmp}
use Rattle.std.specs.Prelude.{⊤}
use Rattle.std.specs.List.{list_all}
use Rattle.std.specs.Cmp.Lexicographic.{slice_cmp}
use Rattle.std.specs.Ordering.{is_lt}
use Rattle.std.proofs.lemmas.Bool.{and_parts, and_from, false≢true, eqb-true, leb-true}
use Rattle.json.proofs.Printed.Utf8.{are_ascii, IsUtf8-are_ascii}
use Rattle.serde_json.specs.Data.{Data, null, boolean, number, string, array, object, unsigned, negative, float, member, put}
use Rattle.serde_json.specs.Find.{get, as_number, as_u64}
use Rattle.phase_table.specs.declared.phase.Phase.{Phase}
use Rattle.phase_table.specs.declared.phase.Phase.TheVariants.{Prepare, Suspend, Late, Noirq, Syscore, SyscoreResume, ResumeNoirq, Early, Resume, Complete}
use Rattle.phase_table.specs.Phases.{phase_name}
use Rattle.sleep_model.specs.Accepted.{IsOp, AreSteps, AreScripts, IsReport, AreReports, AreAnswers, IsAccepted}
use Rattle.sleep_model.specs.declared.machine.Machine.{Machine}
use Rattle.sleep_model.specs.declared.machine.Op.{Op}
use Rattle.sleep_model.specs.declared.machine.Op.TheVariants.{Read, Save, State, Autosleep, Sleep, SleepD, FreezePoint, Post, Wait, Runtime, Link, LinkState, Awake, Relax, Event}
use Rattle.sleep_model.specs.declared.machine.SourceCall.{SourceCall}
use Rattle.sleep_model.specs.declared.machine.SourceCall.TheVariants as call
use Rattle.sleep_model.specs.declared.machine.TaskKind.{TaskKind}
use Rattle.sleep_model.specs.declared.machine.TaskKind.TheVariants as kind
use Rattle.sleep_model.specs.declared.machine.What.{What}
use Rattle.sleep_model.specs.declared.machine.What.TheVariants as what
use Rattle.sleep_model.specs.Runtime.{has_bit, is_async, may_wake}
use Rattle.sleep_model.specs.Text.{device, source, kind_word, runtime_word, link_word}
use Rattle.borrowed_json.specs.Look.{is_some_and, is_none_or, text_of, list_in, has_text, number_at, is_within, is_bounded}
use Rattle.file_rules.specs.Form.{Named, is_ret_form, is_notifier_form}
use Rattle.file_rules.specs.Names.{own_name, devices_named, sources_named}
use Rattle.file_rules.specs.Spelled.{link_of}
use Rattle.file_rules.specs.Devices.{whole_device}
use Rattle.file_rules.specs.Operations.{Known, known_of, spelled_op, whole_op, whole_step, whole_script}
use Rattle.file_rules.specs.Answering.{whole_report, whole_answer, thing_of}
use Rattle.file_rules.specs.Whole.{whole_machine, whole_notifier, priority_of, first_broken}
use Rattle.machine_file.specs.Spelling.{count, as_items, as_members, put_if, object_of, list_unless_empty, integer_unless_zero, op_rows, step_value, script_value, device_value, link_value, notifier_value, report_rows, report_value, thing_word, thing_phase, answer_value, machine_value, device_rows, link_rows, notifier_rows, script_rows, answer_rows, machine_rows}
use Rattle.machine_file.proofs.Sheets.{is_before, are_rising, put_first}
use Rattle.file_read_back.proofs.Numbers.{number_of, unless_default, if_true}
use Rattle.file_read_back.proofs.Alike.{EachOf}
use Rattle.file_rules.proofs.Accepted.{accepted}
use Rattle.file_read_back.proofs.LinksBack.{priority_form}
use Rattle.file_read_back.proofs.AnswersBack.{ValidAnswer, thing_named, with_phase, with_attempt, ret_by, ret_written, ret_back, RetBack}
use Rattle.file_read_back.proofs.FileValid.{valid_file}
use Rattle.file_read_back.proofs.TextsIn.{HasTexts, MayHaveTexts, at_texts, of_text, text_utf8, list_texts, device_utf8, source_utf8, mark_utf8}
use Rattle.file_read_back.proofs.WrittenRead.{IsPlain, ArePlain, AreMembers, stands_first}

-- ---- objects of rows

abbrev MayBePlain : ℕ → Option Data → Type 0
MayBePlain n None = ⊤
MayBePlain n (Some d) = IsPlain n d

abbrev EachRow : ℕ → List (Named (Option Data)) → Type 0
EachRow n [] = ⊤
EachRow n (r ∷ rows) = MayBePlain n r.is × EachRow n rows

stands : (k : List ℕ) (rows : List (Named (Option Data))) → is_before k rows ≡ true → are_rising rows ≡ true → stands_first k (as_members rows) ≡ true
stands k [] e f = refl
stands k (r ∷ rows) e f =
    let both = and_parts (is_lt (slice_cmp nat_cmp k r.name)) (is_before k rows) e in
    let rising = and_parts (is_before r.name rows) (are_rising rows) f in
    by both.0 (stands k rows both.1 rising.1) (λ d. put_first r.name d rows rising.0 rising.1) r.is
  where
    by : is_lt (slice_cmp nat_cmp k r.name) ≡ true → stands_first k (as_members rows) ≡ true → ((d : Data) → put r.name d (as_members rows) ≡ member r.name d (as_members rows)) →
        (o : Option Data) → stands_first k (put_if r.name o (as_members rows)) ≡ true
    by here rest first None = rest
    by here rest first (Some d) = ap (stands_first k) (first d) ∙ and_from (is_lt (slice_cmp nat_cmp k r.name)) (stands_first k (as_members rows)) here rest

members_plain : (n : ℕ) (rows : List (Named (Option Data))) → are_rising rows ≡ true → list_all (λ r. are_ascii r.name) rows ≡ true → EachRow n rows → AreMembers n (as_members rows)
members_plain n [] e a h = tt
members_plain n (r ∷ rows) e a h =
    let rising = and_parts (is_before r.name rows) (are_rising rows) e in
    let ascii = and_parts (are_ascii r.name) (list_all (λ x. are_ascii x.name) rows) a in
    by (members_plain n rows rising.1 ascii.1 h.1) (stands r.name rows rising.0 rising.1) (λ d. put_first r.name d rows rising.0 rising.1) ascii.0 r.is h.0
  where
    by : AreMembers n (as_members rows) → stands_first r.name (as_members rows) ≡ true → ((d : Data) → put r.name d (as_members rows) ≡ member r.name d (as_members rows)) → are_ascii r.name ≡ true →
        (o : Option Data) → MayBePlain n o → AreMembers n (put_if r.name o (as_members rows))
    by rest first at ascii None k = rest
    by rest first at ascii (Some d) k = subst (AreMembers n) (sym (at d)) ((IsUtf8-are_ascii r.name ascii, first), (k, rest))

object_plain : (n : ℕ) (rows : List (Named (Option Data))) → are_rising rows ≡ true → list_all (λ r. are_ascii r.name) rows ≡ true → EachRow n rows → IsPlain (suc n) (object_of rows)
object_plain n rows e a h = members_plain n rows e a h

items_plain : (n : ℕ) (ds : List Data) → EachOf (IsPlain n) ds → ArePlain n (as_items ds)
items_plain n [] h = tt
items_plain n (d ∷ ds) h = (h.0, items_plain n ds h.1)

list_plain : (n : ℕ) (ds : List Data) → EachOf (IsPlain n) ds → MayBePlain (suc n) (list_unless_empty ds)
list_plain n [] h = tt
list_plain n (d ∷ ds) h = items_plain n (d ∷ ds) h

number_plain : (n default k : ℕ) → k < 2 ^ 64 → MayBePlain n (unless_default default k)
number_plain n default k h = by (k == default)
  where
    by : (b : Bool) → MayBePlain n (cond b None (Some (count k)))
    by true = tt
    by false = h

maybe_plain : (n : ℕ) (o : Option ℕ) → IfSome o (λ k. k < 4294967296) → MayBePlain n (option_map count o)
maybe_plain n None h = tt
maybe_plain n (Some k) h = omega (arith, h)

truth_plain : (n : ℕ) (b : Bool) → MayBePlain n (if_true b)
truth_plain n true = tt
truth_plain n false = tt

ascii : (s : List ℕ) → are_ascii s ≡ true → IsUtf8 s
ascii s e = IsUtf8-are_ascii s e

-- ---- operations

-- the text that is written is UTF-8
abbrev HasText : Op → Type 0
HasText (State text if_saved) = IsUtf8 text
HasText (Autosleep text) = IsUtf8 text
HasText _ = ⊤

found_text : (t : List ℕ → Bool) (ops : List (List ℕ × Op)) → EachOf (λ q. HasText q.1) ops → HasText (unwrap_or (option_map (λ q. q.1) (find (λ q. t q.0) ops)) Read)
found_text t [] h = tt
found_text t (q ∷ ops) h = by (t q.0) h.0 (found_text t ops h.1)
  where
    by : (b : Bool) → HasText q.1 → HasText (unwrap_or (option_map (λ x. x.1) (find (λ x. t x.0) ops)) Read) → HasText (unwrap_or (option_map (λ x. x.1) (cond b (Some q) (find (λ x. t x.0) ops))) Read)
    by true here rest = here
    by false here rest = rest

op_text : (known : Known) (o : Data) → HasTexts o → HasText (whole_op known o)
op_text known o h =
    found_text (λ word. has_text (codes "op") word o) (spelled_op known o)
    (tt, (tt, (text_utf8 (codes "text") o h, (text_utf8 (codes "text") o h, (tt, (tt, (tt, (tt, (tt, (tt, (tt, (tt, (tt, (tt, (tt, tt)))))))))))))))

status_utf8 : (b : Bool) → IsUtf8 (runtime_word b)
status_utf8 true = ascii (codes "suspended") refl
status_utf8 false = ascii (codes "active") refl

state_utf8 : (b : Bool) → IsUtf8 (link_word b)
state_utf8 true = ascii (codes "active") refl
state_utf8 false = ascii (codes "dormant") refl

module _ (d : Data) (texts : HasTexts d) where
  abbrev m : Machine
  m = whole_machine d

  op_plain : (n : ℕ) (op : Op) → n ≤ 20000 → IsOp m op → HasText op → IsPlain 1 (object_of (op_rows m n op))
  op_plain n Read few is text = object_plain 0 (op_rows m n Read) refl refl (ascii (codes "read") refl, (number_plain 0 1 n (omega arith), tt))
  op_plain n (Save c) few is text = object_plain 0 (op_rows m n (Save c)) refl refl (maybe_plain 0 c is, (ascii (codes "save") refl, (number_plain 0 1 n (omega arith), tt)))
  op_plain n (State t b) few is text = object_plain 0 (op_rows m n (State t b)) refl refl (truth_plain 0 b, (ascii (codes "state") refl, (text, (number_plain 0 1 n (omega arith), tt))))
  op_plain n (Autosleep t) few is text = object_plain 0 (op_rows m n (Autosleep t)) refl refl (ascii (codes "autosleep") refl, (text, (number_plain 0 1 n (omega arith), tt)))
  op_plain n (Sleep ms) few is text = object_plain 0 (op_rows m n (Sleep ms)) refl refl (omega (arith, is), (ascii (codes "sleep") refl, (number_plain 0 1 n (omega arith), tt)))
  op_plain n (SleepD ms) few is text = object_plain 0 (op_rows m n (SleepD ms)) refl refl (omega (arith, is), (ascii (codes "sleep_d") refl, (number_plain 0 1 n (omega arith), tt)))
  op_plain n FreezePoint few is text = object_plain 0 (op_rows m n FreezePoint) refl refl (ascii (codes "freeze_point") refl, (number_plain 0 1 n (omega arith), tt))
  op_plain n (Post x) few is text = object_plain 0 (op_rows m n (Post x)) refl refl (mark_utf8 d texts x, (ascii (codes "post") refl, (number_plain 0 1 n (omega arith), tt)))
  op_plain n (Wait x) few is text = object_plain 0 (op_rows m n (Wait x)) refl refl (mark_utf8 d texts x, (ascii (codes "wait") refl, (number_plain 0 1 n (omega arith), tt)))
  op_plain n (Runtime x b) few is text = object_plain 0 (op_rows m n (Runtime x b)) refl refl (device_utf8 d texts x, (ascii (codes "runtime") refl, (number_plain 0 1 n (omega arith), (status_utf8 b, tt))))
  op_plain n (Link s c) few is text =
      object_plain 0 (op_rows m n (Link s c)) refl refl (device_utf8 d texts c, (ascii (codes "link") refl, (device_utf8 d texts s, (number_plain 0 1 n (omega arith), tt))))
  op_plain n (LinkState s c b) few is text =
      object_plain 0 (op_rows m n (LinkState s c b)) refl refl
      (device_utf8 d texts c, (ascii (codes "link_state") refl, (device_utf8 d texts s, (number_plain 0 1 n (omega arith), (state_utf8 b, tt)))))
  op_plain n (Awake s) few is text = object_plain 0 (op_rows m n (Awake s)) refl refl (ascii (codes "awake") refl, (source_utf8 d texts s, (number_plain 0 1 n (omega arith), tt)))
  op_plain n (Relax s) few is text = object_plain 0 (op_rows m n (Relax s)) refl refl (ascii (codes "relax") refl, (source_utf8 d texts s, (number_plain 0 1 n (omega arith), tt)))
  op_plain n (Event s ms b) few is text =
      object_plain 0 (op_rows m n (Event s ms b)) refl refl (truth_plain 0 b, (number_plain 0 0 ms (omega (arith, is.1)), (ascii (codes "event") refl, (source_utf8 d texts s, (number_plain 0 1 n (omega arith), tt)))))

  steps_plain : (os : List Data) → EachOf HasTexts os → AreSteps m (map (whole_step (known_of d)) os) → EachOf (IsPlain 1) (map (step_value m) (map (whole_step (known_of d)) os))
  steps_plain [] h a = tt
  steps_plain (o ∷ os) h a = (op_plain (unwrap_or (number_at (codes "times") o) 1) (whole_op (known_of d) o) a.1 a.2 (op_text (known_of d) o h.0), steps_plain os h.1 a.3)

  kind_utf8 : (k : TaskKind) → IsUtf8 (kind_word k)
  kind_utf8 kind.User = ascii (codes "user") refl
  kind_utf8 kind.Kthread = ascii (codes "kthread") refl
  kind_utf8 kind.NoFreeze = ascii (codes "nofreeze") refl
  kind_utf8 kind.Irq = ascii (codes "irq") refl

  scripts_plain : (actors : List Data) → EachOf HasTexts actors → AreScripts m (map (whole_script (known_of d)) actors) → EachOf (IsPlain 3) (map (script_value m) (map (whole_script (known_of d)) actors))
  scripts_plain [] h a = tt
  scripts_plain (x ∷ actors) h a =
      let s = whole_script (known_of d) x in
      let often : s.repeat ≤ 1000 = a.1 in (
        object_plain 2 (script_rows m (whole_script (known_of d) x)) refl refl (
          kind_utf8 s.kind,
          (
            text_utf8 (codes "name") x h.0,
            (
              number_plain 2 1 s.repeat (omega arith),
              (list_plain 1 (map (step_value m) (map (whole_step (known_of d)) (list_in (codes "script") x))) (steps_plain (list_in (codes "script") x) (list_texts (codes "script") x h.0) a.2), tt),
            ),
          ),
        ),
        scripts_plain actors h.1 a.3,
      )

  -- ---- devices, links and notifiers

  parent_plain : (p : Option ℕ) → MayBePlain 2 (option_map (λ j. string (device m j)) p)
  parent_plain None = tt
  parent_plain (Some j) = device_utf8 d texts j

  status_plain : (b : Bool) → MayBePlain 2 (cond b (Some (string (codes "suspended"))) None)
  status_plain true = ascii (codes "suspended") refl
  status_plain false = tt

  device_plain : (o : Data) → HasTexts o → IsPlain 3 (device_value m (whole_device (devices_named d) o))
  device_plain o h =
      let x = whole_device (devices_named d) o in
      object_plain 2 (device_rows m (whole_device (devices_named d) o)) refl refl
      (truth_plain 2 (is_async x), (text_utf8 (codes "name") o h, (parent_plain x.parent, (status_plain (has_bit 4 x.flags), (truth_plain 2 (may_wake x), tt)))))

  dormant_plain : (active : Bool) → MayBePlain 2 (cond active None (Some (string (codes "dormant"))))
  dormant_plain true = tt
  dormant_plain false = ascii (codes "dormant") refl

  link_plain : (o : Data) → IsPlain 3 (link_value m (link_of (devices_named d) o))
  link_plain o =
      let x = link_of (devices_named d) o in object_plain 2 (link_rows m (link_of (devices_named d) o)) refl refl (device_utf8 d texts _, (dormant_plain x.active, (device_utf8 d texts _, tt)))

  integer_plain : (z : ℤ) → nat_le (nat_abs z) 1000 ≡ true → MayBePlain 2 (integer_unless_zero z)
  integer_plain (pos n) e = by (n == 0) (leb-true n 1000 e)
    where
      by : (b : Bool) → n ≤ 1000 → MayBePlain 2 (cond b None (Some (count n)))
      by true h = tt
      by false h = omega (arith, h)
  integer_plain (negsuc n) e = let h = leb-true (suc n) 1000 e in omega (arith, h)

  notifier_plain : (o : Data) → HasTexts o → is_notifier_form o ≡ true → IsPlain 3 (notifier_value (whole_notifier o))
  notifier_plain o h form =
      let near = (and_parts _ (is_none_or (is_bounded 1000) (get (codes "priority") o)) form).1 in
      object_plain 2 (notifier_rows (whole_notifier o)) refl refl (text_utf8 (codes "name") o h, (integer_plain (priority_of o) (priority_form (get (codes "priority") o) near), tt))

  -- ---- answers

  word_utf8 : (w : What) → IsUtf8 (thing_word w)
  word_utf8 (what.Device x p) = ascii (codes "device") refl
  word_utf8 (what.Syscore x) = ascii (codes "syscore") refl
  word_utf8 (what.Notifier x) = ascii (codes "notifier") refl
  word_utf8 (what.Platform x) = ascii (codes "platform") refl

  phase_utf8 : (p : Phase) → IsUtf8 (phase_name p)
  phase_utf8 Prepare = ascii (codes "prepare") refl
  phase_utf8 Suspend = ascii (codes "suspend") refl
  phase_utf8 Late = ascii (codes "late") refl
  phase_utf8 Noirq = ascii (codes "noirq") refl
  phase_utf8 Syscore = ascii (codes "syscore") refl
  phase_utf8 SyscoreResume = ascii (codes "syscore_resume") refl
  phase_utf8 ResumeNoirq = ascii (codes "resume_noirq") refl
  phase_utf8 Early = ascii (codes "early") refl
  phase_utf8 Resume = ascii (codes "resume") refl
  phase_utf8 Complete = ascii (codes "complete") refl

  phase_plain : (w : What) → MayBePlain 2 (thing_phase w)
  phase_plain (what.Device x p) = phase_utf8 p
  phase_plain (what.Syscore x) = tt
  phase_plain (what.Notifier x) = tt
  phase_plain (what.Platform x) = tt

  attempt_plain : (r : Option Data) → is_none_or (is_within 1 1000) r ≡ true → MayBePlain 2 (option_map count (number_of r))
  attempt_plain None e = tt
  attempt_plain (Some x) e = by (option_and_then as_u64 (as_number x)) e
    where
      by : (o : Option ℕ) → is_some_and (λ n. nat_le 1 n && nat_le n 1000) o ≡ true → MayBePlain 2 (option_map count o)
      by None k = tt
      by (Some n) k = let h = leb-true n 1000 (and_parts (nat_le 1 n) (nat_le n 1000) k).1 in omega (arith, h)

  few_ret : (n : ℕ) → (n == 0 || n == 1 || false) ≡ true → n < 2 ^ 64
  few_ret n e = by (n == 0) (n == 1) refl refl e
    where
      by : (a b : Bool) → (n == 0) ≡ a → (n == 1) ≡ b → (a || b || false) ≡ true → n < 2 ^ 64
      by true b f g k = let z = eqb-true n 0 f in omega (arith, z)
      by false true f g k = let z = eqb-true n 1 g in omega (arith, z)
      by false false f g k = absurd (false≢true k)

  ret_plain : (r : Option Data) → is_none_or is_ret_form r ≡ true → MayHaveTexts r → MayBePlain 2 r
  ret_plain None e h = tt
  ret_plain (Some null) e h = absurd (false≢true e)
  ret_plain (Some (boolean b)) e h = absurd (false≢true e)
  ret_plain (Some (number (unsigned n))) e h = few_ret n e
  ret_plain (Some (number (negative z))) e h = absurd (false≢true e)
  ret_plain (Some (number (float x))) e h = absurd (false≢true e)
  ret_plain (Some (string s)) e h = h
  ret_plain (Some (array ds)) e h = absurd (false≢true e)
  ret_plain (Some (object ms)) e h = absurd (false≢true e)

  back_plain : (r : Option Data) → RetBack r → MayBePlain 2 r → MayBePlain 2 (ret_written (ret_by r))
  back_plain r (inl e) h = subst (MayBePlain 2) (sym e) h
  back_plain r (inr e) h = subst (MayBePlain 2) (sym e.0) tt

  report_plain : (s : List ℕ) (c : SourceCall) → IsUtf8 s → IsReport c → IsPlain 1 (object_of (report_rows s c))
  report_plain s call.Awake h e = object_plain 0 (report_rows s call.Awake) refl refl (ascii (codes "awake") refl, (h, tt))
  report_plain s call.Relax h e = object_plain 0 (report_rows s call.Relax) refl refl (ascii (codes "relax") refl, (h, tt))
  report_plain s (call.Event ms b) h e = object_plain 0 (report_rows s (call.Event ms b)) refl refl (ascii (codes "event") refl, (truth_plain 0 b, (number_plain 0 0 ms (omega (arith, e)), (h, tt))))
  report_plain s call.Expire h e = absurd e

  reports_plain : (rs : List Data) → AreReports m (map (whole_report (sources_named d)) rs) → EachOf (IsPlain 1) (map (report_value m) (map (whole_report (sources_named d)) rs))
  reports_plain [] a = tt
  reports_plain (r ∷ rs) a =
      (report_plain (source m (whole_report (sources_named d) r).source) (whole_report (sources_named d) r).call (source_utf8 d texts _) a.1, reports_plain rs a.2)

  answers_plain : (os : List Data) → EachOf HasTexts os → EachOf (ValidAnswer d) os → AreAnswers m (map (whole_answer d) os) → EachOf (IsPlain 3) (map (answer_value m) (map (whole_answer d) os))
  answers_plain [] h k a = tt
  answers_plain (o ∷ os) h k a =
      let r = get (codes "ret") o in
      let form = (with_attempt d o k.0).1 in (
        object_plain 2 (answer_rows m (whole_answer d o)) refl refl (
          attempt_plain (get (codes "attempt") o) (with_phase d o k.0).1,
          (
            subst IsUtf8 (sym (thing_named d o k.0).name) (text_utf8 (codes "name") o h.0),
            (
              phase_plain (thing_of d o),
              (
                list_plain 1 (map (report_value m) (map (whole_report (sources_named d)) (list_in (codes "reports") o))) (reports_plain (list_in (codes "reports") o) a.3),
                (back_plain r (ret_back r form) (ret_plain r form (at_texts (codes "ret") o h.0)), (word_utf8 (thing_of d o), tt)),
              ),
            ),
          ),
        ),
        answers_plain os h.1 k.1 a.4,
      )

  -- ---- the machine

  names_plain : (os : List Data) → EachOf HasTexts os → EachOf (IsPlain 3) (map string (map text_of os))
  names_plain [] h = tt
  names_plain (o ∷ os) h = (of_text o h.0, names_plain os h.1)

  devices_plain : (os : List Data) → EachOf HasTexts os → EachOf (IsPlain 3) (map (device_value m) (map (whole_device (devices_named d)) os))
  devices_plain [] h = tt
  devices_plain (o ∷ os) h = (device_plain o h.0, devices_plain os h.1)

  links_plain : (os : List Data) → EachOf (IsPlain 3) (map (link_value m) (map (link_of (devices_named d)) os))
  links_plain [] = tt
  links_plain (o ∷ os) = (link_plain o, links_plain os)

  notifiers_plain : (os : List Data) → EachOf HasTexts os → EachOf (λ o. (is_notifier_form o ≡ true) × (own_name o ≡ true)) os → EachOf (IsPlain 3) (map notifier_value (map whole_notifier os))
  notifiers_plain [] h k = tt
  notifiers_plain (o ∷ os) h k = (notifier_plain o h.0 k.0.0, notifiers_plain os h.1 k.1)

  pub machine_plain : first_broken d ≡ None → IsPlain 5 (machine_value m)
  machine_plain unbroken =
      let kept = valid_file d unbroken in
      let fits : IsAccepted m = accepted d unbroken in
      object_plain 4 (machine_rows m) refl refl (
        list_plain 3 _ (scripts_plain (list_in (codes "actors") d) (list_texts (codes "actors") d texts) fits.scripts),
        (
          number_plain 4 1000 m.alarm_ms (let h = fits.alarm_most in omega arith),
          (
            list_plain 3 _ (answers_plain (list_in (codes "answers") d) (list_texts (codes "answers") d texts) kept.answers fits.answers),
            (
              number_plain 4 16 m.auto_cycles (let h = fits.cycles_most in omega arith),
              (
                number_plain 4 1 m.cpus (let h = fits.cpus_most in omega arith),
                (
                  list_plain 3 _ (devices_plain (list_in (codes "devices") d) (list_texts (codes "devices") d texts)),
                  (
                    list_plain 3 _ (links_plain (list_in (codes "links") d)),
                    (
                      list_plain 3 _ (notifiers_plain (list_in (codes "notifiers") d) (list_texts (codes "notifiers") d texts) kept.notifiers),
                      (
                        list_plain 3 _ (names_plain (list_in (codes "sources") d) (list_texts (codes "sources") d texts)),
                        (
                          list_plain 3 _ (names_plain (list_in (codes "syscore") d) (list_texts (codes "syscore") d texts)),
                          (omega arith, tt),
                        ),
                      ),
                    ),
                  ),
                ),
              ),
            ),
          ),
        ),
      )
