-- An actor that is written again says the same.
use Rattle.std.proofs.Common.{◌≡◌, ◌∙◌, ◌&&◌, ◌||◌, ◌*◌, ◌++◌, ℕ, suc, List, [], ◌∷◌, map, flat_map, codes, Bool, true, false, cond, bytes_eq, find, Option, Some, None, option_map, option_and_then, unwrap_or, sum_by, refl, sym, ap, ap₂}
use Rattle.std.specs.List.{list_all, list_any, cons_option}
use Rattle.std.specs.Option.{option_or}
use Rattle.std.specs.Cmp.Lexicographic.{bytes_decides}
use Rattle.std.proofs.lemmas.Bool.{and_parts, and_from, false≢true}
use Rattle.serde_json.specs.Data.{Data, string}
use Rattle.serde_json.specs.Find.{get, as_str}
use Rattle.sleep_model.specs.declared.machine.TaskKind.{TaskKind}
use Rattle.sleep_model.specs.declared.machine.TaskKind.TheVariants.{User, Kthread, NoFreeze, Irq}
use Rattle.borrowed_json.specs.Look.{is_some_and, is_none_or, is_text, is_list, has_only, text_at, must_have, may_have, list_in, word_at, is_string, is_within, is_one_of}
use Rattle.file_rules.specs.Members.{actor_members}
use Rattle.file_rules.specs.Places.{first_operation_of, operation_place}
use Rattle.file_rules.specs.Form.{kinds, is_actor_form}
use Rattle.file_rules.specs.Names.{is_among_names, own_name, spells_name}
use Rattle.file_rules.specs.Rules.{name_of}
use Rattle.file_rules.specs.Limits.{repeat_of, times_if, script_steps}
use Rattle.file_rules.specs.Operations.{Operation, operations, row_of, is_allowed, known_of, whole_step, whole_script, kind_of, marks_of}
use Rattle.file_rules.specs.Whole.{whole_machine}
use Rattle.machine_file.specs.Spelling.{list_unless_empty, script_rows, script_value, step_value}
use Rattle.sleep_model.specs.Text.{kind_word}
use Rattle.file_read_back.proofs.Rows.{at_name, named, list_found}
use Rattle.file_read_back.proofs.LinksBack.{spelled}
use Rattle.file_read_back.proofs.Numbers.{number_of, number_back, in_range_or, number_form}
use Rattle.file_read_back.proofs.Alike.{EachOf, mapped, none_fails, sum_alike}
use Rattle.file_read_back.proofs.OperationsBack.{ValidOperation, op_again, same_op}

-- ---- the kind

-- the kind, by what is at its name
abbrev kind_at : Option Data → TaskKind
kind_at r = cond (is_some_and (is_text (codes "kthread")) r) Kthread (cond (is_some_and (is_text (codes "nofreeze")) r) NoFreeze (cond (is_some_and (is_text (codes "irq")) r) Irq User))

kind_named : (s : List ℕ) → list_any (bytes_eq s) kinds ≡ true → kind_word (cond (bytes_eq s (codes "kthread")) Kthread (cond (bytes_eq s (codes "nofreeze")) NoFreeze (cond (bytes_eq s (codes "irq")) Irq User))) ≡ s
kind_named s e = by (bytes_eq s (codes "user")) (bytes_eq s (codes "kthread")) (bytes_eq s (codes "nofreeze")) (bytes_eq s (codes "irq")) refl refl refl refl e
  where
    by : (u k n i : Bool) → bytes_eq s (codes "user") ≡ u → bytes_eq s (codes "kthread") ≡ k → bytes_eq s (codes "nofreeze") ≡ n → bytes_eq s (codes "irq") ≡ i →
        (u || (k || (n || (i || false)))) ≡ true → kind_word (cond k Kthread (cond n NoFreeze (cond i Irq User))) ≡ s
    by u true n i a b c d h = sym ((bytes_decides s (codes "kthread")).0 b)
    by u false true i a b c d h = sym ((bytes_decides s (codes "nofreeze")).0 c)
    by u false false true a b c d h = sym ((bytes_decides s (codes "irq")).0 d)
    by true false false false a b c d h = sym ((bytes_decides s (codes "user")).0 a)
    by false false false false a b c d h = absurd (false≢true h)

kind_text : (r : Option Data) → is_some_and (is_one_of kinds) r ≡ true → kind_word (kind_at r) ≡ unwrap_or (option_and_then as_str r) []
kind_text None e = absurd (false≢true e)
kind_text (Some x) e = by (as_str x) e
  where
    by : (w : Option (List ℕ)) → is_some_and (λ s. list_any (bytes_eq s) kinds) w ≡ true →
        kind_word (cond (is_some_and (λ s. bytes_eq s (codes "kthread")) w) Kthread (cond (is_some_and (λ s. bytes_eq s (codes "nofreeze")) w) NoFreeze (cond (is_some_and (λ s. bytes_eq s (codes "irq")) w) Irq User))) ≡ unwrap_or w []
    by None h = absurd (false≢true h)
    by (Some s) h = kind_named s h

kind_back : (k : TaskKind) → kind_at (Some (string (kind_word k))) ≡ k
kind_back User = refl
kind_back Kthread = refl
kind_back NoFreeze = refl
kind_back Irq = refl

kind_form : (k : TaskKind) → is_one_of kinds (string (kind_word k)) ≡ true
kind_form User = refl
kind_form Kthread = refl
kind_form NoFreeze = refl
kind_form Irq = refl

pub list_form : (ds : List Data) → is_none_or is_list (list_unless_empty ds) ≡ true
list_form [] = refl
list_form (x ∷ ds) = refl

-- ---- an actor

-- an actor, written again
abbrev pub actor_again : Data → Data → Data
actor_again d a = script_value (whole_machine d) (whole_script (known_of d) a)

-- it says the same, in form
pub record SameActor (d a : Data) : Type 0 where
  pub name : name_of (actor_again d a) ≡ name_of a
  pub kind_word : text_at (codes "kind") (actor_again d a) ≡ text_at (codes "kind") a
  pub kind : kind_of (actor_again d a) ≡ kind_of a
  pub repeat : repeat_of (actor_again d a) ≡ repeat_of a
  pub script : list_in (codes "script") (actor_again d a) ≡ map (op_again d) (list_in (codes "script") a)
  pub form : is_actor_form (actor_again d a) ≡ true
  pub names : own_name (actor_again d a) ≡ true

pub same_actor : (d a : Data) → is_actor_form a ≡ true → own_name a ≡ true → SameActor d a
same_actor d a form spells =
    let named_so = has_only actor_members a && must_have (codes "name") is_string a in
    let last = and_parts (named_so && must_have (codes "kind") (is_one_of kinds) a && may_have (codes "repeat") (is_within 1 1000) a) (may_have (codes "script") is_list a) form in
    let more = and_parts (named_so && must_have (codes "kind") (is_one_of kinds) a) (may_have (codes "repeat") (is_within 1 1000) a) last.0 in
    let kind = (and_parts named_so (must_have (codes "kind") (is_one_of kinds) a) more.0).1 in
    let at = at_name (script_rows (whole_machine d) (whole_script (known_of d) a)) refl in
    let often = in_range_or 1 1000 1 (get (codes "repeat") a) more.1 refl in
    record {
      name = ap (λ r. unwrap_or (option_and_then as_str r) []) (at (codes "name"));
      kind_word = ap (λ r. unwrap_or (option_and_then as_str r) []) (at (codes "kind")) ∙ kind_text (get (codes "kind") a) kind;
      kind = ap kind_at (at (codes "kind")) ∙ kind_back (kind_of a);
      repeat = ap (λ r. unwrap_or (number_of r) 1) (at (codes "repeat")) ∙ number_back 1 (repeat_of a);
      script =
          list_found (script_rows (whole_machine d) (whole_script (known_of d) a)) refl (codes "script") (map (step_value (whole_machine d)) (map (whole_step (known_of d)) (list_in (codes "script") a))) refl
          ∙ mapped (step_value (whole_machine d)) (whole_step (known_of d)) (list_in (codes "script") a);
      form =
          and_from _ _ (and_from _ _ (and_from _ _ (and_from _ _ (named actor_members (script_rows (whole_machine d) (whole_script (known_of d) a)) refl refl)
          (ap (is_some_and is_string) (at (codes "name"))))
          (ap (is_some_and (is_one_of kinds)) (at (codes "kind")) ∙ kind_form (kind_of a)))
          (ap (is_none_or (is_within 1 1000)) (at (codes "repeat")) ∙ number_form 1 1000 1 (repeat_of a) often))
          (ap (is_none_or is_list) (at (codes "script")) ∙ list_form (map (step_value (whole_machine d)) (map (whole_step (known_of d)) (list_in (codes "script") a))));
      names = ap (is_some_and spells_name) (at (codes "name")) ∙ spelled (get (codes "name") a) spells;
    }

-- ---- the operations of actors

-- what is known of an actor of a file that keeps the rules
pub record ValidActor (d a : Data) : Type 0 where
  pub form : is_actor_form a ≡ true
  pub names : own_name a ≡ true
  pub ops : EachOf (ValidOperation d) (list_in (codes "script") a)

pub same_row : (d o : Data) → ValidOperation d o → row_of (op_again d o) ≡ row_of o
same_row d o kept = ap (λ test. find test operations) (λ i (r : Operation). (same_op d o kept).word r.word i)

pub same_allowed : (d a o : Data) → ValidActor d a → ValidOperation d o → is_allowed (actor_again d a) (op_again d o) ≡ is_allowed a o
same_allowed d a o actor kept =
    ap₂ (λ kind row. is_some_and (λ (r : Operation). is_among_names r.makers kind) row) ((same_actor d a actor.form actor.names).kind_word) (same_row d o kept)

-- no operation fails if each passes
pub none_fails_of : (test : Data → Data → Bool) (n : ℕ) (actors : List Data) → EachOf (λ a. list_all (test a) (list_in (codes "script") a) ≡ true) actors → first_operation_of test n actors ≡ None
none_fails_of test n [] h = refl
none_fails_of test n (a ∷ actors) h =
    ap (λ o. option_or (option_map (operation_place n) o) (first_operation_of test (suc n) actors)) (none_fails (test a) (list_in (codes "script") a) h.0)
    ∙ none_fails_of test (suc n) actors h.1

-- ---- marks

option_marks : (v w : Option (List ℕ)) (xs ys : List (List ℕ)) → v ≡ w → xs ≡ ys → cons_option v xs ≡ cons_option w ys
option_marks v w xs ys e f = ap₂ cons_option e f

pub same_marks : (d : Data) (os : List Data) → EachOf (ValidOperation d) os → marks_of (map (op_again d) os) ≡ marks_of os
same_marks d [] h = refl
same_marks d (o ∷ os) h =
    option_marks (word_at (codes "mark") (op_again d o)) (word_at (codes "mark") o) (marks_of (map (op_again d) os)) (marks_of os) (same_op d o h.0).mark (same_marks d os h.1)

pub all_marks : (d : Data) (actors : List Data) → EachOf (ValidActor d) actors →
    flat_map (λ a. marks_of (list_in (codes "script") a)) (map (actor_again d) actors) ≡ flat_map (λ a. marks_of (list_in (codes "script") a)) actors
all_marks d [] h = refl
all_marks d (a ∷ actors) h =
    ap₂ (λ (xs ys : List (List ℕ)). xs ++ ys) (ap marks_of (same_actor d a h.0.form h.0.names).script ∙ same_marks d (list_in (codes "script") a) h.0.ops) (all_marks d actors h.1)

-- ---- how often

each_times : (d : Data) (test : Data → Bool) → ((o : Data) → ValidOperation d o → test (op_again d o) ≡ test o) → (os : List Data) → EachOf (ValidOperation d) os →
    EachOf (λ o. times_if test (op_again d o) ≡ times_if test o) os
each_times d test same [] h = tt
each_times d test same (o ∷ os) h = (ap₂ (λ b n. cond b n 0) (same o h.0) (same_op d o h.0).times, each_times d test same os h.1)

pub same_steps : (d a : Data) (test : Data → Bool) → ((o : Data) → ValidOperation d o → test (op_again d o) ≡ test o) → ValidActor d a → script_steps test (actor_again d a) ≡ script_steps test a
same_steps d a test same kept =
    let actor = same_actor d a kept.form kept.names in
    ap₂ (λ n s. n * s) actor.repeat
    (ap (sum_by (times_if test)) actor.script ∙ sum_alike (times_if test) (op_again d) (times_if test) (list_in (codes "script") a) (each_times d test same (list_in (codes "script") a) kept.ops))
