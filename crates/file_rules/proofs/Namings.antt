-- What a text names, by lists of what has names.
use Rattle.std.proofs.Common.{◌≡◌, ◌≢◌, ◌∙◌, ◌||◌, ℕ, Bool, true, false, cond, List, [], ◌∷◌, map, find, bytes_eq, codes, is_some, unwrap_or, IfSome, IfNone, Option, Some, None, refl, sym, ap}
use Rattle.std.specs.List.{list_any}
use Rattle.std.specs.Cmp.Lexicographic.{bytes_decides}
use Rattle.serde_json.specs.Data.{Data}
use Rattle.serde_json.specs.Find.{get, as_str}
use Rattle.sleep_base.specs.declared.errno.Errno.TheVariants as error
use Rattle.sleep_base.specs.Errno.{name_of, errors}
use Rattle.phase_table.specs.Phases.{phase_name}
use Rattle.sleep_model.specs.declared.machine.PlatDo.{PlatDo}
use Rattle.sleep_model.specs.declared.machine.PlatDo.TheVariants as step
use Rattle.sleep_model.specs.declared.machine.TaskKind.{TaskKind}
use Rattle.sleep_model.specs.declared.machine.TaskKind.TheVariants as kind
use Rattle.sleep_model.specs.Text.{down_word, kind_word}
use Rattle.borrowed_json.specs.Look.{is_some_and, is_text, has_text, is_one_of}
use Rattle.file_rules.specs.Form.{kinds, phases}
use Rattle.file_rules.specs.Answering.{answering_phases, common_errors, platform_steps}
use Rattle.file_rules.specs.Operations.{kind_of}
use Rattle.file_rules.specs.WordLists.{task_kinds}
use Rattle.file_rules.proofs.ScriptsValid.{member_apart}

-- ---- of each list

module _ {X : Type 0} (word : X → List ℕ) where
  -- a text that is no name is found nowhere
  pub unnamed : (xs : List X) (t : List ℕ) → ((x : X) → t ≢ word x) → find (λ x. bytes_eq t (word x)) xs ≡ None
  unnamed [] t h = refl
  unnamed (x ∷ xs) t h = by (bytes_eq t (word x)) refl (unnamed xs t h)
    where
      by : (b : Bool) → bytes_eq t (word x) ≡ b → find (λ y. bytes_eq t (word y)) xs ≡ None → cond (bytes_eq t (word x)) (Some x) (find (λ y. bytes_eq t (word y)) xs) ≡ None
      by true e rest = absurd (h x ((bytes_decides t (word x)).0 e))
      by false e rest = ap (λ b. cond b (Some x) (find (λ y. bytes_eq t (word y)) xs)) e ∙ rest

  -- what has the name is found, and if nothing has it, nothing is
  pub named : (xs : List X) → ((x : X) → find (λ y. bytes_eq (word x) (word y)) xs ≡ Some x) → (t : List ℕ) (o : Option X)
      → IfSome o (λ x. t ≡ word x) → IfNone o ((x : X) → t ≢ word x) → o ≡ find (λ x. bytes_eq t (word x)) xs
  named xs each t (Some x) found none = sym (ap (λ (s : List ℕ). find (λ y. bytes_eq s (word y)) xs) found ∙ each x)
  named xs each t None found none = sym (unnamed xs t none)

  -- the same of a value, if it is that text
  pub named_in : (xs : List X) (d : Data) (t : List ℕ) (o : Option X) → o ≡ find (λ x. bytes_eq t (word x)) xs → Some t ≡ as_str d → o ≡ find (λ x. is_text (word x) d) xs
  named_in xs d t o e same = e ∙ ap (λ (s : Option (List ℕ)). find (λ x. is_some_and (λ u. bytes_eq u (word x)) s) xs) same

  nowhere : (xs : List X) → None ≡ find (λ x. false) xs
  nowhere [] = refl
  nowhere (x ∷ xs) = nowhere xs

  -- a value that is no text names nothing
  pub textless : (xs : List X) (d : Data) → None ≡ as_str d → None ≡ find (λ x. is_text (word x) d) xs
  textless xs d same = nowhere xs ∙ ap (λ (s : Option (List ℕ)). find (λ x. is_some_and (λ u. bytes_eq u (word x)) s) xs) same

  -- something has the name if the text is one of the names
  pub some_text : (xs : List X) (t : List ℕ) → is_some (find (λ x. bytes_eq t (word x)) xs) ≡ list_any (bytes_eq t) (map word xs)
  some_text [] t = refl
  some_text (x ∷ xs) t = by (bytes_eq t (word x)) (some_text xs t)
    where
      by : (b : Bool) → is_some (find (λ y. bytes_eq t (word y)) xs) ≡ list_any (bytes_eq t) (map word xs)
          → is_some (cond b (Some x) (find (λ y. bytes_eq t (word y)) xs)) ≡ (b || list_any (bytes_eq t) (map word xs))
      by true rest = refl
      by false rest = rest

  none_some : (xs : List X) → is_some (find (λ (x : X). false) xs) ≡ false
  none_some [] = refl
  none_some (x ∷ xs) = none_some xs

  -- something is named if the text is one of the names
  pub some_named : (xs : List X) (d : Data) → is_some (find (λ x. is_text (word x) d) xs) ≡ is_one_of (map word xs) d
  some_named xs d = by (as_str d)
    where
      by : (s : Option (List ℕ)) → is_some (find (λ x. is_some_and (λ t. bytes_eq t (word x)) s) xs) ≡ is_some_and (λ t. list_any (bytes_eq t) (map word xs)) s
      by None = none_some xs
      by (Some t) = some_text xs t

-- ---- steps, kinds and phases

pub each_step : (s : PlatDo) → find (λ x. bytes_eq (down_word s) (down_word x)) platform_steps ≡ Some s
each_step step.Begin = refl
each_step step.Prepare = refl
each_step step.PrepareLate = refl

pub each_kind : (k : TaskKind) → find (λ x. bytes_eq (kind_word k) (kind_word x)) task_kinds ≡ Some k
each_kind kind.User = refl
each_kind kind.Kthread = refl
each_kind kind.NoFreeze = refl
each_kind kind.Irq = refl

pub some_error : (d : Data) → is_some (find (λ e. is_text (name_of e) d) errors) ≡ is_one_of (map name_of errors) d
some_error d = some_named name_of errors d

pub some_step_text : (t : List ℕ) → is_some (find (λ s. bytes_eq t (down_word s)) platform_steps) ≡ list_any (bytes_eq t) (map down_word platform_steps)
some_step_text t = some_text down_word platform_steps t

pub some_kind : (d : Data) → is_some (find (λ k. is_text (kind_word k) d) task_kinds) ≡ is_one_of kinds d
some_kind d = some_named kind_word task_kinds d

pub some_phase : (d : Data) → is_some (find (λ p. is_text (phase_name p) d) answering_phases) ≡ is_one_of phases d
some_phase d = some_named phase_name answering_phases d

-- the errors that everything may answer, one by one
pub common_named : (d : Data)
    → (is_text (name_of error.EIO) d || (is_text (name_of error.EBUSY) d || (is_text (name_of error.ENODEV) d || is_text (name_of error.EINVAL) d))) ≡ is_one_of common_errors d
common_named d = by (as_str d)
  where
    each : (a b c e : Bool) → (a || (b || (c || e))) ≡ (a || (b || (c || (e || false))))
    each true b c e = refl
    each false true c e = refl
    each false false true e = refl
    each false false false true = refl
    each false false false false = refl

    by : (s : Option (List ℕ)) → (is_some_and (λ t. bytes_eq t (codes "EIO")) s || (is_some_and (λ t. bytes_eq t (codes "EBUSY")) s || (is_some_and (λ t. bytes_eq t (codes "ENODEV")) s || is_some_and (λ t. bytes_eq t (codes "EINVAL")) s)))
        ≡ is_some_and (λ t. list_any (bytes_eq t) common_errors) s
    by None = refl
    by (Some t) = each (bytes_eq t (codes "EIO")) (bytes_eq t (codes "EBUSY")) (bytes_eq t (codes "ENODEV")) (bytes_eq t (codes "EINVAL"))

-- the kind that is named, and else a user task
pub kind_found : (o : Data) → unwrap_or (find (λ k. has_text (codes "kind") (kind_word k) o) task_kinds) kind.User ≡ kind_of o
kind_found o = by (has_text (codes "kind") (codes "user") o) refl
  where
    others : (k n i : Bool) → unwrap_or (cond k (Some kind.Kthread) (cond n (Some kind.NoFreeze) (cond i (Some kind.Irq) None))) kind.User ≡ cond k kind.Kthread (cond n kind.NoFreeze (cond i kind.Irq kind.User))
    others true n i = refl
    others false true i = refl
    others false false true = refl
    others false false false = refl

    by : (b : Bool) → has_text (codes "kind") (codes "user") o ≡ b → unwrap_or (find (λ k. has_text (codes "kind") (kind_word k) o) task_kinds) kind.User ≡ kind_of o
    by true e =
        rw (e, member_apart (get (codes "kind") o) (codes "user") (codes "kthread") e, member_apart (get (codes "kind") o) (codes "user") (codes "nofreeze") e, member_apart (get (codes "kind") o) (codes "user") (codes "irq") e) refl
    by false e =
        ap (λ b. unwrap_or (cond b (Some kind.User) (find (λ k. has_text (codes "kind") (kind_word k) o) (kind.Kthread ∷ kind.NoFreeze ∷ kind.Irq ∷ []))) kind.User) e
        ∙ others (has_text (codes "kind") (codes "kthread") o) (has_text (codes "kind") (codes "nofreeze") o) (has_text (codes "kind") (codes "irq") o)
