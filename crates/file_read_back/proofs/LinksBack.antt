-- A link that is written again has the same ends, and a notifier its name and priority.
use Rattle.std.proofs.Common.{◌≡◌, ◌∙◌, ◌&&◌, ◌==◌, ℕ, List, [], codes, Bool, true, false, not, cond, ℤ, pos, negsuc, nat_le, nat_abs, Option, Some, None, option_and_then, unwrap_or, refl, sym, ap}
use Rattle.std.proofs.lemmas.Bool.{and_parts, and_from, false≢true, eqb-true}
use Rattle.serde_json.specs.Data.{Data, string}
use Rattle.serde_json.specs.Find.{get, as_str, as_number, as_integer}
use Rattle.sleep_model.specs.Text.{device}
use Rattle.borrowed_json.specs.Look.{is_some_and, is_none_or, is_text, has_only, text_at, must_have, may_have, has_text, is_string, is_bounded, is_one_of}
use Rattle.file_rules.specs.Members.{link_members, notifier_members}
use Rattle.file_rules.specs.Form.{link_states, is_link_form, is_notifier_form}
use Rattle.file_rules.specs.Names.{is_among_names, spells_name, names_of_link, own_name, devices_named}
use Rattle.file_rules.specs.Rules.{name_of}
use Rattle.sleep_model.specs.NameBytes.{is_name}
use Rattle.file_rules.specs.Spelled.{index_among, link_of}
use Rattle.file_rules.specs.Devices.{has_ends}
use Rattle.file_rules.specs.Whole.{whole_machine, whole_notifier, priority_of}
use Rattle.machine_file.specs.Spelling.{count, integer_unless_zero, link_rows, link_value, notifier_rows, notifier_value}
use Rattle.file_read_back.proofs.Rows.{at_name, named}
use Rattle.file_read_back.proofs.NamesBack.{device_back}

-- a spelled name is a name
pub spelled : (r : Option Data) → is_some_and spells_name r ≡ true → is_name (unwrap_or (option_and_then as_str r) []) ≡ true
spelled None e = absurd (false≢true e)
spelled (Some x) e = by (as_str x) e
  where
    by : (w : Option (List ℕ)) → is_some_and is_name w ≡ true → is_name (unwrap_or w []) ≡ true
    by None h = absurd (false≢true h)
    by (Some s) h = h

-- ---- links

-- a link, written again
abbrev pub link_again : Data → Data → Data
link_again d o = link_value (whole_machine d) (link_of (devices_named d) o)

pub record SameLink (d o : Data) : Type 0 where
  pub supplier : text_at (codes "supplier") (link_again d o) ≡ text_at (codes "supplier") o
  pub consumer : text_at (codes "consumer") (link_again d o) ≡ text_at (codes "consumer") o
  pub active : not (has_text (codes "state") (codes "dormant") (link_again d o)) ≡ not (has_text (codes "state") (codes "dormant") o)
  pub form : is_link_form true (link_again d o) ≡ true
  pub names : names_of_link (link_again d o) ≡ true

-- the state, which is left out if the link is active
abbrev state_of : Bool → Option Data
state_of active = cond active None (Some (string (codes "dormant")))

state_back : (active : Bool) → not (is_some_and (is_text (codes "dormant")) (state_of active)) ≡ active
state_back true = refl
state_back false = refl

state_form : (active : Bool) → is_none_or (is_one_of link_states) (state_of active) ≡ true
state_form true = refl
state_form false = refl

pub same_link : (d o : Data) → names_of_link o ≡ true → has_ends (devices_named d) o ≡ true → SameLink d o
same_link d o names ends =
    let there = and_parts (is_among_names (devices_named d) (text_at (codes "supplier") o)) (is_among_names (devices_named d) (text_at (codes "consumer") o)) ends in
    let spell = and_parts (must_have (codes "supplier") spells_name o) (must_have (codes "consumer") spells_name o) names in
    let supplier : device (whole_machine d) (index_among (devices_named d) (text_at (codes "supplier") o)) ≡ text_at (codes "supplier") o = device_back d (text_at (codes "supplier") o) there.0 in
    let consumer : device (whole_machine d) (index_among (devices_named d) (text_at (codes "consumer") o)) ≡ text_at (codes "consumer") o = device_back d (text_at (codes "consumer") o) there.1 in
    let supplier_at : get (codes "supplier") (link_again d o) ≡ Some (string (text_at (codes "supplier") o)) =
    at_name (link_rows (whole_machine d) (link_of (devices_named d) o)) refl (codes "supplier") ∙ ap (λ s. Some (string s)) supplier in
    let consumer_at : get (codes "consumer") (link_again d o) ≡ Some (string (text_at (codes "consumer") o)) =
    at_name (link_rows (whole_machine d) (link_of (devices_named d) o)) refl (codes "consumer") ∙ ap (λ s. Some (string s)) consumer in
    let state_at : get (codes "state") (link_again d o) ≡ state_of (link_of (devices_named d) o).active =
    at_name (link_rows (whole_machine d) (link_of (devices_named d) o)) refl (codes "state") in
    record {
      supplier = ap (λ r. unwrap_or (option_and_then as_str r) []) supplier_at;
      consumer = ap (λ r. unwrap_or (option_and_then as_str r) []) consumer_at;
      active = ap (λ r. not (is_some_and (is_text (codes "dormant")) r)) state_at ∙ state_back (link_of (devices_named d) o).active;
      form =
          and_from _ _ (and_from _ _ (and_from _ _ (named (link_members true) (link_rows (whole_machine d) (link_of (devices_named d) o)) refl refl) (ap (is_some_and is_string) supplier_at))
          (ap (is_some_and is_string) consumer_at))
          (ap (is_none_or (is_one_of link_states)) state_at ∙ state_form (link_of (devices_named d) o).active);
      names =
          and_from _ _ (ap (is_some_and spells_name) supplier_at ∙ spelled (get (codes "supplier") o) spell.0)
          (ap (is_some_and spells_name) consumer_at ∙ spelled (get (codes "consumer") o) spell.1);
    }

-- ---- notifiers

-- a notifier, written again
abbrev pub notifier_again : Data → Data
notifier_again o = notifier_value (whole_notifier o)

pub record SameNotifier (o : Data) : Type 0 where
  pub name : name_of (notifier_again o) ≡ name_of o
  pub priority : priority_of (notifier_again o) ≡ priority_of o
  pub form : is_notifier_form (notifier_again o) ≡ true
  pub names : own_name (notifier_again o) ≡ true

-- a number that is left out if it is 0
pub integer_back : (z : ℤ) → unwrap_or (option_and_then as_integer (option_and_then as_number (integer_unless_zero z))) (pos 0) ≡ z
integer_back (negsuc n) = refl
integer_back (pos n) = by (n == 0) refl
  where
    by : (b : Bool) → (n == 0) ≡ b → unwrap_or (option_and_then as_integer (option_and_then as_number (cond b None (Some (count n))))) (pos 0) ≡ pos n
    by true e = ap pos (sym (eqb-true n 0 e))
    by false e = refl

integer_form : (most : ℕ) (z : ℤ) → nat_le (nat_abs z) most ≡ true → is_none_or (is_bounded most) (integer_unless_zero z) ≡ true
integer_form most (negsuc n) e = e
integer_form most (pos n) e = by (n == 0)
  where
    by : (b : Bool) → is_none_or (is_bounded most) (cond b None (Some (count n))) ≡ true
    by true = refl
    by false = e

bounded_or : (most : ℕ) (o : Option ℤ) → is_some_and (λ z. nat_le (nat_abs z) most) o ≡ true → nat_le (nat_abs (unwrap_or o (pos 0))) most ≡ true
bounded_or most None e = absurd (false≢true e)
bounded_or most (Some z) e = e

pub priority_form : (r : Option Data) → is_none_or (is_bounded 1000) r ≡ true → nat_le (nat_abs (unwrap_or (option_and_then as_integer (option_and_then as_number r)) (pos 0))) 1000 ≡ true
priority_form None e = refl
priority_form (Some x) e = bounded_or 1000 (option_and_then as_integer (as_number x)) e

pub same_notifier : (o : Data) → is_notifier_form o ≡ true → own_name o ≡ true → SameNotifier o
same_notifier o form names =
    let front = and_parts (has_only notifier_members o && must_have (codes "name") is_string o) (may_have (codes "priority") (is_bounded 1000) o) form in
    let name_at : get (codes "name") (notifier_again o) ≡ Some (string (name_of o)) = at_name (notifier_rows (whole_notifier o)) refl (codes "name") in
    let priority_at : get (codes "priority") (notifier_again o) ≡ integer_unless_zero (priority_of o) = at_name (notifier_rows (whole_notifier o)) refl (codes "priority") in
    record {
      name = ap (λ r. unwrap_or (option_and_then as_str r) []) name_at;
      priority = ap (λ r. unwrap_or (option_and_then as_integer (option_and_then as_number r)) (pos 0)) priority_at ∙ integer_back (priority_of o);
      form =
          and_from _ _ (and_from _ _ (named notifier_members (notifier_rows (whole_notifier o)) refl refl) (ap (is_some_and is_string) name_at))
          (ap (is_none_or (is_bounded 1000)) priority_at ∙ integer_form 1000 (priority_of o) (priority_form (get (codes "priority") o) front.1));
      names = ap (is_some_and spells_name) name_at ∙ spelled (get (codes "name") o) names;
    }
