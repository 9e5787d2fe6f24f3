-- A device that is written again says the same.
use Rattle.std.proofs.Common.{◌≡◌, ◌∙◌, ◌+◌, ℕ, List, [], codes, Bool, true, false, if◌then◌else◌, bytes_eq, Option, Some, None, option_map, option_and_then, position, unwrap_or, refl, ap}
use Rattle.std.proofs.lemmas.Bool.{and_parts, and_from, false≢true}
use Rattle.serde_json.specs.Data.{Data, boolean, string}
use Rattle.serde_json.specs.Find.{get, as_bool, as_str}
use Rattle.sleep_model.specs.declared.flags.DeviceFlags.{DeviceFlags}
use Rattle.sleep_model.specs.Runtime.{has_bit}
use Rattle.sleep_model.specs.Text.{device}
use Rattle.borrowed_json.specs.Look.{is_some_and, is_none_or, is_text, must_have, may_have, word_at, is_string, is_truth, is_one_of}
use Rattle.file_rules.specs.Members.{device_members}
use Rattle.file_rules.specs.Form.{Named, statuses, is_device_form}
use Rattle.file_rules.specs.Names.{is_among_names, spells_name, names_of_device, devices_named}
use Rattle.file_rules.specs.Rules.{name_of}
use Rattle.sleep_model.specs.NameBytes.{is_name}
use Rattle.file_rules.specs.Devices.{bit, flags_of, whole_device}
use Rattle.file_rules.specs.Whole.{whole_machine}
use Rattle.machine_file.specs.Spelling.{device_rows, device_value}
use Rattle.file_read_back.proofs.Rows.{at_name, at_names, named}
use Rattle.file_read_back.proofs.NamesBack.{placed, device_named}

-- a device, written again
abbrev pub device_again : Data → Data → Data
device_again d o = device_value (whole_machine d) (whole_device (devices_named d) o)

-- it says the same, in form
pub record SameDevice (d o : Data) : Type 0 where
  pub name : name_of (device_again d o) ≡ name_of o
  pub parent : word_at (codes "parent") (device_again d o) ≡ word_at (codes "parent") o
  pub flags : flags_of (device_again d o) ≡ flags_of o
  pub form : is_device_form (device_again d o) ≡ true
  pub names : names_of_device (device_again d o) ≡ true

-- what is known of a device of a file that keeps the rules
pub record ValidDevice (d o : Data) : Type 0 where
  pub names : names_of_device o ≡ true
  pub parent : is_none_or (is_among_names (devices_named d)) (word_at (codes "parent") o) ≡ true

-- the flags, by what is at each name
abbrev flags_by : (List ℕ → Option Data) → DeviceFlags
flags_by g =
    record { 0 = bit (unwrap_or (option_and_then as_bool (g (codes "async"))) false) 1 + bit (unwrap_or (option_and_then as_bool (g (codes "wakeup"))) false) 2 + bit (is_some_and (is_text (codes "suspended")) (g (codes "runtime"))) 4 }

-- the flags of three bits
abbrev three : Bool → Bool → Bool → DeviceFlags
three a b c = record { 0 = bit a 1 + bit b 2 + bit c 4 }

abbrev truth : Bool → Option Data
truth b = if b then Some (boolean true) else None

abbrev status : Bool → Option Data
status b = if b then Some (string (codes "suspended")) else None

three_back : (a b c : Bool) → three (unwrap_or (option_and_then as_bool (truth (has_bit 1 (three a b c)))) false) (unwrap_or (option_and_then as_bool (truth (has_bit 2 (three a b c)))) false)
    (is_some_and (is_text (codes "suspended")) (status (has_bit 4 (three a b c)))) ≡ three a b c
three_back true true true = refl
three_back true true false = refl
three_back true false true = refl
three_back true false false = refl
three_back false true true = refl
three_back false true false = refl
three_back false false true = refl
three_back false false false = refl

truth_form : (b : Bool) → is_none_or is_truth (truth b) ≡ true
truth_form true = refl
truth_form false = refl

status_form : (b : Bool) → is_none_or (is_one_of statuses) (status b) ≡ true
status_form true = refl
status_form false = refl

module _ (d o : Data) (kept : ValidDevice d o) where
  abbrev rows : List (Named (Option Data))
  rows = device_rows (whole_machine d) (whole_device (devices_named d) o)

  -- the parent's name is at its index
  parent_back : (w : Option (List ℕ)) → is_none_or (is_among_names (devices_named d)) w ≡ true →
      option_map (λ p. string (device (whole_machine d) p)) (option_and_then (λ s. position (bytes_eq s) (devices_named d)) w) ≡ option_map string w
  parent_back None e = refl
  parent_back (Some s) e =
      let p = placed (devices_named d) s e in
      ap (option_map (λ j. string (device (whole_machine d) j))) p.first ∙ ap (λ t. Some (string t)) (device_named d s p.at p.there)

  parent_at : get (codes "parent") (device_again d o) ≡ option_map string (word_at (codes "parent") o)
  parent_at = at_name rows refl (codes "parent") ∙ parent_back (word_at (codes "parent") o) kept.parent

  as_word : (w : Option (List ℕ)) → option_and_then as_str (option_map string w) ≡ w
  as_word None = refl
  as_word (Some s) = refl

  word_form : (w : Option (List ℕ)) → is_none_or is_string (option_map string w) ≡ true
  word_form None = refl
  word_form (Some s) = refl

  word_spelled : (r : Option Data) → is_none_or spells_name r ≡ true → is_none_or spells_name (option_map string (option_and_then as_str r)) ≡ true
  word_spelled None e = refl
  word_spelled (Some x) e = by (as_str x) e
    where
      by : (w : Option (List ℕ)) → is_some_and is_name w ≡ true → is_none_or spells_name (option_map string w) ≡ true
      by None h = refl
      by (Some s) h = h

  name_spelled : (r : Option Data) → is_some_and spells_name r ≡ true → is_name (unwrap_or (option_and_then as_str r) []) ≡ true
  name_spelled None e = absurd (false≢true e)
  name_spelled (Some x) e = by (as_str x) e
    where
      by : (w : Option (List ℕ)) → is_some_and is_name w ≡ true → is_name (unwrap_or w []) ≡ true
      by None h = absurd (false≢true h)
      by (Some s) h = h

  names_valid : (must_have (codes "name") spells_name o ≡ true) × (may_have (codes "parent") spells_name o ≡ true)
  names_valid = and_parts (must_have (codes "name") spells_name o) (may_have (codes "parent") spells_name o) kept.names

  pub same_device : SameDevice d o
  same_device = record {
    name = ap (λ r. unwrap_or (option_and_then as_str r) []) (at_name rows refl (codes "name"));
    parent = ap (option_and_then as_str) parent_at ∙ as_word (word_at (codes "parent") o);
    flags = ap flags_by (at_names rows refl) ∙ three_back _ _ _;
    form =
        and_from _ _ (and_from _ _ (and_from _ _ (and_from _ _ (and_from _ _ (named device_members rows refl refl)
        (ap (is_some_and is_string) (at_name rows refl (codes "name"))))
        (ap (is_none_or is_string) parent_at ∙ word_form (word_at (codes "parent") o)))
        (ap (is_none_or is_truth) (at_name rows refl (codes "async")) ∙ truth_form _))
        (ap (is_none_or is_truth) (at_name rows refl (codes "wakeup")) ∙ truth_form _))
        (ap (is_none_or (is_one_of statuses)) (at_name rows refl (codes "runtime")) ∙ status_form _);
    names =
        and_from _ _ (ap (is_some_and spells_name) (at_name rows refl (codes "name")) ∙ name_spelled (get (codes "name") o) names_valid.0)
        (ap (is_none_or spells_name) parent_at ∙ word_spelled (get (codes "parent") o) names_valid.1);
  }
