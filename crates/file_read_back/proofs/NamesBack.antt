-- The name at the index of a name is that name.
use Rattle.std.proofs.Common.{◌≡◌, ◌∙◌, ◌||◌, ◌++◌, ℕ, zero, suc, List, [], ◌∷◌, map, codes, Bool, true, false, cond, bytes_eq, position, Some, None, option_map, unwrap_or, refl, sym, ap}
use Rattle.std.specs.List.{slice_get}
use Rattle.std.specs.Cmp.Lexicographic.{bytes_decides}
use Rattle.std.proofs.lemmas.Bool.{false≢true}
use Rattle.serde_json.specs.Data.{Data}
use Rattle.sleep_model.specs.Text.{name_in, device_name, notifier_name, device, notifier, syscore, source, mark}
use Rattle.borrowed_json.specs.Look.{list_in}
use Rattle.file_rules.specs.Names.{is_among_names, devices_named, sources_named, names_in, texts_in}
use Rattle.file_rules.specs.Rules.{name_of}
use Rattle.file_rules.specs.Spelled.{index_among}
use Rattle.file_rules.specs.Devices.{whole_device}
use Rattle.file_rules.specs.Operations.{whole_marks}
use Rattle.file_rules.specs.Whole.{whole_machine, whole_notifier}
use Rattle.file_rules.proofs.Placing.{position_cons}

-- a name's index, and that it is there
pub record HasPlace (names : List (List ℕ)) (s : List ℕ) : Type 0 where
  pub at : ℕ
  pub first : position (bytes_eq s) names ≡ Some at
  pub there : slice_get names at ≡ Some s

pub placed : (names : List (List ℕ)) (s : List ℕ) → is_among_names names s ≡ true → HasPlace names s
placed [] s e = absurd (false≢true e)
placed (n ∷ names) s e = by (bytes_eq s n) refl e (placed names s)
  where
    by : (b : Bool) → bytes_eq s n ≡ b → (b || is_among_names names s) ≡ true → (is_among_names names s ≡ true → HasPlace names s) → HasPlace (n ∷ names) s
    by true same e rest = record {
      at = 0;
      first = position_cons (bytes_eq s) n names ∙ ap (λ c. cond c (Some 0) (option_map suc (position (bytes_eq s) names))) same;
      there = ap Some (sym ((bytes_decides s n).0 same));
    }
    by false same e rest =
        let r = rest e in
        record {
          at = suc r.at;
          first = position_cons (bytes_eq s) n names ∙ ap (λ c. cond c (Some 0) (option_map suc (position (bytes_eq s) names))) same ∙ ap (option_map suc) r.first;
          there = r.there;
        }

-- the name at a name's index
pub at_place : (names : List (List ℕ)) (s : List ℕ) → is_among_names names s ≡ true → name_in (slice_get names (index_among names s)) ≡ s
at_place names s e = let p = placed names s e in ap (λ o. name_in (slice_get names (unwrap_or o 0))) p.first ∙ ap name_in p.there

pub device_at : (names : List (List ℕ)) (ds : List Data) (j : ℕ) → device_name (slice_get (map (whole_device names) ds) j) ≡ name_in (slice_get (map name_of ds) j)
device_at names [] j = refl
device_at names (d ∷ ds) zero = refl
device_at names (d ∷ ds) (suc j) = device_at names ds j

notifier_at : (ds : List Data) (j : ℕ) → notifier_name (slice_get (map whole_notifier ds) j) ≡ name_in (slice_get (map name_of ds) j)
notifier_at [] j = refl
notifier_at (d ∷ ds) zero = refl
notifier_at (d ∷ ds) (suc j) = notifier_at ds j

front : (xs ys : List (List ℕ)) (j : ℕ) (s : List ℕ) → slice_get xs j ≡ Some s → slice_get (xs ++ ys) j ≡ Some s
front [] ys j s e = absurd (let f : None ≡ Some s = e in cc)
front (x ∷ xs) ys zero s e = e
front (x ∷ xs) ys (suc j) s e = front xs ys j s e

module _ (d : Data) (s : List ℕ) where
  pub device_named : (j : ℕ) → slice_get (devices_named d) j ≡ Some s → device (whole_machine d) j ≡ s
  device_named j e = device_at (devices_named d) (list_in (codes "devices") d) j ∙ ap name_in e

  pub device_back : is_among_names (devices_named d) s ≡ true → device (whole_machine d) (index_among (devices_named d) s) ≡ s
  device_back e = device_at (devices_named d) (list_in (codes "devices") d) (index_among (devices_named d) s) ∙ at_place (devices_named d) s e

  pub notifier_back : is_among_names (names_in (codes "notifiers") d) s ≡ true → notifier (whole_machine d) (index_among (names_in (codes "notifiers") d) s) ≡ s
  notifier_back e = notifier_at (list_in (codes "notifiers") d) (index_among (names_in (codes "notifiers") d) s) ∙ at_place (names_in (codes "notifiers") d) s e

  pub syscore_back : is_among_names (texts_in (codes "syscore") d) s ≡ true → syscore (whole_machine d) (index_among (texts_in (codes "syscore") d) s) ≡ s
  syscore_back e = at_place (texts_in (codes "syscore") d) s e

  pub mark_back : is_among_names (whole_marks d) s ≡ true → mark (whole_machine d) (index_among (whole_marks d) s) ≡ s
  mark_back e = at_place (whole_marks d) s e

  pub source_back : is_among_names (sources_named d) s ≡ true → source (whole_machine d) (index_among (sources_named d) s) ≡ s
  source_back e =
      let p = placed (sources_named d) s e in
      ap (λ o. source (whole_machine d) (unwrap_or o 0)) p.first ∙ ap name_in (front (sources_named d) (codes "autosleep" ∷ []) p.at s p.there)
