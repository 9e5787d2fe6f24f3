-- Names are distinguished by their bytes.
use Rattle.std.proofs.Common.{◌≡◌, ◌-◌, ◌∙◌, ◌++◌, ℕ, List, Bool, true, length, replicate, bytes_eq, position, map, sym, ap}
use Rattle.std.specs.List.{list_any}
use Rattle.std.specs.Cmp.Lexicographic.{bytes_decides}
use Rattle.std.proofs.lemmas.Bool.{and_parts, and_from, eqb-true, eq-eqb}
use Rattle.std.proofs.lemmas.Bool.Decides.{same_from_decides}
use Rattle.std.proofs.lemmas.List.{append_cancel_right}
use Rattle.sleep_model.specs.declared.machine.Device.{Device}
use Rattle.sleep_model.specs.contracts.name.NamePartialEq.TheImpl.{eq-value}
use Rattle.device_tree.specs.Refusal.{is_taken, number_of_name}

-- the bytes with zeros up to 32
abbrev padded : List ℕ → List ℕ
padded a = a ++ replicate (32 - length a) 0

same_padded : (a b : List ℕ) → length a ≡ length b → padded a ≡ padded b → a ≡ b
same_padded a b n e = append_cancel_right a b (replicate (32 - length b) 0) (ap (λ k. a ++ replicate (32 - k) 0) (sym n) ∙ e)

-- two names are equal if their bytes are
pub name_eq : (a b : List ℕ) → eq-value.it a b ≡ bytes_eq a b
name_eq a b = same_from_decides {P = a ≡ b} (eq-value.it a b) (bytes_eq a b) (from, to) (bytes_decides a b)
  where
    from : eq-value.it a b ≡ true → a ≡ b
    from h = let p = and_parts (bytes_eq (padded a) (padded b)) _ h in same_padded a b (eqb-true (length a) (length b) p.1) ((bytes_decides (padded a) (padded b)).0 p.0)

    to : a ≡ b → eq-value.it a b ≡ true
    to e = and_from (bytes_eq (padded a) (padded b)) _ ((bytes_decides (padded a) (padded b)).1 (ap padded e)) (eq-eqb (length a) (length b) (ap length e))

-- the test of the set of names is that of the bytes
same_test : (a : List ℕ) → eq-value.it a ≡ bytes_eq a
same_test a = λ i b. name_eq a b i

pub taken_is : (name : List ℕ) (names : List (List ℕ)) (ds : List Device) → names ≡ map (λ d. d.name) ds → list_any (eq-value.it name) names ≡ is_taken name ds
taken_is name names ds e = ap (λ (p : List ℕ → Bool). list_any p names) (same_test name) ∙ ap (list_any (bytes_eq name)) e

pub place_is : (name : List ℕ) (names : List (List ℕ)) (ds : List Device) → names ≡ map (λ d. d.name) ds → position (eq-value.it name) names ≡ number_of_name name ds
place_is name names ds e = ap (λ (p : List ℕ → Bool). position p names) (same_test name) ∙ ap (position (bytes_eq name)) e
