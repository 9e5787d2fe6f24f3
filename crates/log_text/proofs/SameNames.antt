-- Names are distinguished by their bytes.
use Rattle.std.proofs.Common.{◌≡◌, ◌-◌, ◌∙◌, ◌++◌, ℕ, List, Bool, true, length, replicate, bytes_eq, position, sym, ap}
use Rattle.std.specs.Cmp.Lexicographic.{bytes_decides}
use Rattle.std.proofs.lemmas.Bool.{and_parts, and_from, eqb-true, eq-eqb}
use Rattle.std.proofs.lemmas.Bool.Decides.{same_from_decides}
use Rattle.std.proofs.lemmas.List.{append_cancel_right}
use Rattle.sleep_model.specs.contracts.name.NamePartialEq.TheImpl.{eq-value}

-- the bytes with zeros up to 32
abbrev padded : List ℕ → List ℕ
padded a = a ++ replicate (32 - length a) 0

same_padded : (a b : List ℕ) → length a ≡ length b → padded a ≡ padded b → a ≡ b
same_padded a b n e = append_cancel_right a b (replicate (32 - length b) 0) (ap (λ k. a ++ replicate (32 - k) 0) (sym n) ∙ e)

-- two names are equal if their bytes are
name_eq : (a b : List ℕ) → eq-value.it a b ≡ bytes_eq a b
name_eq a b = same_from_decides {P = a ≡ b} (eq-value.it a b) (bytes_eq a b) (from, to) (bytes_decides a b)
  where
    from : eq-value.it a b ≡ true → a ≡ b
    from h = let p = and_parts (bytes_eq (padded a) (padded b)) _ h in same_padded a b (eqb-true (length a) (length b) p.1) ((bytes_decides (padded a) (padded b)).0 p.0)

    to : a ≡ b → eq-value.it a b ≡ true
    to e = and_from (bytes_eq (padded a) (padded b)) _ ((bytes_decides (padded a) (padded b)).1 (ap padded e)) (eq-eqb (length a) (length b) (ap length e))

-- the test of names is that of their bytes
same_test : (a : List ℕ) → eq-value.it a ≡ bytes_eq a
same_test a = λ i b. name_eq a b i

-- the index of a name is that of its bytes
pub found_is : (name : List ℕ) (names : List (List ℕ)) → position (eq-value.it name) names ≡ position (bytes_eq name) names
found_is name names = ap (λ (p : List ℕ → Bool). position p names) (same_test name)
