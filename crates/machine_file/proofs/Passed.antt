-- What holds of the items that a loop has passed, and what stops it at an item.
use Rattle.std.proofs.Common.{◌≡◌, ◌<◌, ◌∙◌, ◌+◌, ◌++◌, ◌&&◌, ℕ, zero, suc, Bool, true, false, List, [], ◌∷◌, length, map, take, get_or, refl, sym, ap, arith}
use Rattle.std.specs.List.{list_all}
use Rattle.std.proofs.lemmas.Bool.{and_from}
use Rattle.std.proofs.lemmas.List.{map-append}
use Rattle.std.proofs.Math.Seq.{take-suc}
use Rattle.std.proofs.lemmas.List.Folds.{list_all-append}
use Rattle.serde_json.specs.Data.{Data}
use Rattle.borrowed_json.specs.View.{Value, view}
use Rattle.machine_file.specs.Stopping.{StopsUnless}
use Rattle.machine_file.specs.declared.fault.Stop.{Stop}
use Rattle.machine_file.specs.declared.fault.Stop.TheVariants as stop

-- the test of the item that a loop is at, in the test of all
all_next : (test : Data → Bool) (vs : List Value) (i : ℕ) (v : Value) → i < length vs → v ≡ get_or vs i v
    → list_all test (map view (take (i + 1) vs)) ≡ (list_all test (map view (take i vs)) && test (view v))
all_next test vs i v within is =
    let next : i + 1 ≡ suc i = omega arith in
    ap (λ (n : ℕ). list_all test (map view (take n vs))) next
    ∙ ap (λ xs. list_all test (map view xs)) (take-suc vs i v within ∙ ap (λ (y : Value). take i vs ++ y ∷ []) (sym is))
    ∙ ap (list_all test) (map-append view (take i vs) (v ∷ []))
    ∙ list_all-append test (map view (take i vs)) (view v ∷ [])
    ∙ ap (λ b. list_all test (map view (take i vs)) && b) (and_true (test (view v)))
  where
    and_true : (b : Bool) → (b && true) ≡ b
    and_true true = refl
    and_true false = refl

-- what is spelled of the items up to the one that a loop is at
module _ {A : Type 0} (f : Data → A) where
  pub one_more : (vs : List Value) (i : ℕ) (v : Value) → i < length vs → v ≡ get_or vs i v → (old new : List A) (x : A)
      → old ≡ map f (map view (take i vs)) → x ≡ f (view v) → new ≡ old ++ x ∷ [] → new ≡ map f (map view (take (i + 1) vs))
  one_more vs i v within is old new x before here after =
      let next : i + 1 ≡ suc i = omega arith in
      after ∙ ap (λ (xs : List A). xs ++ x ∷ []) before ∙ ap (λ (y : A). map f (map view (take i vs)) ++ y ∷ []) here
      ∙ sym (ap (λ (n : ℕ). map f (map view (take n vs))) next
      ∙ ap (λ (xs : List Value). map f (map view xs)) (take-suc vs i v within ∙ ap (λ (y : Value). take i vs ++ y ∷ []) (sym is))
      ∙ ap (map f) (map-append view (take i vs) (v ∷ []))
      ∙ map-append f (map view (take i vs)) (view v ∷ []))

pub all_passed : (test : Data → Bool) (vs : List Value) (i : ℕ) (v : Value) → i < length vs → v ≡ get_or vs i v
    → list_all test (map view (take i vs)) ≡ true → test (view v) ≡ true → list_all test (map view (take (i + 1) vs)) ≡ true
all_passed test vs i v within is before here = all_next test vs i v within is ∙ and_from (list_all test (map view (take i vs))) (test (view v)) before here

-- one that fails fails all
pub one_fails : (test : Data → Bool) (vs : List Value) (i : ℕ) (v : Value) → i < length vs → v ≡ get_or vs i v → test (view v) ≡ false → list_all test (map view vs) ≡ false
one_fails test [] i v within is h = absurd (omega (arith, within))
one_fails test (x ∷ vs) zero v within is h = ap (λ (y : Value). test (view y) && list_all test (map view vs)) (sym is) ∙ ap (λ b. b && list_all test (map view vs)) h
one_fails test (x ∷ vs) (suc i) v within is h =
    ap (λ b. test (view x) && b) (one_fails test vs i v (let less : i < length vs = omega (arith, within) in less) is h) ∙ no_and (test (view x))
  where
    no_and : (b : Bool) → (b && false) ≡ false
    no_and true = refl
    no_and false = refl

-- what stops at an item stops at the list
pub stops_all : (test : Data → Bool) (vs : List Value) (i : ℕ) (v : Value) → i < length vs → v ≡ get_or vs i v → (e : Stop) → StopsUnless (test (view v)) e → StopsUnless (list_all test (map view vs)) e
stops_all test vs i v within is stop.Broken h = one_fails test vs i v within is h
stops_all test vs i v within is stop.Mem h = tt
