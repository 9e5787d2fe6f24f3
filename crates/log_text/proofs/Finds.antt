-- Things are found by their names.
use Rattle.std.proofs.Common.{◌≡◌, ◌∙◌, ℕ, zero, suc, ◌<◌, Bool, true, false, not, ◌||◌, cond, List, [], ◌∷◌, length, bytes_eq, position, Some, refl, sym, ap, arith}
use Rattle.std.specs.List.{list_all, list_any}
use Rattle.std.specs.Option.{option_map}
use Rattle.std.specs.Prelude.{slice_get}
use Rattle.std.specs.Cmp.Lexicographic.{bytes_decides}
use Rattle.std.proofs.lemmas.Bool.{and_parts}
use Rattle.sleep_model.specs.Text.{name_in}
use Rattle.sleep_model.specs.NameBytes.{is_name, is_name_byte}
use Rattle.log_text.specs.Named.{is_name_long, are_distinct, are_names}
use Rattle.log_text.specs.Cutting.{index_in}
use Rattle.key_index.proofs.Placing.{position_cons}

same_bytes : (n : List ℕ) → bytes_eq n n ≡ true
same_bytes n = (bytes_decides n n).1 refl

-- the one at that index is among them
among : (p : List ℕ → Bool) (names : List (List ℕ)) (i : ℕ) (n : List ℕ) → slice_get names i ≡ Some n → p n ≡ true → list_any p names ≡ true
among p [] i n e h = absurd (cc)
among p (x ∷ names) zero n e h =
    let same : x ≡ n = cc in
    let here : p x ≡ true = ap p same ∙ h in
    rw here refl
among p (x ∷ names) (suc i) n e h = late (p x) (list_any p names) (among p names i n e h)
  where
    late : (a b : Bool) → b ≡ true → (a || b) ≡ true
    late true b k = refl
    late false b k = k

-- different names are found at their own index
find_at : (names : List (List ℕ)) (i : ℕ) (n : List ℕ) → are_distinct names ≡ true → slice_get names i ≡ Some n → position (bytes_eq n) names ≡ Some i
find_at [] i n d e = absurd (cc)
find_at (x ∷ names) zero n d e =
    let same : n ≡ x = cc in
    let here : bytes_eq n x ≡ true = (bytes_decides n x).1 same in
    position_cons (bytes_eq n) x names ∙ rw here refl
find_at (x ∷ names) (suc i) n d e =
    let p = and_parts (not (list_any (bytes_eq x) names)) (are_distinct names) d in
    position_cons (bytes_eq n) x names ∙ on (bytes_eq n x) refl p.0 (find_at names i n p.1 e)
  where
    on : (t : Bool) → bytes_eq n x ≡ t → not (list_any (bytes_eq x) names) ≡ true → position (bytes_eq n) names ≡ Some i → cond t (Some 0) (option_map suc (position (bytes_eq n) names)) ≡ Some (suc i)
    on true b k f =
        let same : x ≡ n = sym ((bytes_decides n x).0 b) in
        let hit : list_any (bytes_eq x) names ≡ true = among (bytes_eq x) names i n e ((bytes_decides x n).1 same) in
        absurd (clash (list_any (bytes_eq x) names) hit k)
      where
        clash : (t : Bool) → t ≡ true → not t ≡ true → ⊥
        clash true h m = absurd (cc)
        clash false h m = absurd (cc)
    on false b k f = ap (option_map suc) f

-- one of names is a name
pub one_of : (names : List (List ℕ)) (i : ℕ) (n : List ℕ) → list_all is_name names ≡ true → slice_get names i ≡ Some n → is_name n ≡ true
one_of [] i n h e = absurd (cc)
one_of (x ∷ names) zero n h e = let same : x ≡ n = cc in ap is_name (sym same) ∙ (and_parts (is_name x) (list_all is_name names) h).0
one_of (x ∷ names) (suc i) n h e = one_of names i n (and_parts (is_name x) (list_all is_name names) h).1 e

-- what is at an index
at_place : (names : List (List ℕ)) (i : ℕ) → i < length names → slice_get names i ≡ Some (name_in (slice_get names i))
at_place [] i h = absurd (omega arith)
at_place (x ∷ names) zero h = refl
at_place (x ∷ names) (suc i) h = at_place names i (omega arith)

-- a name is found at its index
pub place_back : (names : List (List ℕ)) → are_names names ≡ true → (i : ℕ) → i < length names → index_in names (name_in (slice_get names i)) ≡ Some i
place_back names h i l =
    let n = name_in (slice_get names i) in
    let p = and_parts (list_all is_name names) (are_distinct names) h in
    let here : slice_get names i ≡ Some n = at_place names i l in
    let name : is_name n ≡ true = one_of names i n p.0 here in
    let long : is_name_long n ≡ true = (and_parts (is_name_long n) (list_all is_name_byte n) name).0 in
    rw long (find_at names i n p.1 here)

-- its bytes are those of names
pub bytes_of : (names : List (List ℕ)) → are_names names ≡ true → (i : ℕ) → i < length names → list_all is_name_byte (name_in (slice_get names i)) ≡ true
bytes_of names h i l =
    let n = name_in (slice_get names i) in
    let p = and_parts (list_all is_name names) (are_distinct names) h in
    (and_parts (is_name_long n) (list_all is_name_byte n) (one_of names i n p.0 (at_place names i l))).1
