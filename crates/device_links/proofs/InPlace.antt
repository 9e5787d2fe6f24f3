-- Lists that change in place: the elements up to an index, and one row of a table.
use Rattle.std.proofs.Common.{◌≡◌, ◌<◌, ◌≤◌, ◌∙◌, ℕ, List, [], ◌∷◌, ◌++◌, length, take, get_or, set, sym, ap, subst, arith}
use Rattle.std.proofs.Math.Seq.{take-append_seam}
use Rattle.std.proofs.lemmas.List.{get_or-set_same, set-set, set-get_or}
use Rattle.device_rows.specs.Table.{Table, room_at}

-- as many elements as the first list has are that list
pub take_whole : {A : Type 0} (xs ys : List A) (n : ℕ) → length xs ≡ n → take n (xs ++ ys) ≡ xs
take_whole xs ys n e = ap (λ k. take k (xs ++ ys)) (sym e) ∙ take-append_seam xs ys

-- ---- a row

-- a row as it is
pub refill_first : (rows : List (List ℕ)) (device : ℕ) (row : List ℕ) → get_or rows device [] ≡ row → rows ≡ set rows device row
refill_first rows device row e = sym (ap (set rows device) (sym e) ∙ set-get_or rows device [])

pub refilled_row : (rows now : List (List ℕ)) (device : ℕ) (row : List ℕ) → device < length rows → now ≡ set rows device row → get_or now device [] ≡ row
refilled_row rows now device row l e = ap (λ r. get_or r device []) e ∙ get_or-set_same rows device row [] l

-- one number more
pub refill_push : (rows now : List (List ℕ)) (device x : ℕ) (row : List ℕ) → device < length rows → now ≡ set rows device row → set now device (get_or now device [] ++ x ∷ []) ≡ set rows device (row ++ x ∷ [])
refill_push rows now device x row l e =
    ap (λ r. set now device (r ++ x ∷ [])) (refilled_row rows now device row l e)
    ∙ (ap (λ r. set r device (row ++ x ∷ [])) e ∙ set-set rows device row (row ++ x ∷ []))

-- a row that is shorter than its capacity has room
pub has_room : (t : Table) (device n : ℕ) (row : List ℕ) → get_or t.rows device [] ≡ row → length row < n → n ≤ room_at t device → 0 < get_or t.room device 0
has_room t device n row e l p = let s = ap length e in omega (arith, s, l, p)

-- the table with one row made anew, and no less capacity
pub record IsRefilled (first : Table) (device : ℕ) (row : List ℕ) (t : Table) : Type 0 where
  pub rows : t.rows ≡ set first.rows device row
  pub places : (d : ℕ) → room_at first d ≤ room_at t d

pub refilled_more : (first t u : Table) (device x : ℕ) (row : List ℕ) → device < length first.rows → IsRefilled first device row t → u.rows ≡ set t.rows device (get_or t.rows device [] ++ x ∷ []) → ((d : ℕ) → room_at t d ≤ room_at u d) → IsRefilled first device (row ++ x ∷ []) u
refilled_more first t u device x row l h e p = record {
  rows = e ∙ refill_push first.rows t.rows device x row l h.rows;
  places = λ d. let a = h.places d in let b = p d in omega (arith, a, b);
}

pub refilled_as : (first t : Table) (device : ℕ) (row row' : List ℕ) → row ≡ row' → IsRefilled first device row t → IsRefilled first device row' t
refilled_as first t device row row' e h = subst (λ (r : List ℕ). IsRefilled first device r t) e h

-- the last of three that make the same row anew
pub last_refilled : (rows one two three : List (List ℕ)) (device : ℕ) (a b c : List ℕ) → one ≡ set rows device a → two ≡ set one device b → three ≡ set two device c → three ≡ set rows device c
last_refilled rows one two three device a b c e f g =
    g ∙ (ap (λ r. set r device c) (f ∙ ap (λ r. set r device b) e) ∙ (set-set (set rows device a) device b c ∙ set-set rows device a c))
