-- The entries of a range are those of its two halves, one after the other.
use Rattle.std.proofs.Common.{◌≡◌, ◌∙◌, ◌≤◌, ◌<◌, ℕ, Bool, true, false, ◌&&◌, nat_le, nat_lt, List, [], ◌∷◌, ◌++◌, map, filter, flat_map, cond, if◌then◌else◌, Option, Some, None, refl, sym, ap, ap₂, arith}
use Rattle.std.proofs.lemmas.Bool.Decides.{nat_tests}
use Rattle.std.proofs.lemmas.List.{map-append}
use Rattle.std.proofs.lemmas.List.Concat.{flat_map-append}
use Rattle.sleep_model.specs.declared.entry.JournalEntry.{JournalEntry}
use Rattle.sleep_model.specs.declared.machine.Machine.{Machine}
use Rattle.sleep_model.specs.Merge.{before_or, in_order, put_in_order, precedes}
use Rattle.sleep_model.specs.Text.{entry_line}
use Rattle.apart_log.specs.declared.range.Range.{Range}
use Rattle.apart_log.specs.Slices.{IsUpTo, is_before_end, is_in, slice, slice_lines}

-- ---- positions order entries

first : (a b : ℕ) (r : Bool) → a < b → before_or a b r ≡ true
first a b r h = grind (arith, nat_tests)

not_first : (a b : ℕ) (r : Bool) → b < a → before_or a b r ≡ false
not_first a b r h = grind (arith, nat_tests)

-- each of these entries has a position below that one, or from it on
AreBelow : ℕ → List JournalEntry → Type 0
AreBelow p [] = Unit {0}
AreBelow p (e ∷ entries) = (e.stamp.pos < p) × AreBelow p entries

AreFrom : ℕ → List JournalEntry → Type 0
AreFrom p [] = Unit {0}
AreFrom p (e ∷ entries) = (p ≤ e.stamp.pos) × AreFrom p entries

put_below : (p : ℕ) (x : JournalEntry) (ys : List JournalEntry) → x.stamp.pos < p → AreBelow p ys → AreBelow p (put_in_order x ys)
unfolding AreBelow
put_below p x [] h a = (h, tt)
put_below p x (y ∷ ys) h a = by (precedes y x) (put_below p x ys h a.1)
  where
    by : (b : Bool) → AreBelow p (put_in_order x ys) → AreBelow p (if b then y ∷ put_in_order x ys else x ∷ y ∷ ys)
    by true rest = (a.0, rest)
    by false rest = (h, a)

put_from : (p : ℕ) (x : JournalEntry) (ys : List JournalEntry) → p ≤ x.stamp.pos → AreFrom p ys → AreFrom p (put_in_order x ys)
unfolding AreFrom
put_from p x [] h a = (h, tt)
put_from p x (y ∷ ys) h a = by (precedes y x) (put_from p x ys h a.1)
  where
    by : (b : Bool) → AreFrom p (put_in_order x ys) → AreFrom p (if b then y ∷ put_in_order x ys else x ∷ y ∷ ys)
    by true rest = (a.0, rest)
    by false rest = (h, a)

order_below : (p : ℕ) (xs : List JournalEntry) → AreBelow p xs → AreBelow p (in_order xs)
unfolding AreBelow
order_below p [] a = tt
order_below p (x ∷ xs) a = put_below p x (in_order xs) a.0 (order_below p xs a.1)

order_from : (p : ℕ) (xs : List JournalEntry) → AreFrom p xs → AreFrom p (in_order xs)
unfolding AreFrom
order_from p [] a = tt
order_from p (x ∷ xs) a = put_from p x (in_order xs) a.0 (order_from p xs a.1)

-- an entry below a position goes among the entries below it, and one from it on among those from it on
put_front : (p : ℕ) (x : JournalEntry) (xs ys : List JournalEntry) → x.stamp.pos < p → AreFrom p ys → put_in_order x (xs ++ ys) ≡ put_in_order x xs ++ ys
unfolding AreFrom
put_front p x [] [] h a = refl
put_front p x [] (y ∷ ys) h a =
    ap (λ (b : Bool). if b then y ∷ put_in_order x ys else x ∷ y ∷ ys) (not_first y.stamp.pos x.stamp.pos _ (omega (arith, h, a.0)))
put_front p x (e ∷ xs) ys h a = by (precedes e x) (put_front p x xs ys h a)
  where
    by : (b : Bool) → put_in_order x (xs ++ ys) ≡ put_in_order x xs ++ ys
        → (if b then e ∷ put_in_order x (xs ++ ys) else x ∷ e ∷ (xs ++ ys)) ≡ (if b then e ∷ put_in_order x xs else x ∷ e ∷ xs) ++ ys
    by true rest = ap (λ (l : List JournalEntry). e ∷ l) rest
    by false rest = refl

put_after : (p : ℕ) (x : JournalEntry) (xs ys : List JournalEntry) → p ≤ x.stamp.pos → AreBelow p xs → put_in_order x (xs ++ ys) ≡ xs ++ put_in_order x ys
unfolding AreBelow
put_after p x [] ys h a = refl
put_after p x (e ∷ xs) ys h a =
    ap (λ (b : Bool). if b then e ∷ put_in_order x (xs ++ ys) else x ∷ e ∷ (xs ++ ys)) (first e.stamp.pos x.stamp.pos _ (omega (arith, h, a.0)))
    ∙ ap (λ (l : List JournalEntry). e ∷ l) (put_after p x xs ys h a.1)

-- ---- halves

-- a position is of no half, of the lower or of the upper
data Side (whole low high : Bool) (pos middle : ℕ) : Type 0 where
  Out : whole ≡ false → low ≡ false → high ≡ false → Side whole low high pos middle
  Low : whole ≡ true → low ≡ true → high ≡ false → pos < middle → Side whole low high pos middle
  High : whole ≡ true → low ≡ false → high ≡ true → middle ≤ pos → Side whole low high pos middle

up_to : (pos middle : ℕ) (to : Option ℕ) → pos < middle → IsUpTo middle to → is_before_end pos to ≡ true
up_to pos middle None h u = refl
up_to pos middle (Some end) h u = grind (arith, nat_tests)

side : (from middle pos : ℕ) (to : Option ℕ) → from ≤ middle → IsUpTo middle to
    → Side (nat_le from pos && is_before_end pos to) (nat_le from pos && nat_lt pos middle) (nat_le middle pos && is_before_end pos to) pos middle
side from middle pos to f u = by (nat_le from pos) refl (nat_lt pos middle) refl (is_before_end pos to) refl
  where
    is : (a b c d : Bool) → a ≡ c → b ≡ d → (a && b) ≡ (c && d)
    is a b c d e g = ap₂ (λ (x y : Bool). x && y) e g

    by : (a : Bool) → nat_le from pos ≡ a → (b : Bool) → nat_lt pos middle ≡ b → (c : Bool) → is_before_end pos to ≡ c
        → Side (nat_le from pos && is_before_end pos to) (nat_le from pos && nat_lt pos middle) (nat_le middle pos && is_before_end pos to) pos middle
    by true a true b c d =
        let below : pos < middle = grind (arith, nat_tests) in
        let before = up_to pos middle to below u in
        let not_high : nat_le middle pos ≡ false = grind (arith, nat_tests) in
        Low (is _ _ true true a before) (is _ _ true true a b) (is _ _ false true not_high before) below
    by true a false b true d =
        let after : middle ≤ pos = grind (arith, nat_tests) in
        let high : nat_le middle pos ≡ true = grind (arith, nat_tests) in
        High (is _ _ true true a d) (is _ _ true false a b) (is _ _ true true high d) after
    by true a false b false d =
        let high : nat_le middle pos ≡ true = grind (arith, nat_tests) in
        Out (is _ _ true false a d) (is _ _ true false a b) (is _ _ true false high d)
    by false a b e c d =
        let low : nat_le middle pos ≡ false = grind (arith, nat_tests) in
        Out (is _ _ false c a d) (is _ _ false b a e) (is _ _ false c low d)

module _ (from middle : ℕ) (to : Option ℕ) (f : from ≤ middle) (u : IsUpTo middle to) where
  abbrev whole : Range
  whole = record { from = from; to = to }

  abbrev low : Range
  low = record { from = from; to = Some middle }

  abbrev high : Range
  high = record { from = middle; to = to }

  -- what is in the lower half has a position below the middle, what is in the upper one from it on
  all_below : (xs : List JournalEntry) → AreBelow middle (filter (is_in low) xs)
  unfolding AreBelow
  all_below [] = tt
  all_below (x ∷ xs) = by (is_in low x) refl (all_below xs)
    where
      by : (b : Bool) → is_in low x ≡ b → AreBelow middle (filter (is_in low) xs) → AreBelow middle (cond b (x ∷ filter (is_in low) xs) (filter (is_in low) xs))
      by true is rest = (grind (arith, nat_tests), rest)
      by false is rest = rest

  all_from : (xs : List JournalEntry) → AreFrom middle (filter (is_in high) xs)
  unfolding AreFrom
  all_from [] = tt
  all_from (x ∷ xs) = by (is_in high x) refl (all_from xs)
    where
      by : (b : Bool) → is_in high x ≡ b → AreFrom middle (filter (is_in high) xs) → AreFrom middle (cond b (x ∷ filter (is_in high) xs) (filter (is_in high) xs))
      by true is rest = (grind (arith, nat_tests), rest)
      by false is rest = rest

  -- the entries of a range with one more, which is one of it or not
  abbrev one : JournalEntry → List JournalEntry → Range → Bool → List JournalEntry
  one x xs range b = in_order (cond b (x ∷ filter (is_in range) xs) (filter (is_in range) xs))

  halved : (xs : List JournalEntry) → in_order (filter (is_in whole) xs) ≡ in_order (filter (is_in low) xs) ++ in_order (filter (is_in high) xs)
  halved [] = refl
  halved (x ∷ xs) = by (side from middle x.stamp.pos to f u) (halved xs)
    where
      by : Side (is_in whole x) (is_in low x) (is_in high x) x.stamp.pos middle
          → in_order (filter (is_in whole) xs) ≡ in_order (filter (is_in low) xs) ++ in_order (filter (is_in high) xs)
          → in_order (filter (is_in whole) (x ∷ xs)) ≡ in_order (filter (is_in low) (x ∷ xs)) ++ in_order (filter (is_in high) (x ∷ xs))
      by (Out w l h) rest = ap (one x xs whole) w ∙ (rest ∙ sym (ap₂ (λ (a b : Bool). one x xs low a ++ one x xs high b) l h))
      by (Low w l h below) rest =
          ap (one x xs whole) w ∙ (ap (put_in_order x) rest
          ∙ (put_front middle x (in_order (filter (is_in low) xs)) (in_order (filter (is_in high) xs)) below (order_from middle (filter (is_in high) xs) (all_from xs))
          ∙ sym (ap₂ (λ (a b : Bool). one x xs low a ++ one x xs high b) l h)))
      by (High w l h after) rest =
          ap (one x xs whole) w ∙ (ap (put_in_order x) rest
          ∙ (put_after middle x (in_order (filter (is_in low) xs)) (in_order (filter (is_in high) xs)) after (order_below middle (filter (is_in low) xs) (all_below xs))
          ∙ sym (ap₂ (λ (a b : Bool). one x xs low a ++ one x xs high b) l h)))

  -- their lines too
  lines_halved : (m : Machine) (xs : List JournalEntry) → slice_lines m low xs ++ slice_lines m high xs ≡ slice_lines m whole xs
  lines_halved m xs =
      sym (ap (λ (l : List JournalEntry). flat_map (entry_line m) (map (λ e. e.entry) l)) (halved xs)
      ∙ (ap (flat_map (entry_line m)) (map-append (λ (e : JournalEntry). e.entry) (in_order (filter (is_in low) xs)) (in_order (filter (is_in high) xs)))
      ∙ flat_map-append (entry_line m) (slice low xs) (slice high xs)))

-- lines of both halves, one after the other
pub halves_joined : (m : Machine) (xs : List JournalEntry) (range low high : Range) (middle : ℕ) → range.from ≤ middle → IsUpTo middle range.to
    → low ≡ record { from = range.from; to = Some middle } → high ≡ record { from = middle; to = range.to } → (front back : List ℕ)
    → front ≡ slice_lines m low xs → back ≡ slice_lines m high xs → front ++ back ≡ slice_lines m range xs
halves_joined m xs range lower upper middle f u is_low is_high front back of_low of_high =
    ap₂ (λ (one other : List ℕ). one ++ other)
    (of_low ∙ ap (λ (r : Range). slice_lines m r xs) is_low) (of_high ∙ ap (λ (r : Range). slice_lines m r xs) is_high)
    ∙ lines_halved range.from middle range.to f u m xs

-- ---- all

-- each entry is of all positions
pub in_all : (xs : List JournalEntry) → filter (is_in (record { from = 0; to = None })) xs ≡ xs
in_all [] = refl
in_all (x ∷ xs) =
    let is : is_in (record { from = 0; to = None }) x ≡ true = grind (arith, nat_tests) in
    ap (λ (b : Bool). cond b (x ∷ filter (is_in (record { from = 0; to = None })) xs) (filter (is_in (record { from = 0; to = None })) xs)) is
    ∙ ap (λ (l : List JournalEntry). x ∷ l) (in_all xs)

pub lines_all : (m : Machine) (xs : List JournalEntry) → slice_lines m (record { from = 0; to = None }) xs ≡ flat_map (entry_line m) (map (λ e. e.entry) (in_order xs))
lines_all m xs = ap (λ (l : List JournalEntry). flat_map (entry_line m) (map (λ e. e.entry) (in_order l))) (in_all xs)
