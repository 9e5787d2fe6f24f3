-- Seats that are made, one after another, and that come back; and what a seat can do next.
use Rattle.std.proofs.Common.{◌≡◌, ℕ, suc, ◌<◌, Bool, true, false, ◌&&◌, nat_lt, Some, List, [], ◌∷◌, ◌++◌, length, get_or, sym, refl, ap, ◌∙◌, subst, ⊎_elim, arith, length-append}
use Rattle.std.proofs.lemmas.Bool.{false≢true}
use Rattle.std.proofs.lemmas.Bool.Decides.{nat_tests}
use Rattle.std.proofs.lemmas.List.{length-map}
use mathlib.Core.List.{map-append}
use mathlib.Core.Option.{some, some-ne-none}
use lib.ListN.{get_elem?}
use Rattle.atomic_table.proofs.Lists.{at_index, at_last, at_longer, at_map}
use Rattle.atomic_table.specs.Seated.{TableId}
use Rattle.sleep_model.specs.declared.word.WordKind.{WordKind}
use Rattle.event_word.specs.declared.table.EventSeat.{EventSeat}
use Rattle.event_word.specs.Steps.{MadeStep, active_after, fits, can_make}
use Rattle.event_word.specs.Counting.{with_one_source, source_view}
use Rattle.event_word.specs.Seats.{WordToken, IsSeatOf, IsUntouched, AreAllSeats, AreNew, source_count, made_of, number_of}
use Rattle.event_word.specs.Lists.{tokens, made_lists}
use Rattle.event_word.proofs.Invariance.{at_end}

both_true : (a b : Bool) → (a && b) ≡ true → (a ≡ true) × (b ≡ true)
both_true true b e = (refl, e)
both_true false b e = absurd (false≢true e)

-- what a seat can do next: the step fits, there is room for it, and what comes after it can be done then
pub can_step : (kind : WordKind) (count : ℕ) (active : Bool) (rest : List WordKind) → can_make count active (kind ∷ rest) ≡ true
    → (count < 60000) × (fits kind active ≡ true) × (can_make (suc count) (active_after kind active) rest ≡ true)
can_step kind count active rest can =
    let a = both_true (nat_lt count 60000 && fits kind active) (can_make (suc count) (active_after kind active) rest) can in
    let b = both_true (nat_lt count 60000) (fits kind active) a.0 in
    let t : nat_lt count 60000 ≡ true = b.0 in (grind (arith, nat_tests), b.1, a.1)

-- a step that fits can be made if there is room
pub can_now : (kind : WordKind) (count : ℕ) (active : Bool) → count < 60000 → fits kind active ≡ true → (rest : List WordKind) × (can_make count active (kind ∷ rest) ≡ true)
can_now kind count active room fit = let t : nat_lt count 60000 ≡ true = grind (arith, nat_tests) in
    ([], ap (λ b. b && fits kind active && true) t ∙ (ap (λ b. b && true) fit))

-- seats that come back in their order, each with its number, are all seats
pub all_back : (look : WordToken) (before after : List WordToken) → AreAllSeats look before → length after ≡ length before
    → ((k : ℕ) (t : WordToken) → get_elem? after k ≡ some t → (old : WordToken) × (get_elem? before k ≡ some old) × (t.table_id ≡ old.table_id) × (number_of t ≡ number_of old)) → AreAllSeats look after
all_back look before after are same each = record {
  counted = same ∙ are.counted;
  each_is = λ k t at. let e = each k t at in let was = are.each_is k e.0 e.1 in (e.2 ∙ was.0, e.3 ∙ was.1);
}

-- a seat of a new table
new_seat : (look : WordToken) (seats : List EventSeat) (k : ℕ) (seat : EventSeat) → AreNew look (tokens seats) → get_elem? seats k ≡ some seat → (seat.token.table_id ≡ look.table_id) × (made_of seat.token ≡ [])
new_seat look seats k seat are at =
    let there = at_map (λ (s : EventSeat). s.token) seats k seat at in
    ((are.all_are.each_is k seat.token there).0, (are.untouched k seat.token there).made)

-- the same, by an index in the list
pub new_at : (look : WordToken) (z : TableId) (seats : List EventSeat) (k : ℕ) (seat : EventSeat) → look.table_id ≡ z → AreNew look (tokens seats) → k < length seats → seat ≡ get_or seats k seat
    → (seat.token.table_id ≡ z) × (made_of seat.token ≡ [])
new_at look z seats k seat table are low e =
    let new = new_seat look seats k seat are (at_index seats k seat low e) in
    (subst (λ (y : TableId). seat.token.table_id ≡ y) table new.0, new.1)

-- the last two seats of a new table
pub last_two : (look : WordToken) (seats front rest : List EventSeat) (first second : EventSeat) → AreNew look (tokens seats) → seats ≡ front ++ second ∷ [] → front ≡ rest ++ first ∷ []
    → ((first.token.table_id ≡ look.table_id) × (made_of first.token ≡ [])) × ((second.token.table_id ≡ look.table_id) × (made_of second.token ≡ []))
last_two look seats front rest first second are is was = (
  new_seat look seats (length rest) first are
      (ap (λ l. get_elem? l (length rest)) (is ∙ ap (λ l. l ++ second ∷ []) was) ∙ at_longer (rest ++ first ∷ []) (second ∷ []) (length rest) first (at_last rest first (length rest) refl)),
  new_seat look seats (length front) second are (ap (λ l. get_elem? l (length front)) is ∙ at_last front second (length front) refl),
)

pub none_new : (look : WordToken) → source_count look ≡ 0 → AreNew look []
none_new look e = record {
  all_are = record { counted = sym e; each_is = λ k t at. absurd (some-ne-none t (sym at)) };
  untouched = λ k t at. absurd (some-ne-none t (sym at));
}

one_new : (look look' : WordToken) (ts : List WordToken) (t : WordToken) → look'.table_id ≡ look.table_id → look'.me ≡ (with_one_source look.me.0, []) → t.table_id ≡ look.table_id → t.me ≡ (source_view (source_count look), [])
    → AreNew look ts → AreNew look' (ts ++ t ∷ [])
one_new look look' ts t same me table mine are =
    let next : source_count look' ≡ suc (source_count look) = ap (λ m. m.0.next) me in
    let counted = are.all_are.counted in
    let long = length-append ts (t ∷ []) in
    record {
      all_are = record {
        counted = omega arith;
        each_is = λ k q at. ⊎_elim (λ old. let b = are.all_are.each_is k q old in (b.0 ∙ sym same, b.1))
            (λ (p : (k ≡ length ts) × (t ≡ q)). subst (λ (z : ℕ × WordToken). IsSeatOf look'.table_id z.0 z.1) (λ i. ((sym p.0 i), p.1 i))
            (table ∙ sym same, ap (λ m. m.0.number) mine ∙ ap (λ (n : ℕ). Some n) (sym counted))) (at_end ts t q k at);
      };
      untouched = λ k q at. ⊎_elim (λ old. are.untouched k q old)
          (λ (p : (k ≡ length ts) × (t ≡ q)). subst IsUntouched p.1 (record { made = ap (λ m. m.0.made) mine; looked = ap (λ m. m.0.looked) mine; floor = ap (λ m. m.0.floor) mine })) (at_end ts t q k at);
    }

pub seats_more : (look look' : WordToken) (seats : List EventSeat) (seat : EventSeat) → look'.table_id ≡ look.table_id → look'.me ≡ (with_one_source look.me.0, []) → seat.token.table_id ≡ look.table_id
    → seat.token.me ≡ (source_view (source_count look), []) → AreNew look (tokens seats) → AreNew look' (tokens (seats ++ seat ∷ []))
seats_more look look' seats seat same me table mine are =
    subst (AreNew look') (sym (map-append (λ (s : EventSeat). s.token) seats (seat ∷ []))) (one_new look look' (tokens seats) seat.token same me table mine are)

module _ {A : Type 0} where
  at_middle : (xs rest : List A) (a : A) → get_elem? (xs ++ a ∷ rest) (length xs) ≡ some a
  at_middle [] rest a = refl
  at_middle (x ∷ xs) rest a = at_middle xs rest a

-- the seat that comes next has the number of its index
pub came : (look : WordToken) (seats yielded left rest : List EventSeat) (seat : EventSeat) → AreAllSeats look (tokens seats) → yielded ++ left ≡ seats → left ≡ seat ∷ rest
    → (seat.token.table_id ≡ look.table_id) × (number_of seat.token ≡ Some (length yielded))
came look seats yielded left rest seat are whole next = are.each_is (length yielded) seat.token
    (at_map (λ (s : EventSeat). s.token) seats (length yielded) seat (ap (λ l. get_elem? l (length yielded)) (sym whole ∙ ap (λ l. yielded ++ l) next) ∙ at_middle yielded rest seat))

pub known_length : (yielded : List EventSeat) (known : List (List MadeStep)) → known ≡ made_lists yielded → length known ≡ length yielded
known_length yielded known e = ap length e ∙ length-map yielded (λ (s : EventSeat). made_of s.token)

-- once all seats came back, as many are known as there are
pub all_in : (look look' : WordToken) (seats : List EventSeat) → AreAllSeats look (tokens seats) → source_count look' ≡ source_count look → look'.me.0.known ≡ made_lists seats → source_count look' ≡ length look'.me.0.known
all_in look look' seats are same known = same ∙ (sym are.counted ∙ (length-map seats (λ (s : EventSeat). s.token) ∙ sym (known_length seats look'.me.0.known known)))
