-- What notifiers, processors and syscore operations need, by their flags.
use Rattle.std.proofs.Common.{◌≡◌, ◌≢◌, ◌≤◌, ◌<◌, ◌+◌, ◌*◌, ◌∙◌, int_lt, ℕ, zero, suc, Bool, true, false, ◌==◌, ◌||◌, nat_lt, List, [], ◌∷◌, ◌⊎◌, inl, inr, length, slice_set, cond, refl, sym, ap, subst, arith}
use Rattle.std.specs.List.{range_with_len}
use Rattle.std.proofs.lemmas.Bool.{true≢false, eqb-true, or_cases}
use Rattle.std.proofs.lemmas.Bool.Decides.{nat_tests}
use Rattle.std.proofs.lemmas.List.{get_or-set_same, get_or-set_other, get_or_past}
use Rattle.sleep_model.specs.declared.machine.Notifier.{Notifier}
use Rattle.sleep_model.specs.Notifiers.{Ranked, put_ranked, ranked_from, numbers_of}
use Rattle.sleep_model.specs.Order.{is_among}
use Rattle.sleep_model.specs.Walk.{is_so}
use Rattle.room_laws.specs.AttemptRoom.{thing_needs, things_need}
use Rattle.room_laws.proofs.Sums.{sum_less, sum_falls, sum_most}

-- the second holds wherever the first does
abbrev pub leads : Bool → Bool → Bool
leads false b = true
leads true b = b

thing_less : (s a b : Bool) → leads b a ≡ true → thing_needs s b ≤ thing_needs s a
thing_less true a b h = omega arith
thing_less false a false h = omega arith
thing_less false true true h = omega arith
thing_less false false true h = absurd (true≢false (sym h))

-- things that are after need no more
pub things_less : (n : ℕ) (flags : List Bool) (a b : Bool) → leads b a ≡ true → things_need n b flags ≤ things_need n a flags
things_less n flags a b h = sum_less n (λ x. thing_needs (is_so flags x) a) (λ x. thing_needs (is_so flags x) b) (λ x. thing_less (is_so flags x) a b h)

thing_most : (s a : Bool) → thing_needs s a ≤ 2
thing_most true a = omega arith
thing_most false true = omega arith
thing_most false false = omega arith

pub things_most : (n : ℕ) (flags : List Bool) (a : Bool) → things_need n a flags ≤ 2 * n
things_most n flags a = omega (arith, sum_most n 2 (λ x. thing_needs (is_so flags x) a) (λ x. thing_most (is_so flags x) a))

same_less : (x y : Bool) (a : Bool) → x ≡ y → thing_needs x a ≤ thing_needs y a
same_less x y a e = subst (λ (z : Bool). thing_needs x a ≤ thing_needs z a) e (omega arith)

others_less : (flags : List Bool) (d : ℕ) (s a : Bool) (x : ℕ) → x ≢ d → thing_needs (is_so (slice_set flags d s) x) a ≤ thing_needs (is_so flags x) a
others_less flags d s a x other = same_less (is_so (slice_set flags d s) x) (is_so flags x) a (get_or-set_other flags d x s false other)

-- a thing that is done spends one
pub thing_done : (n d : ℕ) (flags : List Bool) → length flags ≡ n → d < n → is_so flags d ≡ false → things_need n true (slice_set flags d true) + 1 ≤ things_need n true flags
thing_done n d flags l i e =
    let now : is_so (slice_set flags d true) d ≡ true = get_or-set_same flags d true false (omega (arith, l)) in
    let after : thing_needs (is_so (slice_set flags d true) d) true ≡ 1 = ap (λ s. thing_needs s true) now in
    let before : thing_needs (is_so flags d) true ≡ 2 = ap (λ s. thing_needs s true) e in
    sum_falls n d (λ x. thing_needs (is_so flags x) true) (λ x. thing_needs (is_so (slice_set flags d true) x) true) (others_less flags d true true) (omega (arith, after, before)) i

in_flags : (flags : List Bool) (d : ℕ) → is_so flags d ≡ true → d < length flags
in_flags flags d h = by_test (nat_lt d (length flags)) refl
  where
    by_test : (b : Bool) → nat_lt d (length flags) ≡ b → d < length flags
    by_test true e = grind (arith, nat_tests)
    by_test false e = let l : length flags ≤ d = grind (arith, nat_tests) in absurd (true≢false (sym h ∙ get_or_past flags d false l))

-- and so does one that is undone
pub thing_undone : (n d : ℕ) (flags : List Bool) → length flags ≡ n → is_so flags d ≡ true → things_need n false (slice_set flags d false) + 1 ≤ things_need n false flags
thing_undone n d flags l e =
    let i : d < length flags = in_flags flags d e in
    let now : is_so (slice_set flags d false) d ≡ false = get_or-set_same flags d false false i in
    let after : thing_needs (is_so (slice_set flags d false) d) false ≡ 0 = ap (λ s. thing_needs s false) now in
    let before : thing_needs (is_so flags d) false ≡ 1 = ap (λ s. thing_needs s false) e in
    sum_falls n d (λ x. thing_needs (is_so flags x) false) (λ x. thing_needs (is_so (slice_set flags d false) x) false) (others_less flags d false false) (omega (arith, after, before)) (omega (arith, l))

-- ---- which things there are

pub within_run : (a n d : ℕ) → is_among (range_with_len a n) d ≡ true → d < a + n
within_run a zero d m = absurd (true≢false (sym m))
within_run a (suc n) d m = by_place (within_run (a + 1) n d) (or_cases (a == d) (is_among (range_with_len (a + 1) n) d) m)
  where
    by_place : (is_among (range_with_len (a + 1) n) d ≡ true → d < a + 1 + n) → ((a == d) ≡ true) ⊎ (is_among (range_with_len (a + 1) n) d ≡ true) → d < a + suc n
    by_place rest (inl e) = let same : a ≡ d = eqb-true a d e in omega arith
    by_place rest (inr e) = let r = rest e in omega arith

among_put : (x : Ranked) (ys : List Ranked) (d : ℕ) → is_among (numbers_of (put_ranked x ys)) d ≡ true → ((x.number == d) ≡ true) ⊎ (is_among (numbers_of ys) d ≡ true)
among_put x [] d m = or_cases (x.number == d) false m
among_put x (y ∷ ys) d m = by_test (among_put x ys d) (int_lt x.priority y.priority) m
  where
    later : (b : Bool) → ((x.number == d) ≡ true) ⊎ (is_among (numbers_of ys) d ≡ true) → ((x.number == d) ≡ true) ⊎ ((b || is_among (numbers_of ys) d) ≡ true)
    later b (inl e) = inl e
    later true (inr e) = inr refl
    later false (inr e) = inr e

    by_first : (is_among (numbers_of (put_ranked x ys)) d ≡ true → ((x.number == d) ≡ true) ⊎ (is_among (numbers_of ys) d ≡ true)) → ((y.number == d) ≡ true) ⊎ (is_among (numbers_of (put_ranked x ys)) d ≡ true) → ((x.number == d) ≡ true) ⊎ ((y.number == d || is_among (numbers_of ys) d) ≡ true)
    by_first rest (inl e) = inr (ap (λ b. b || is_among (numbers_of ys) d) e)
    by_first rest (inr e) = later (y.number == d) (rest e)

    by_test : (is_among (numbers_of (put_ranked x ys)) d ≡ true → ((x.number == d) ≡ true) ⊎ (is_among (numbers_of ys) d ≡ true)) → (b : Bool) → is_among (numbers_of (cond b (y ∷ put_ranked x ys) (x ∷ y ∷ ys))) d ≡ true → ((x.number == d) ≡ true) ⊎ ((y.number == d || is_among (numbers_of ys) d) ≡ true)
    by_test rest true n = by_first rest (or_cases (y.number == d) (is_among (numbers_of (put_ranked x ys)) d) n)
    by_test rest false n = or_cases (x.number == d) (y.number == d || is_among (numbers_of ys) d) n

-- the notifiers that are called are those of the machine
pub within_ranked : (n : ℕ) (xs : List Notifier) (d : ℕ) → is_among (numbers_of (ranked_from n xs)) d ≡ true → d < n + length xs
within_ranked n [] d m = absurd (true≢false (sym m))
within_ranked n (x ∷ xs) d m = by_place (within_ranked (suc n) xs d) (among_put (record { number = n; priority = x.priority }) (ranked_from (suc n) xs) d m)
  where
    by_place : (is_among (numbers_of (ranked_from (suc n) xs)) d ≡ true → d < suc n + length xs) → ((n == d) ≡ true) ⊎ (is_among (numbers_of (ranked_from (suc n) xs)) d ≡ true) → d < n + suc (length xs)
    by_place rest (inl e) = let same : n ≡ d = eqb-true n d e in omega arith
    by_place rest (inr e) = let r = rest e in omega arith
