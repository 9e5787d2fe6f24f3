-- How turns add up, over time and over the jobs.
use Rattle.std.proofs.Common.{◌≡◌, ◌∙◌, ◌<◌, ◌≤◌, ◌+◌, ◌-◌, ◌*◌, ℕ, suc, zero, Bool, true, false, List, [], ◌∷◌, ◌++◌, length, refl, sym, ap, subst, arith}
use mathlib.Core.Logic.{⊎_elim}
use mathlib.Core.Logic.{inl, inr}
use lib.ListN.{take, drop}
use native.Mathlib.Nat.{add-mul, one-mul, suc-mul, zero-mul, mul-le-mul_right}
use Rattle.std.proofs.lemmas.Bool.{cases_lt}
use Rattle.std.proofs.lemmas.List.{length-append, length-drop, drop_all, drop_at, drop-drop, drop-append-le, take-append-le, take_all, append_assoc}
use Rattle.sleep_pool.specs.declared.turns.Turn.{Turn}
use Rattle.sleep_pool.specs.declared.turns.Turn.TheVariants.{Did, NotYet, Done, Stop}
use Rattle.sleep_pool.specs.Turns.{did_in, goes_on, Went, AllWent, WentOn, WentIdle, WentToStop, CutShort, Ended, FirstWent, FirstsWent, OfParts}

-- what two lists did is what each did
pub did_append : (xs ys : List Turn) → did_in (xs ++ ys) ≡ did_in xs + did_in ys
did_append [] ys = omega arith
did_append (x ∷ xs) ys = let e = did_append xs ys in omega arith

-- after turns without a Stop come others
pub on_append : (stop : Bool) (xs ys : List Turn) → goes_on false xs ≡ true → goes_on stop ys ≡ true → goes_on stop (xs ++ ys) ≡ true
on_append stop [] ys h k = k
on_append stop (Stop ∷ []) ys h k = grind (arith, h)
on_append stop (Stop ∷ x ∷ xs) ys h k = grind (arith, h)
on_append stop (Did ∷ xs) ys h k = on_append stop xs ys h k
on_append stop (NotYet ∷ xs) ys h k = on_append stop xs ys h k
on_append stop (Done ∷ xs) ys h k = on_append stop xs ys h k

-- turns without a Stop go on if the last may be one, too
pub on_weaker : (stop : Bool) (xs : List Turn) → goes_on false xs ≡ true → goes_on stop xs ≡ true
on_weaker stop [] h = refl
on_weaker stop (Stop ∷ []) h = grind (arith, h)
on_weaker stop (Stop ∷ x ∷ xs) h = grind (arith, h)
on_weaker stop (Did ∷ xs) h = on_weaker stop xs h
on_weaker stop (NotYet ∷ xs) h = on_weaker stop xs h
on_weaker stop (Done ∷ xs) h = on_weaker stop xs h

-- and if the last may be one in any case
pub on_wider : (stop : Bool) (xs : List Turn) → goes_on stop xs ≡ true → goes_on true xs ≡ true
on_wider true xs h = h
on_wider false xs h = on_weaker true xs h

module _ {J : Type 0} where
  -- jobs that made no turn
  pub still : (R : J → List Turn → J → Type 0) → ((a : J) → R a [] a) → (olds : List J) → AllWent R olds olds 0
  still R none [] = refl
  still R none (a ∷ olds) = ([], 0, none a, still R none olds, refl)

  -- two runs of jobs side by side
  pub beside : (R : J → List Turn → J → Type 0) (olds bs cs ds : List J) (n m : ℕ) → AllWent R olds bs n → AllWent R cs ds m → AllWent R (olds ++ cs) (bs ++ ds) (n + m)
  beside R [] [] cs ds n m h k = subst (AllWent R cs ds) (omega (arith, h)) k
  beside R [] (b ∷ bs) cs ds n m h k = absurd h
  beside R (a ∷ olds) [] cs ds n m h k = absurd h
  beside R (a ∷ olds) (b ∷ bs) cs ds n m (turns, rest, r, more, sum) k = (turns, rest + m, r, beside R olds bs cs ds rest m more k, omega (arith, sum))

  -- the jobs, and the same jobs later
  pub later : (R S T : J → List Turn → J → Type 0) → ((a b c : J) (xs ys : List Turn) → R a xs b → S b ys c → T a (xs ++ ys) c)
      → (olds bs cs : List J) (n m : ℕ) → AllWent R olds bs n → AllWent S bs cs m → AllWent T olds cs (n + m)
  later R S T both [] [] [] n m h k = omega (arith, h, k)
  later R S T both [] [] (c ∷ cs) n m h k = absurd k
  later R S T both [] (b ∷ bs) cs n m h k = absurd h
  later R S T both (a ∷ olds) [] cs n m h k = absurd h
  later R S T both (a ∷ olds) (b ∷ bs) [] n m h k = absurd k
  later R S T both (a ∷ olds) (b ∷ bs) (c ∷ cs) n m (xs, i, r, hs, e) (ys, j, s, ks, f) =
      (xs ++ ys, i + j, both a b c xs ys r s, later R S T both olds bs cs i j hs ks, omega (arith, e, f, did_append xs ys))

  -- what holds of less holds
  pub weaker : (R S : J → List Turn → J → Type 0) → ((a b : J) (xs : List Turn) → R a xs b → S a xs b) → (olds bs : List J) (n : ℕ) → AllWent R olds bs n → AllWent S olds bs n
  weaker R S less [] [] n h = h
  weaker R S less [] (b ∷ bs) n h = absurd h
  weaker R S less (a ∷ olds) [] n h = absurd h
  weaker R S less (a ∷ olds) (b ∷ bs) n (xs, i, r, hs, e) = (xs, i, less a b xs r, weaker R S less olds bs i hs, e)

  -- a list of no length is empty
  pub nobody : (xs : List J) → length xs ≡ 0 → xs ≡ []
  nobody [] h = refl
  nobody (x ∷ xs) h = absurd (omega (arith, h))

  -- no job is lost
  pub as_many : (R : J → List Turn → J → Type 0) (olds bs : List J) (n : ℕ) → AllWent R olds bs n → length bs ≡ length olds
  as_many R [] [] n h = refl
  as_many R [] (b ∷ bs) n h = absurd h
  as_many R (a ∷ olds) [] n h = absurd h
  as_many R (a ∷ olds) (b ∷ bs) n (xs, i, r, hs, e) = ap suc (as_many R olds bs i hs)

  -- the first of two runs that are not empty is the first of the first one
  pub first_beside : (left : J → ℕ) (olds bs cs ds : List J) → 0 < length olds → FirstWent left olds bs → FirstWent left (olds ++ cs) (bs ++ ds)
  first_beside left [] bs cs ds some h = absurd (omega (arith, some))
  first_beside left (a ∷ olds) [] cs ds some h = absurd h
  first_beside left (a ∷ olds) (b ∷ bs) cs ds some h = h

  -- later the first job has no more turns left than before
  pub first_later : (made : J → List Turn → J → Type 0) (left : J → ℕ) (stop : Bool) (most : ℕ) (olds bs cs : List J) (n : ℕ)
      → FirstWent left olds bs → AllWent (Went made left stop most) bs cs n → FirstWent left olds cs
  first_later made left stop most [] bs cs n h k = tt
  first_later made left stop most (a ∷ olds) [] cs n h k = absurd h
  first_later made left stop most (a ∷ olds) (b ∷ bs) [] n h k = absurd k
  first_later made left stop most (a ∷ olds) (b ∷ bs) (c ∷ cs) n h (xs, i, r, ks, e) = omega (arith, h, r.1)

  -- a round that a Stop cuts short in its first half
  pub cut_front : (made : J → List Turn → J → Type 0) (left : J → ℕ) (rounds : ℕ) (olds bs cs ds : List J) (m : ℕ)
      → CutShort made left rounds olds bs → AllWent (WentOn made left rounds) cs ds m → CutShort made left rounds (olds ++ cs) (bs ++ ds)
  cut_front made left rounds [] bs cs ds m h k = absurd h
  cut_front made left rounds (a ∷ olds) [] cs ds m h k = absurd h
  cut_front made left rounds (a ∷ olds) (b ∷ bs) cs ds m (inl (xs, n, w, more)) k =
      inl (xs, n + m, w, beside (WentOn made left rounds) olds bs cs ds n m more k)
  cut_front made left rounds (a ∷ olds) (b ∷ bs) cs ds m (inr (xs, w, more)) k = inr (xs, w, cut_front made left rounds olds bs cs ds m more k)

  -- and in its back half
  pub cut_back : (made : J → List Turn → J → Type 0) (left : J → ℕ) (rounds : ℕ) (olds bs cs ds : List J) (n : ℕ)
      → AllWent (WentOn made left (1 + rounds)) olds bs n → CutShort made left rounds cs ds → CutShort made left rounds (olds ++ cs) (bs ++ ds)
  cut_back made left rounds [] [] cs ds n h k = k
  cut_back made left rounds [] (b ∷ bs) cs ds n h k = absurd h
  cut_back made left rounds (a ∷ olds) [] cs ds n h k = absurd h
  cut_back made left rounds (a ∷ olds) (b ∷ bs) cs ds n (xs, rest, r, more, sum) k = inr (xs, r, cut_back made left rounds olds bs cs ds rest more k)

  -- a round that did nothing leaves each job idle
  pub idle : (made : J → List Turn → J → Type 0) (left : J → ℕ) (olds bs : List J) (n : ℕ) → n ≡ 0 → AllWent (WentOn made left 1) olds bs n → AllWent (WentIdle made left 1) olds bs n
  idle made left [] [] n z h = h
  idle made left [] (b ∷ bs) n z h = absurd h
  idle made left (a ∷ olds) [] n z h = absurd h
  idle made left (a ∷ olds) (b ∷ bs) n z ([], i, r, hs, e) = absurd (omega (arith, r.1))
  idle made left (a ∷ olds) (b ∷ bs) n z (x ∷ y ∷ xs, i, r, hs, e) = absurd (omega (arith, r.1))
  idle made left (a ∷ olds) (b ∷ bs) n z (x ∷ [], i, r, hs, e) =
      (x ∷ [], i, (r, ([], x, refl, omega (arith, z, e))), idle made left olds bs i (omega (arith, z, e)) hs, e)

  -- if there is one part, what holds of all holds of it
  pub parts_one : (P : List J → List J → Type 0) (size : ℕ) (olds news : List J) → length olds ≤ size → length news ≡ length olds → P [] []
      → P olds news → OfParts P size olds news
  parts_one P size olds news short same nobody h zero =
      let whole : (xs : List J) → length xs ≤ size → take size (drop (0 * size) xs) ≡ xs = (λ xs l. ap (λ k. take size (drop k xs)) (zero-mul size) ∙ take_all size xs l) in
      rw (whole olds short, whole news (omega arith)) h
  parts_one P size olds news short same nobody h (suc part) =
      let none : (xs : List J) → length xs ≤ size → take size (drop (suc part * size) xs) ≡ [] =
      (λ xs l. ap (take size) (drop_all (suc part * size) xs (omega (arith, suc-mul part size, l))) ∙ take_all size [] (omega arith)) in
      rw (none olds short, none news (omega arith)) nobody

  -- the parts of two runs, one after the other, if the first has whole parts
  pub parts_beside : (P : List J → List J → Type 0) (size most : ℕ) (olds bs cs ds : List J) → length olds ≡ most * size → length bs ≡ length olds
      → OfParts P size olds bs → OfParts P size cs ds → OfParts P size (olds ++ cs) (bs ++ ds)
  parts_beside P size most olds bs cs ds whole same h k part = ⊎_elim
      (λ ahead.
      let room : part * size + size ≤ most * size =
      (let up : part + 1 ≤ most = omega arith in omega (arith, mul-le-mul_right size up, add-mul part 1 size, one-mul size)) in
      let at : (xs ys : List J) → length xs ≡ most * size → take size (drop (part * size) (xs ++ ys)) ≡ take size (drop (part * size) xs) =
      (λ xs ys e. ap (take size) (drop-append-le (part * size) xs ys (omega arith)) ∙ take-append-le size (drop (part * size) xs) ys (omega (arith, length-drop (part * size) xs))) in
      rw (at olds cs whole, at bs ds (same ∙ whole)) (h part))
      (λ after.
      let n = part - most in
      let is : part * size ≡ most * size + n * size = ap (λ i. i * size) (omega arith) ∙ add-mul most n size in
      let at : (xs ys : List J) → length xs ≡ most * size → take size (drop (part * size) (xs ++ ys)) ≡ take size (drop (n * size) ys) =
      (λ xs ys e. ap (λ i. take size (drop i (xs ++ ys))) is ∙ ap (take size) (sym (drop-drop (n * size) (most * size) (xs ++ ys)) ∙ ap (drop (n * size)) (drop_at xs ys (most * size) e))) in
      rw (at olds cs whole, at bs ds (same ∙ whole)) (k n))
      (cases_lt part most)

  -- if there is one part, its first job is the first of all
  pub firsts_one : (left : J → ℕ) (size : ℕ) (olds news : List J) → length olds ≤ size → FirstWent left olds news → FirstsWent left size olds news
  firsts_one left size olds news short h zero = rw (zero-mul size) h
  firsts_one left size olds news short h (suc part) =
      let none : drop (suc part * size) olds ≡ [] = drop_all (suc part * size) olds (omega (arith, suc-mul part size, short)) in
      subst (λ l. FirstWent left l (drop (suc part * size) news)) (sym none) tt

  -- the first jobs of two runs, one after the other, if the first run has whole parts
  pub firsts_beside : (left : J → ℕ) (size most : ℕ) (olds bs cs ds : List J) → 0 < size → length olds ≡ most * size → length bs ≡ length olds
      → FirstsWent left size olds bs → FirstsWent left size cs ds → FirstsWent left size (olds ++ cs) (bs ++ ds)
  firsts_beside left size most olds bs cs ds some whole same h k part = ⊎_elim
      (λ ahead.
      let room : part * size + size ≤ most * size =
      (let up : part + 1 ≤ most = omega arith in omega (arith, mul-le-mul_right size up, add-mul part 1 size, one-mul size)) in
      let e = drop-append-le (part * size) olds cs (omega arith) in
      let f = drop-append-le (part * size) bs ds (omega arith) in
      let g = first_beside left (drop (part * size) olds) (drop (part * size) bs) cs ds (omega (arith, length-drop (part * size) olds)) (h part) in
      subst (λ l. FirstWent left l (drop (part * size) (bs ++ ds))) (sym e) (subst (FirstWent left (drop (part * size) olds ++ cs)) (sym f) g))
      (λ after.
      let n = part - most in
      let is : part * size ≡ most * size + n * size = ap (λ i. i * size) (omega arith) ∙ add-mul most n size in
      let at : (xs ys : List J) → length xs ≡ most * size → drop (part * size) (xs ++ ys) ≡ drop (n * size) ys =
      (λ xs ys e. ap (λ i. drop i (xs ++ ys)) is ∙ sym (drop-drop (n * size) (most * size) (xs ++ ys)) ∙ ap (drop (n * size)) (drop_at xs ys (most * size) e)) in
      subst (λ l. FirstWent left l (drop (part * size) (bs ++ ds))) (sym (at olds cs whole)) (subst (FirstWent left (drop (n * size) cs)) (sym (at bs ds (same ∙ whole))) (k n)))
      (cases_lt part most)

-- a job by its meanings, with the laws of its relation
module _ {J : Type 0} (made : J → List Turn → J → Type 0) (left : J → ℕ)
    (none : (a : J) → made a [] a)
    (more : (a b c : J) (xs ys : List Turn) → made a xs b → made b ys c → made a (xs ++ ys) c) where
  -- a job that made no turn
  pub went_none : (stop : Bool) (most : ℕ) (a : J) → Went made left stop most a [] a
  went_none stop most a = (none a, omega arith, refl, omega arith)

  -- a job goes on
  pub went_more : (stop : Bool) (m n : ℕ) (a b c : J) (xs ys : List Turn) → Went made left false m a xs b → Went made left stop n b ys c
      → Went made left stop (m + n) a (xs ++ ys) c
  went_more stop m n a b c xs ys h k =
      let long = length-append xs ys in (more a b c xs ys h.0 k.0, omega (arith, h.1, k.1, long), on_append stop xs ys h.2 k.2, omega (arith, h.3, k.3, long))

  went_weaker : (stop : Bool) (most : ℕ) (a b : J) (xs : List Turn) → Went made left false most a xs b → Went made left stop most a xs b
  went_weaker stop most a b xs h = (h.0, h.1, on_weaker stop xs h.2, h.3)

  went_wider : (stop : Bool) (m n : ℕ) → m ≤ n → (a b : J) (xs : List Turn) → Went made left stop m a xs b → Went made left true n a xs b
  went_wider stop m n less a b xs h = (h.0, h.1, on_wider stop xs h.2, omega (arith, less, h.3))

  -- jobs that made no turn
  pub all_still : (stop : Bool) (most : ℕ) (olds : List J) → AllWent (Went made left stop most) olds olds 0
  all_still stop most = still (Went made left stop most) (went_none stop most)

  -- a round that ended with its first half
  pub half_went : (stop : Bool) (most : ℕ) (olds bs cs : List J) (n : ℕ) → AllWent (Went made left stop most) olds bs n
      → AllWent (Went made left stop most) (olds ++ cs) (bs ++ cs) n
  half_went stop most olds bs cs n h =
      subst (AllWent (Went made left stop most) (olds ++ cs) (bs ++ cs)) (omega arith) (beside (Went made left stop most) olds bs cs cs n 0 h (all_still stop most cs))

  -- a round whose first half had no Stop
  pub halves_went : (stop : Bool) (most : ℕ) (olds bs cs ds : List J) (n m : ℕ) → AllWent (Went made left false most) olds bs n
      → AllWent (Went made left stop most) cs ds m → AllWent (Went made left stop most) (olds ++ cs) (bs ++ ds) (n + m)
  halves_went stop most olds bs cs ds n m h k = beside (Went made left stop most) olds bs cs ds n m (weaker _ _ (went_weaker stop most) olds bs n h) k

  -- a round in which there may be a Stop, among others
  pub all_wider : (stop : Bool) (m n : ℕ) → m ≤ n → (olds bs : List J) (count : ℕ) → AllWent (Went made left stop m) olds bs count → AllWent (Went made left true n) olds bs count
  all_wider stop m n less olds bs count h = weaker _ _ (went_wider stop m n less) olds bs count h

  -- a round without a Stop, and what comes later
  pub all_later : (rest most : ℕ) → 1 + rest ≡ most → (olds bs cs : List J) (n m : ℕ) → AllWent (Went made left false 1) olds bs n
      → AllWent (Went made left true rest) bs cs m → AllWent (Went made left true most) olds cs (n + m)
  all_later rest most is olds bs cs n m h k =
      subst (λ i. AllWent (Went made left true i) olds cs (n + m)) is (later _ _ _ (went_more true 1 rest) olds bs cs n m h k)

  -- a job that went on goes on
  pub on_more : (m n : ℕ) (a b c : J) (xs ys : List Turn) → WentOn made left m a xs b → WentOn made left n b ys c → WentOn made left (m + n) a (xs ++ ys) c
  on_more m n a b c xs ys h k = (went_more false m n a b c xs ys h.0 k.0, length-append xs ys ∙ omega (arith, h.1, k.1))

  idle_more : (m n : ℕ) (a b c : J) (xs ys : List Turn) → WentOn made left m a xs b → WentIdle made left n b ys c → WentIdle made left (m + n) a (xs ++ ys) c
  idle_more m n a b c xs ys h (k, (before, last, is, nothing)) =
      (on_more m n a b c xs ys h k, (xs ++ before, last, ap (λ l. xs ++ l) is ∙ sym (append_assoc xs before (last ∷ [])), nothing))

  stop_more : (m n : ℕ) (a b c : J) (xs ys : List Turn) → WentOn made left m a xs b → WentToStop made left n b ys c → WentToStop made left (m + n) a (xs ++ ys) c
  stop_more m n a b c xs ys h (k, long, (before, is)) =
      (went_more true m n a b c xs ys h.0 k, length-append xs ys ∙ omega (arith, h.1, long), (xs ++ before, ap (λ l. xs ++ l) is ∙ sym (append_assoc xs before (Stop ∷ []))))

  -- a whole round, and then others of which one is cut short
  cut_later : (rounds : ℕ) (olds bs cs : List J) (n : ℕ) → AllWent (WentOn made left 1) olds bs n → CutShort made left rounds bs cs → CutShort made left (1 + rounds) olds cs
  cut_later rounds [] [] cs n h k = absurd k
  cut_later rounds [] (b ∷ bs) cs n h k = absurd h
  cut_later rounds (a ∷ olds) [] cs n h k = absurd h
  cut_later rounds (a ∷ olds) (b ∷ bs) [] n h k = absurd k
  cut_later rounds (a ∷ olds) (b ∷ bs) (c ∷ cs) n (xs, i, r, hs, e) (inl (ys, j, s, ks)) =
      inl (xs ++ ys, i + j, stop_more 1 (1 + rounds) a b c xs ys r s, later _ _ _ (on_more 1 rounds) olds bs cs i j hs ks)
  cut_later rounds (a ∷ olds) (b ∷ bs) (c ∷ cs) n (xs, i, r, hs, e) (inr (ys, s, ks)) =
      inr (xs ++ ys, on_more 1 (1 + rounds) a b c xs ys r s, cut_later rounds olds bs cs i hs ks)

  -- jobs that made no turn went on for none
  pub on_none : (olds : List J) → AllWent (WentOn made left 0) olds olds 0
  on_none olds = still (WentOn made left 0) (λ a. (went_none false 0 a, refl)) olds

  -- a round that ended with its first half
  pub half_cut : (olds bs cs : List J) → CutShort made left 0 olds bs → CutShort made left 0 (olds ++ cs) (bs ++ cs)
  half_cut olds bs cs h = cut_front made left 0 olds bs cs cs 0 h (on_none cs)

  -- no round was asked for
  pub ended_none : (olds : List J) → Ended made left 0 olds olds
  ended_none olds = inl (0, on_none olds)

  -- a round with a Stop
  pub ended_stop : (most : ℕ) → 1 ≤ most → (olds bs : List J) → CutShort made left 0 olds bs → Ended made left most olds bs
  ended_stop most some olds bs h = inr (inr (0, omega (arith, some), h))

  -- a round that did nothing
  pub ended_idle : (most : ℕ) → 1 ≤ most → (olds bs : List J) (n : ℕ) → n ≡ 0 → AllWent (WentOn made left 1) olds bs n → Ended made left most olds bs
  ended_idle most some olds bs n z h = inr (inl (1, n, some, idle made left olds bs n z h))

  -- a round, and the others
  ended_after : (rest : ℕ) (olds bs cs : List J) (n : ℕ) → AllWent (WentOn made left 1) olds bs n → Ended made left rest bs cs → Ended made left (1 + rest) olds cs
  ended_after rest olds bs cs n h (inl (m, k)) = inl (n + m, later _ _ _ (on_more 1 rest) olds bs cs n m h k)
  ended_after rest olds bs cs n h (inr (inl (rounds, m, few, k))) = inr (inl (1 + rounds, n + m, omega (arith, few), later _ _ _ (idle_more 1 rounds) olds bs cs n m h k))
  ended_after rest olds bs cs n h (inr (inr (rounds, few, k))) = inr (inr (1 + rounds, omega (arith, few), cut_later rounds olds bs cs n h k))

  pub ended_later : (rest most : ℕ) → 1 + rest ≡ most → (olds bs cs : List J) (n : ℕ) → AllWent (WentOn made left 1) olds bs n → Ended made left rest bs cs → Ended made left most olds cs
  ended_later rest most is olds bs cs n h k = subst (λ i. Ended made left i olds cs) is (ended_after rest olds bs cs n h k)
