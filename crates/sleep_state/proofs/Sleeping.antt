-- The scripts that sleep, and those that are awake.
use Rattle.std.proofs.Common.{◌≡◌, ◌≤◌, ◌<◌, ◌+◌, ◌∙◌, ℕ, zero, suc, Bool, true, false, not, ◌&&◌, ◌||◌, nat_eq, nat_lt, List, [], ◌∷◌, length, map, min, replicate, Option, Some, None, is_none, slice_get, slice_index_or, slice_set, refl, sym, ap, ap₂, subst, arith}
use Rattle.std.proofs.Math.ListN.{get_or-map}
use Rattle.std.proofs.lemmas.Bool.Decides.{nat_tests}
use Rattle.std.proofs.lemmas.List.{length-map}
use Rattle.std.specs.Bool.{OnTrue}
use Rattle.sleep_model.specs.declared.progress.ScriptPosition.{ScriptPosition}
use Rattle.sleep_model.specs.Legal.{sooner}
use Rattle.sleep_model.specs.Places.{one_if}
use Rattle.sleep_model.specs.Positions.{first_position, position_at, all_exited}
use Rattle.sleep_state.specs.Sleepers.{is_awake, is_there, count_of, earliest_end, is_later, sleeps_past, is_stopped, AreStopped}
use Rattle.sleep_state.specs.Trees.{never, last, moment_of, least_among, least_of}

-- ---- how many have such a position

one_at_most : (b : Bool) → one_if b ≤ 1
one_at_most true = omega arith
one_at_most false = omega arith

pub count_few : (so : ScriptPosition → Bool) (xs : List ScriptPosition) → count_of so xs ≤ length xs
count_few so [] = omega arith
count_few so (x ∷ xs) = omega (arith, one_at_most (so x), count_few so xs)

pub count_set : (so : ScriptPosition → Bool) (xs : List ScriptPosition) (i : ℕ) (was is : ScriptPosition) → slice_get xs i ≡ Some was → count_of so (slice_set xs i is) + one_if (so was) ≡ count_of so xs + one_if (so is)
count_set so [] i was is e = absurd (cc)
count_set so (y ∷ ys) zero was is e = omega (arith, ap (λ (s : ScriptPosition). one_if (so s)) (let same : y ≡ was = cc in same))
count_set so (y ∷ ys) (suc i) was is e = omega (arith, count_set so ys i was is e)

pub count_least : (so : ScriptPosition → Bool) (xs : List ScriptPosition) (i : ℕ) (x : ScriptPosition) → slice_get xs i ≡ Some x → one_if (so x) ≤ count_of so xs
count_least so [] i x e = absurd (cc)
count_least so (y ∷ ys) zero x e = omega (arith, ap (λ (s : ScriptPosition). one_if (so s)) (let same : y ≡ x = cc in same))
count_least so (y ∷ ys) (suc i) x e = omega (arith, count_least so ys i x e)

pub awake_first : (n : ℕ) → count_of is_awake (replicate n first_position) ≡ n
awake_first zero = refl
awake_first (suc n) = omega (arith, awake_first n)

pub there_first : (n : ℕ) → count_of is_there (replicate n first_position) ≡ n
there_first zero = refl
there_first (suc n) = omega (arith, there_first n)

by_exit : (exited : Bool) (ys : List ScriptPosition) → nat_eq (count_of is_there ys) 0 ≡ all_exited ys → nat_eq (one_if (not exited) + count_of is_there ys) 0 ≡ (exited && all_exited ys)
by_exit true ys h = ap (λ k. nat_eq k 0) (let same : 0 + count_of is_there ys ≡ count_of is_there ys = omega arith in same) ∙ h
by_exit false ys h = let no : nat_eq (1 + count_of is_there ys) 0 ≡ false = grind (arith, nat_tests) in no

left_shown : (ys : List ScriptPosition) → nat_eq (count_of is_there ys) 0 ≡ all_exited ys
left_shown [] = refl
left_shown (y ∷ ys) = by_exit y.exited ys (left_shown ys)

-- all have exited if none is left
pub none_left : (xs : List ScriptPosition) (n : ℕ) → n ≡ count_of is_there xs → nat_eq n 0 ≡ all_exited xs
none_left xs n is = ap (λ k. nat_eq k 0) is ∙ left_shown xs

-- what was read if there is a script
pub position_found : (xs : List ScriptPosition) (i : ℕ) (x : ScriptPosition) → i < length xs → x ≡ slice_index_or xs i x → slice_get xs i ≡ Some x
position_found [] i x l e = absurd (omega (arith, l))
position_found (y ∷ ys) zero x l e = ap Some (sym e)
position_found (y ∷ ys) (suc i) x l e = position_found ys i x (omega (arith, l)) e

get_position : (xs : List ScriptPosition) (i : ℕ) → i < length xs → slice_get xs i ≡ Some (position_at xs i)
get_position [] i l = absurd (omega (arith, l))
get_position (y ∷ ys) zero l = refl
get_position (y ∷ ys) (suc i) l = get_position ys i (omega (arith, l))

-- no script has that number
pub position_none : (xs : List ScriptPosition) (i : ℕ) → slice_get xs i ≡ None → position_at xs i ≡ first_position
position_none [] i e = refl
position_none (y ∷ ys) zero e = absurd (cc)
position_none (y ∷ ys) (suc i) e = position_none ys i e

-- if no script has that number
pub set_outside : (xs : List ScriptPosition) (i : ℕ) (x : ScriptPosition) → length xs ≤ i → slice_set xs i x ≡ xs
set_outside [] i x l = refl
set_outside (y ∷ ys) zero x l = absurd (omega (arith, l))
set_outside (y ∷ ys) (suc i) x l = ap (λ zs. y ∷ zs) (set_outside ys i x (omega (arith, l)))

pub ends_first : (n : ℕ) → map (λ (x : ScriptPosition). moment_of x.until) (replicate n first_position) ≡ replicate n never
ends_first zero = refl
ends_first (suc n) = ap (λ xs. never ∷ xs) (ends_first n)

-- ---- the least end

sooner_moment : (a b : Option ℕ) → min (moment_of a) (moment_of b) ≡ moment_of (sooner a b)
sooner_moment None None = refl
sooner_moment None (Some b) = omega arith
sooner_moment (Some a) None = omega arith
sooner_moment (Some a) (Some b) = omega arith

ends_among : (positions : List ScriptPosition) (n : ℕ) → least_among (map (λ (x : ScriptPosition). moment_of x.until) positions) n ≡ moment_of (earliest_end positions n)
ends_among positions zero = refl
ends_among positions (suc n) =
    ap₂ min (get_or-map (λ (x : ScriptPosition). moment_of x.until) positions n first_position) (ends_among positions n)
    ∙ sooner_moment (position_at positions n).until (earliest_end positions n)

pub least_end_is : (positions : List ScriptPosition) → least_of (map (λ (x : ScriptPosition). moment_of x.until) positions) ≡ moment_of (earliest_end positions (length positions))
least_end_is positions = ap (least_among (map (λ (x : ScriptPosition). moment_of x.until) positions)) (length-map positions (λ (x : ScriptPosition). moment_of x.until)) ∙ ends_among positions (length positions)

-- a moment that is no sleep's
pub ends_never : (o : Option ℕ) → moment_of o ≡ never → o ≡ None
ends_never None e = refl
ends_never (Some u) e = absurd (omega (arith, e))

-- one that is a sleep's own
pub ends_then : (o : Option ℕ) (at : ℕ) → moment_of o ≡ at → at < last → o ≡ Some at
ends_then None at e l = absurd (omega (arith, e, l))
ends_then (Some u) at e l = ap Some (omega (arith, e, l))

pub later_moment : (o : Option ℕ) (time : ℕ) → nat_lt time (moment_of o) ≡ true → is_later o time ≡ true
later_moment None time h = refl
later_moment (Some u) time h = grind (arith, nat_tests)

later_than : (a b : Option ℕ) (time : ℕ) → is_later (sooner a b) time ≡ true → (is_later a time ≡ true) × (is_later b time ≡ true)
later_than None b time h = (refl, h)
later_than (Some a) None time h = (h, refl)
later_than (Some a) (Some b) time h = (grind (arith, nat_tests), grind (arith, nat_tests))

pub all_later : (positions : List ScriptPosition) (n time : ℕ) → is_later (earliest_end positions n) time ≡ true → (i : ℕ) → i < n → is_later (position_at positions i).until time ≡ true
all_later positions zero time h i l = absurd (omega (arith, l))
all_later positions (suc n) time h i l = by_last (nat_lt i n) refl (λ k. all_later positions n time (later_than (position_at positions n).until (earliest_end positions n) time h).1 i k)
  where
    by_last : (b : Bool) → nat_lt i n ≡ b → (i < n → is_later (position_at positions i).until time ≡ true) → is_later (position_at positions i).until time ≡ true
    by_last true e before = before (grind (arith, nat_tests))
    by_last false e before =
        subst (λ (k : ℕ). is_later (position_at positions k).until time ≡ true) (let same : n ≡ i = grind (arith, nat_tests) in same) (later_than (position_at positions n).until (earliest_end positions n) time h).0

still_of : (position : ScriptPosition) (time : ℕ) → one_if (is_awake position) ≡ 0 → is_later position.until time ≡ true → is_stopped position time ≡ true
still_of position time none later = by_parts position.exited position.until none later
  where
    by_parts : (exited : Bool) (until : Option ℕ) → one_if (not exited && is_none until) ≡ 0 → is_later until time ≡ true → (exited || sleeps_past until time) ≡ true
    by_parts true until a l = refl
    by_parts false (Some u) a l = l
    by_parts false None a l = absurd (omega (arith, a))

pub still_all : (positions : List ScriptPosition) (time : ℕ) → count_of is_awake positions ≡ 0 → is_later (earliest_end positions (length positions)) time ≡ true → AreStopped positions time
still_all positions time none later i l = still_of (position_at positions i) time (omega (arith, count_least is_awake positions i (position_at positions i) (get_position positions i l), none)) (all_later positions (length positions) time later i l)

-- what the two tests say
pub stopped_shown : (positions : List ScriptPosition) (time : ℕ) (b : Bool) → (b ≡ true → count_of is_awake positions ≡ 0) → (b ≡ true → is_later (earliest_end positions (length positions)) time ≡ true) → OnTrue b (AreStopped positions time)
stopped_shown positions time true none later = still_all positions time (none refl) (later refl)
stopped_shown positions time false none later = tt
