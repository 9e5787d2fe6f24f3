-- Each actor begins no more attempts than its operations and runs allow.
use Rattle.std.proofs.Common.{◌≡◌, ◌≤◌, ◌<◌, ◌+◌, ◌∙◌, ℕ, zero, suc, Bool, true, false, nat_lt, List, [], ◌∷◌, length, Some, None, slice_get, cond, refl, sym, ap, subst, arith}
use Rattle.std.proofs.lemmas.Bool.{true≢false}
use Rattle.std.proofs.lemmas.Bool.Decides.{nat_tests}
use Rattle.sleep_model.specs.declared.entry.Actor.{Actor}
use Rattle.sleep_model.specs.declared.entry.Actor.TheVariants as actor
use Rattle.sleep_model.specs.declared.entry.Entry.{Entry}
use Rattle.sleep_model.specs.declared.entry.Kind.{Kind}
use Rattle.sleep_model.specs.declared.entry.Kind.TheVariants as kind
use Rattle.sleep_model.specs.declared.machine.Machine.{Machine}
use Rattle.sleep_model.specs.declared.machine.Op.{Op}
use Rattle.sleep_model.specs.declared.machine.Script.{Script}
use Rattle.sleep_model.specs.Calls.{ends_step}
use Rattle.sleep_model.specs.Legal.{JournalPart}
use Rattle.sleep_model.specs.Path.{maker, is_actor, is_same}
use Rattle.sleep_model.specs.Places.{one_if, is_state}
use Rattle.sleep_model.specs.Positions.{position_effect}
use Rattle.room_laws.proofs.Summing.{total, one_where}
use Rattle.room_laws.proofs.Trying.{is_attempt, is_over, maker_is, done_of, done_other, done_own, done_out, steps_if, steps_in, passes, TriesAt, Trial, ByMaking, ByTrying, ByWorking, ByOther, trial, same_actor, maker_other}
use Rattle.room_laws.proofs.Weighing.{when}

-- how many attempts an actor has begun
abbrev pub tried : Actor → List Entry → ℕ
tried who [] = 0
tried who (e ∷ past) = when (is_same e.actor who) (one_if (is_attempt e.kind)) + tried who past

-- ---- a script

-- how many of the first k operations write to the state
abbrev firsts : ℕ → List Op → ℕ
firsts zero xs = 0
firsts (suc k) [] = 0
firsts (suc k) (x ∷ xs) = one_where is_state x + firsts k xs

firsts_within : (k : ℕ) (xs : List Op) → firsts k xs ≤ total (one_where is_state) xs
firsts_within zero xs = omega arith
firsts_within (suc k) [] = omega arith
firsts_within (suc k) (x ∷ xs) = omega (arith, firsts_within k xs)

firsts_suc : (k : ℕ) (xs : List Op) → firsts k xs ≤ firsts (suc k) xs
firsts_suc zero xs = omega arith
firsts_suc (suc k) [] = omega arith
firsts_suc (suc k) (x ∷ xs) = omega (arith, firsts_suc k xs)

firsts_more : (k : ℕ) (xs : List Op) → firsts k xs ≤ firsts (k + 1) xs
firsts_more k xs = let further : k + 1 ≡ suc k = omega arith in omega (arith, firsts_suc k xs, ap (λ n. firsts n xs) further)

firsts_next : (k : ℕ) (xs : List Op) → passes is_state (slice_get xs k) ≡ true → firsts (suc k) xs ≡ firsts k xs + 1
firsts_next k [] e = absurd (true≢false (sym e))
firsts_next zero (x ∷ xs) e = ap (λ b. cond b 1 0 + 0) e
firsts_next (suc k) (x ∷ xs) e = omega (arith, firsts_next k xs e)

firsts_state : (k : ℕ) (xs : List Op) → passes is_state (slice_get xs k) ≡ true → firsts (k + 1) xs ≡ firsts k xs + 1
firsts_state k xs e = let further : k + 1 ≡ suc k = omega arith in ap (λ n. firsts n xs) further ∙ firsts_next k xs e

-- a script has done so many of its steps, and begun so many attempts; it makes the open one or not, at a write to the state
pub record ScriptTries (steps : List Op) (done tried : ℕ) (making : Bool) : Type 0 where
  pub within : tried ≤ firsts done steps + one_if making
  pub at_state : making ≡ true → passes is_state (slice_get steps done) ≡ true

abbrev pub Tries : Machine → ℕ → List Entry → Type 0
Tries m i past = ScriptTries (steps_in m i) (done_of m past i) (tried (actor.Script i) past) (is_actor (actor.Script i) (maker past))

-- the script is one of the machine's, if it has a step
in_range : (m : Machine) (i : ℕ) (k : ℕ) → passes is_state (slice_get (steps_in m i) k) ≡ true → i < length m.actors
in_range m i k e = get_range m.actors i k e
  where
    get_range : (xs : List Script) (i k : ℕ) → passes is_state (slice_get (steps_if (slice_get xs i)) k) ≡ true → i < length xs
    get_range [] i k e = absurd (true≢false (sym e))
    get_range (x ∷ xs) zero k e = omega arith
    get_range (x ∷ xs) (suc i) k e = let rest = get_range xs i k e in omega arith

no_end : (k : Kind) → is_attempt k ≡ true → ends_step (position_effect k) ≡ false
no_end (kind.Attempt n guarded) e = refl
no_end _ e = absurd (true≢false (sym e))

-- an entry that ends no step leaves its position as it is
done_same : (m : Machine) (past : List Entry) (e : Entry) (i : ℕ) → is_same e.actor (actor.Script i) ≡ true → ends_step (position_effect e.kind) ≡ false → done_of m (e ∷ past) i ≡ done_of m past i
done_same m past e i s n = by_range (nat_lt i (length m.actors)) refl
  where
    by_range : (b : Bool) → nat_lt i (length m.actors) ≡ b → done_of m (e ∷ past) i ≡ done_of m past i
    by_range true r = let within : i < length m.actors = grind (arith, nat_tests) in done_own m past e i s within ∙ ap (λ b. cond b (done_of m past i + 1) (done_of m past i)) n
    by_range false r = let out : length m.actors ≤ i = grind (arith, nat_tests) in done_out m past e i s out

-- and no entry makes it do less
done_less : (m : Machine) (past : List Entry) (e : Entry) (i : ℕ) → is_same e.actor (actor.Script i) ≡ true → firsts (done_of m past i) (steps_in m i) ≤ firsts (done_of m (e ∷ past) i) (steps_in m i)
done_less m past e i s = by_range (nat_lt i (length m.actors)) refl
  where
    by_end : (b : Bool) → firsts (done_of m past i) (steps_in m i) ≤ firsts (cond b (done_of m past i + 1) (done_of m past i)) (steps_in m i)
    by_end true = firsts_more (done_of m past i) (steps_in m i)
    by_end false = omega arith

    by_range : (b : Bool) → nat_lt i (length m.actors) ≡ b → firsts (done_of m past i) (steps_in m i) ≤ firsts (done_of m (e ∷ past) i) (steps_in m i)
    by_range true r =
        let within : i < length m.actors = grind (arith, nat_tests) in
        let is = done_own m past e i s within in
        omega (arith, ap (λ n. firsts n (steps_in m i)) is, by_end (ends_step (position_effect e.kind)))
    by_range false r = let out : length m.actors ≤ i = grind (arith, nat_tests) in omega (arith, ap (λ n. firsts n (steps_in m i)) (done_out m past e i s out))

pub tried_same : (who : Actor) (past : List Entry) (e : Entry) → is_attempt e.kind ≡ false → tried who (e ∷ past) ≡ tried who past
tried_same who past e t = ap (λ b. when (is_same e.actor who) (one_if b) + tried who past) t ∙ by_same (is_same e.actor who)
  where
    by_same : (b : Bool) → when b 0 + tried who past ≡ tried who past
    by_same true = omega arith
    by_same false = omega arith

pub tried_other : (who : Actor) (past : List Entry) (e : Entry) → is_same e.actor who ≡ false → tried who (e ∷ past) ≡ tried who past
tried_other who past e n = ap (λ b. when b (one_if (is_attempt e.kind)) + tried who past) n ∙ omega arith

pub tried_more : (who : Actor) (past : List Entry) (e : Entry) → is_same e.actor who ≡ true → is_attempt e.kind ≡ true → tried who (e ∷ past) ≡ 1 + tried who past
tried_more who past e s t = ap (λ b. when b (one_if (is_attempt e.kind)) + tried who past) s ∙ ap (λ b. one_if b + tried who past) t

-- who makes the open attempt after an entry, by what that is
pub making_preserved : (e : Entry) (past : List Entry) (a : Actor) → is_attempt e.kind ≡ false → is_over e.kind ≡ false → is_actor a (maker (e ∷ past)) ≡ is_actor a (maker past)
making_preserved e past a t o = ap (is_actor a) (maker_is e.kind e.actor (maker past)) ∙ (ap (λ b. is_actor a (cond b (Some e.actor) (cond (is_over e.kind) None (maker past)))) t ∙ ap (λ b. is_actor a (cond b None (maker past))) o)

pub making_over : (e : Entry) (past : List Entry) (a : Actor) → is_attempt e.kind ≡ false → is_over e.kind ≡ true → is_actor a (maker (e ∷ past)) ≡ false
making_over e past a t o = ap (is_actor a) (maker_is e.kind e.actor (maker past)) ∙ (ap (λ b. is_actor a (cond b (Some e.actor) (cond (is_over e.kind) None (maker past)))) t ∙ ap (λ b. is_actor a (cond b None (maker past))) o)

pub making_new : (e : Entry) (past : List Entry) (a : Actor) → is_attempt e.kind ≡ true → is_actor a (maker (e ∷ past)) ≡ is_same e.actor a
making_new e past a t = ap (is_actor a) (maker_is e.kind e.actor (maker past)) ∙ ap (λ b. is_actor a (cond b (Some e.actor) (cond (is_over e.kind) None (maker past)))) t

own_tries : (m : Machine) (i : ℕ) (past : List Entry) (e : Entry) → Trial m past e.actor e.kind → is_same e.actor (actor.Script i) ≡ true → Tries m i past → Tries m i (e ∷ past)
own_tries m i past e (ByMaking t ends w a) s h = by_over (is_over e.kind) refl
  where
    mine : is_actor (actor.Script i) (maker past) ≡ true
    mine = subst (λ (x : Actor). is_actor x (maker past) ≡ true) (same_actor e.actor (actor.Script i) s) a

    by_over : (b : Bool) → is_over e.kind ≡ b → Tries m i (e ∷ past)
    by_over true o =
        let at : passes is_state (slice_get (steps_in m i) (done_of m past i)) ≡ true = h.at_state mine in
        let further : done_of m (e ∷ past) i ≡ done_of m past i + 1 = done_own m past e i s (in_range m i (done_of m past i) at) ∙ ap (λ b. cond b (done_of m past i + 1) (done_of m past i)) (ends ∙ o) in
        let free = making_over e past (actor.Script i) t o in
        record {
          within = omega (arith, h.within, tried_same (actor.Script i) past e t, ap (λ n. firsts n (steps_in m i)) further, firsts_state (done_of m past i) (steps_in m i) at, ap one_if mine);
          at_state = λ x. absurd (true≢false (sym x ∙ free));
        }
    by_over false o =
        let same = done_same m past e i s (ends ∙ o) in
        let kept = making_preserved e past (actor.Script i) t o in
        record {
          within = omega (arith, h.within, tried_same (actor.Script i) past e t, ap (λ n. firsts n (steps_in m i)) same, ap one_if kept);
          at_state = λ x. ap (λ n. passes is_state (slice_get (steps_in m i) n)) same ∙ h.at_state (sym kept ∙ x);
        }
own_tries m i past e (ByTrying t f at) s h =
    let same = done_same m past e i s (no_end e.kind t) in
    let state : passes is_state (slice_get (steps_in m i) (done_of m past i)) ≡ true = subst (TriesAt m past) (same_actor e.actor (actor.Script i) s) at in
    record {
      within = omega (arith, h.within, tried_more (actor.Script i) past e s t, ap (λ n. firsts n (steps_in m i)) same, ap (λ o. one_if (is_actor (actor.Script i) o)) f, ap one_if (making_new e past (actor.Script i) t ∙ s));
      at_state = λ x. ap (λ n. passes is_state (slice_get (steps_in m i) n)) same ∙ state;
    }
own_tries m i past e (ByWorking t o w a l) s h = absurd (true≢false (sym s ∙ ap (λ x. is_same x (actor.Script i)) w))
own_tries m i past e (ByOther t o w a) s h = by_end (ends_step (position_effect e.kind)) refl
  where
    by_end : (b : Bool) → ends_step (position_effect e.kind) ≡ b → Tries m i (e ∷ past)
    by_end true ends =
        let free : is_actor (actor.Script i) (maker past) ≡ false = subst (λ (x : Actor). is_actor x (maker past) ≡ false) (same_actor e.actor (actor.Script i) s) (a ends) in
        let kept = making_preserved e past (actor.Script i) t o in
        record {
          within = omega (arith, h.within, tried_same (actor.Script i) past e t, done_less m past e i s, ap one_if kept);
          at_state = λ x. absurd (true≢false (sym x ∙ (kept ∙ free)));
        }
    by_end false ends =
        let same = done_same m past e i s ends in
        let kept = making_preserved e past (actor.Script i) t o in
        record {
          within = omega (arith, h.within, tried_same (actor.Script i) past e t, ap (λ n. firsts n (steps_in m i)) same, ap one_if kept);
          at_state = λ x. ap (λ n. passes is_state (slice_get (steps_in m i) n)) same ∙ h.at_state (sym kept ∙ x);
        }

other_tries : (m : Machine) (i : ℕ) (past : List Entry) (e : Entry) → Trial m past e.actor e.kind → is_same e.actor (actor.Script i) ≡ false → Tries m i past → Tries m i (e ∷ past)
other_tries m i past e x n h =
    let same = done_other m past e i n in
    let kept = maker_other m past e (actor.Script i) x n in
    record {
      within = omega (arith, h.within, tried_other (actor.Script i) past e n, ap (λ n. firsts n (steps_in m i)) same, ap one_if kept);
      at_state = λ x. ap (λ n. passes is_state (slice_get (steps_in m i) n)) same ∙ h.at_state (sym kept ∙ x);
    }

pub script_tries : (m : Machine) (i : ℕ) (past : List Entry) → JournalPart m past → Tries m i past
script_tries m i [] h = record { within = omega arith; at_state = λ x. absurd (true≢false (sym x)) }
script_tries m i (e ∷ past) h = by_same (is_same e.actor (actor.Script i)) refl (script_tries m i past h.1)
  where
    by_same : (b : Bool) → is_same e.actor (actor.Script i) ≡ b → Tries m i past → Tries m i (e ∷ past)
    by_same true s t = own_tries m i past e (trial m past e h) s t
    by_same false s t = other_tries m i past e (trial m past e h) s t

-- a script begins an attempt at most at each of its writes to the state
pub script_within : (m : Machine) (i : ℕ) (past : List Entry) → JournalPart m past → tried (actor.Script i) past ≤ total (one_where is_state) (steps_in m i)
script_within m i past h = by_making (is_actor (actor.Script i) (maker past)) refl (script_tries m i past h)
  where
    by_making : (b : Bool) → is_actor (actor.Script i) (maker past) ≡ b → Tries m i past → tried (actor.Script i) past ≤ total (one_where is_state) (steps_in m i)
    by_making true a t = omega (arith, t.within, ap one_if a, firsts_state (done_of m past i) (steps_in m i) (t.at_state a), firsts_within (done_of m past i + 1) (steps_in m i))
    by_making false a t = omega (arith, t.within, ap one_if a, firsts_within (done_of m past i) (steps_in m i))
