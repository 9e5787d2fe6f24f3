-- If each entry has its tick and its time to each jump, the merged entries are timed.
use Rattle.std.proofs.Common.{◌≡◌, ◌∙◌, ◌≤◌, ◌<◌, ◌+◌, ◌==◌, ◌&&◌, ◌||◌, ◌⊎◌, inl, inr, ℕ, nat_le, nat_lt, max, not, Bool, true, false, List, [], ◌∷◌, filter, cond, if◌then◌else◌, refl, sym, ap, subst, arith}
use Rattle.std.proofs.lemmas.Bool.Decides.{nat_tests}
use Rattle.std.specs.Prelude.{is_some}
use Rattle.std.specs.List.{list_all, list_any}
use Rattle.sleep_model.specs.declared.entry.JournalEntry.{JournalEntry}
use Rattle.sleep_model.specs.declared.entry.Kind.{Kind}
use Rattle.sleep_model.specs.declared.entry.Kind.TheVariants as kind
use Rattle.sleep_model.specs.Merge.{before_or, is_actor_before, is_jump, is_timed, next_position, precedes, step_number}
use Rattle.sleep_model.specs.Numbers.{word_step}
use Rattle.sleep_model.specs.EntryClasses.{class_of}
use Rattle.log_merge.proofs.Sorts.{Low, Up}
use Rattle.log_merge.proofs.Reading.{both, both_left, both_right}
use Rattle.run_laws.specs.Fitting.{are_raised, has_time, is_earlier, is_after_jump, jumps, is_ordered}
use Rattle.run_laws.proofs.Lists.{all_head, all_tail}
use Rattle.run_laws.proofs.Joint.{less}
use Rattle.run_laws.proofs.Placing.{number_is}
use Rattle.run_laws.proofs.Sourced.{all_weaker}

-- ---- what holds of each entry

abbrev pub Each : (JournalEntry → Type 0) → List JournalEntry → Type 0
Each P [] = Unit {0}
Each P (e ∷ rest) = P e × Each P rest

each_both : (P Q R : JournalEntry → Type 0) (xs : List JournalEntry) → ((x : JournalEntry) → P x → Q x → R x) → Each P xs → Each Q xs → Each R xs
each_both P Q R [] f p q = tt
each_both P Q R (x ∷ xs) f p q = (f x p.0 q.0, each_both P Q R xs f p.1 q.1)

each_weaker : (P Q : JournalEntry → Type 0) (xs : List JournalEntry) → ((x : JournalEntry) → P x → Q x) → Each P xs → Each Q xs
each_weaker P Q [] f p = tt
each_weaker P Q (x ∷ xs) f p = (f x p.0, each_weaker P Q xs f p.1)

each_tested : (q : JournalEntry → Bool) (P : JournalEntry → Type 0) (xs : List JournalEntry) → ((x : JournalEntry) → q x ≡ true → P x) → list_all q xs ≡ true → Each P xs
each_tested q P [] f h = tt
each_tested q P (x ∷ xs) f h = (f x (all_head q x xs h), each_tested q P xs f (all_tail q x xs h))

each_filtered : (q : JournalEntry → Bool) (P : JournalEntry → Type 0) (xs : List JournalEntry) → Each P (filter q xs) → Each (λ x. q x ≡ true → P x) xs
each_filtered q P [] h = tt
each_filtered q P (x ∷ xs) h = by (q x) refl (each_filtered q P xs) h
  where
    by : (b : Bool) → q x ≡ b → (Each P (filter q xs) → Each (λ x. q x ≡ true → P x) xs) → Each P (cond b (x ∷ filter q xs) (filter q xs)) → Each (λ x. q x ≡ true → P x) (x ∷ xs)
    by true is rest g = (λ e. g.0, rest g.1)
    by false is rest g = (λ e. absurd (let bad : true ≡ false = sym e ∙ is in cc), rest g)

-- ---- the sides of a jump

-- two entries, the first earlier, are in the right order if one of them is a jump
abbrev pub Beside : JournalEntry → JournalEntry → Type 0
Beside x y =
    (jumps x ≡ false → jumps y ≡ true → (x.stamp.tick < y.stamp.tick) × (x.entry.time < y.entry.time))
    × (jumps x ≡ true → jumps y ≡ false → (x.stamp.tick < y.stamp.tick) × (x.entry.time ≤ y.entry.time))

abbrev pub Outside : List JournalEntry → Type 0
Outside [] = Unit {0}
Outside (x ∷ xs) = Each (Beside x) xs × Outside xs

no_step : (k : Kind) → is_jump (class_of k) ≡ true → is_some (word_step k) ≡ false
no_step kind.Jump h = refl
no_step k h = absurd (cc)

later_ahead : (p p' s t t' : ℕ) (r : Bool) → nat_le p p' && nat_lt t t' ≡ true → before_or p p' (before_or 0 s (before_or t t' r)) ≡ true
later_ahead p p' s t t' r h = grind (arith, nat_tests)

earlier_ahead : (p s p' t t' : ℕ) (r : Bool) → nat_le (p + s) p' && nat_lt t t' ≡ true → before_or p p' (before_or s 0 (before_or t t' r)) ≡ true
earlier_ahead p s p' t t' r h = grind (arith, nat_tests)

-- a jump that an entry is after is ahead of it
jump_ahead : (e jump : JournalEntry) → jumps jump ≡ true → is_after_jump e jump ≡ true → precedes jump e ≡ true
jump_ahead e jump is h =
    let none : step_number jump ≡ 0 = ap (λ (b : Bool). cond b 1 0) (no_step jump.entry.kind is) in
    (λ i. before_or jump.stamp.pos e.stamp.pos (before_or (none i) (step_number e) (before_or jump.stamp.tick e.stamp.tick (is_actor_before jump.entry.actor e.entry.actor))))
    ∙ later_ahead jump.stamp.pos e.stamp.pos (step_number e) jump.stamp.tick e.stamp.tick (is_actor_before jump.entry.actor e.entry.actor)
    (both_left (nat_le jump.stamp.pos e.stamp.pos && nat_lt jump.stamp.tick e.stamp.tick) (nat_le jump.entry.time e.entry.time) h)

-- and an entry that is before a jump is ahead of it
entry_ahead : (e jump : JournalEntry) → jumps jump ≡ true → is_earlier e jump ≡ true → precedes e jump ≡ true
entry_ahead e jump is h =
    let none : step_number jump ≡ 0 = ap (λ (b : Bool). cond b 1 0) (no_step jump.entry.kind is) in
    (λ i. before_or e.stamp.pos jump.stamp.pos (before_or (step_number e) (none i) (before_or e.stamp.tick jump.stamp.tick (is_actor_before e.entry.actor jump.entry.actor))))
    ∙ earlier_ahead e.stamp.pos (step_number e) jump.stamp.pos e.stamp.tick jump.stamp.tick (is_actor_before e.entry.actor jump.entry.actor)
    (both_left (nat_le (next_position e) jump.stamp.pos && nat_lt e.stamp.tick jump.stamp.tick) (nat_lt e.entry.time jump.entry.time) h)

two_sides : (e jump : JournalEntry) → jumps e ≡ false → jumps jump ≡ true → is_ordered e jump ≡ true → is_earlier e jump || is_after_jump e jump ≡ true
two_sides e jump plain leaps h = (λ i. (sym plain i) || not (sym leaps i) || is_earlier e jump || is_after_jump e jump) ∙ h

-- an entry earlier than a jump that does not precede it
ahead_of : (e jump : JournalEntry) → jumps e ≡ false → jumps jump ≡ true → is_ordered e jump ≡ true → precedes jump e ≡ false → is_earlier e jump ≡ true
ahead_of e jump plain leaps right low = by (is_earlier e jump) (is_after_jump e jump) refl (two_sides e jump plain leaps right)
  where
    by : (a b : Bool) → is_after_jump e jump ≡ b → a || b ≡ true → a ≡ true
    by true b is h = refl
    by false true is h = let ahead : precedes jump e ≡ true = jump_ahead e jump leaps is in absurd (cc)
    by false false is h = h

after_of : (e jump : JournalEntry) → jumps e ≡ false → jumps jump ≡ true → is_ordered e jump ≡ true → precedes e jump ≡ false → is_after_jump e jump ≡ true
after_of e jump plain leaps right low = by (is_earlier e jump) (is_after_jump e jump) refl (two_sides e jump plain leaps right)
  where
    by : (a b : Bool) → is_earlier e jump ≡ a → a || b ≡ true → b ≡ true
    by true b is h = let ahead : precedes e jump ≡ true = entry_ahead e jump leaps is in absurd (cc)
    by false b is h = h

earlier_facts : (p p' t t' u u' : ℕ) → nat_le p p' && nat_lt t t' && nat_lt u u' ≡ true → (t < t') × (u < u')
earlier_facts p p' t t' u u' h = (grind (arith, nat_tests), grind (arith, nat_tests))

later_facts : (p p' t t' u u' : ℕ) → nat_le p p' && nat_lt t t' && nat_le u u' ≡ true → (t < t') × (u ≤ u')
later_facts p p' t t' u u' h = (grind (arith, nat_tests), grind (arith, nat_tests))

beside : (x y : JournalEntry) → is_ordered x y ≡ true → is_ordered y x ≡ true → precedes y x ≡ false → Beside x y
beside x y one other low = (
  λ plain leaps. earlier_facts (next_position x) y.stamp.pos x.stamp.tick y.stamp.tick x.entry.time y.entry.time (ahead_of x y plain leaps one low),
  λ leaps plain. later_facts x.stamp.pos y.stamp.pos x.stamp.tick y.stamp.tick x.entry.time y.entry.time (after_of y x plain leaps other low),
)

all_beside : (x : JournalEntry) (xs ys : List JournalEntry) → list_all (is_ordered x) ys ≡ true → list_all (λ e. list_all (is_ordered e) (x ∷ xs)) ys ≡ true → Low precedes x ys → Each (Beside x) ys
all_beside x xs [] one others low = tt
all_beside x xs (y ∷ ys) one others low = (
  beside x y (all_head (is_ordered x) y ys one) (all_head (is_ordered y) x xs (all_head (λ e. list_all (is_ordered e) (x ∷ xs)) y ys others)) low.0,
  all_beside x xs ys (all_tail (is_ordered x) y ys one) (all_tail (λ e. list_all (is_ordered e) (x ∷ xs)) y ys others) low.1,
)

pub all_outside : (xs : List JournalEntry) → list_all (λ e. list_all (is_ordered e) xs) xs ≡ true → Up precedes xs → Outside xs
all_outside [] h up = tt
all_outside (x ∷ xs) h up =
    let others : list_all (λ e. list_all (is_ordered e) (x ∷ xs)) xs ≡ true = all_tail (λ e. list_all (is_ordered e) (x ∷ xs)) x xs h in (
      all_beside x xs xs (all_tail (is_ordered x) x xs (all_head (λ e. list_all (is_ordered e) (x ∷ xs)) x xs h)) others up.0,
      all_outside xs (all_weaker (λ (e : JournalEntry). list_all (is_ordered e) (x ∷ xs)) (λ e. list_all (is_ordered e) xs) xs (λ e g. all_tail (is_ordered e) x xs g) others) up.1,
    )

-- ---- along the entries

-- a jump among these has that time
abbrev pub AnyJump : ℕ → List JournalEntry → Type 0
AnyJump time [] = ⊥
AnyJump time (e ∷ rest) = ((jumps e ≡ true) × (e.entry.time ≡ time)) ⊎ AnyJump time rest

-- what is known at a point, after that time, the last jump's tick and the greatest so far
record At (rest : List JournalEntry) (time jumped last : ℕ) : Type 0 where
  past_jump : Each (λ x. jumps x ≡ false → (jumped < x.stamp.tick) × (time ≤ x.entry.time)) rest
  to_jump : Each (λ x. jumps x ≡ true → last < x.stamp.tick) rest
  raised : are_raised time jumped (filter jumps rest) ≡ true
  sides : Outside rest
  times : Each (λ x. jumps x ≡ false → (x.entry.time ≡ time) ⊎ AnyJump x.entry.time rest) rest

less_is : (a b : ℕ) → nat_lt a b ≡ true → a < b
less_is a b h = grind (arith, nat_tests)

same_is : (a b : ℕ) → a ≡ b → (a == b) ≡ true
same_is a b h = grind (arith, nat_tests)

raised_ticks : (js : List JournalEntry) (time tick low : ℕ) → low ≤ tick → are_raised time tick js ≡ true → Each (λ x. low < x.stamp.tick) js
raised_ticks [] time tick low l h = tt
raised_ticks (j ∷ js) time tick low l h =
    let first : nat_lt time j.entry.time && nat_lt tick j.stamp.tick ≡ true = both_left (nat_lt time j.entry.time && nat_lt tick j.stamp.tick) (are_raised j.entry.time j.stamp.tick js) h in
    let above : tick < j.stamp.tick = less_is tick j.stamp.tick (both_right (nat_lt time j.entry.time) (nat_lt tick j.stamp.tick) first) in
    (omega (arith, above), raised_ticks js j.entry.time j.stamp.tick low (omega (arith, above)) (both_right (nat_lt time j.entry.time && nat_lt tick j.stamp.tick) (are_raised j.entry.time j.stamp.tick js) h))

-- no jump after an entry has its time
none_same : (e : JournalEntry) (rest : List JournalEntry) → jumps e ≡ false → Each (Beside e) rest → AnyJump e.entry.time rest → ⊥
none_same e [] plain s a = a
none_same e (x ∷ rest) plain s (inl h) = let later : e.entry.time < x.entry.time = (s.0.0 plain h.0).1 in absurd (omega (arith, later, h.1))
none_same e (x ∷ rest) plain s (inr h) = none_same e rest plain s.1 h

entry_time : (e : JournalEntry) (rest : List JournalEntry) (time jumped last : ℕ) → At (e ∷ rest) time jumped last → jumps e ≡ false → e.entry.time ≡ time
entry_time e rest time jumped last a plain = by (a.times.0 plain)
  where
    by : (e.entry.time ≡ time) ⊎ AnyJump e.entry.time (e ∷ rest) → e.entry.time ≡ time
    by (inl h) = h
    by (inr (inl h)) = absurd (let leaps : jumps e ≡ true = h.0 in let bad : true ≡ false = sym leaps ∙ plain in cc)
    by (inr (inr h)) = absurd (none_same e rest plain a.sides.0 h)

higher : (a b c : ℕ) → a < c → b < c → max a b < c
higher a b c h g = omega arith

past_entry : (e : JournalEntry) (t : ℕ) (rest : List JournalEntry) → jumps e ≡ false → AnyJump t (e ∷ rest) → AnyJump t rest
past_entry e t rest plain (inl h) = absurd (let leaps : jumps e ≡ true = h.0 in let bad : true ≡ false = sym leaps ∙ plain in cc)
past_entry e t rest plain (inr h) = h

-- after an entry that is no jump
after_entry : (e : JournalEntry) (rest : List JournalEntry) (time jumped last : ℕ) → At (e ∷ rest) time jumped last → jumps e ≡ false → At rest time jumped (max last e.stamp.tick)
after_entry e rest time jumped last a plain = record {
  past_jump = a.past_jump.1;
  to_jump = each_both (λ x. jumps x ≡ true → last < x.stamp.tick) (Beside e) (λ x. jumps x ≡ true → max last e.stamp.tick < x.stamp.tick) rest
      (λ x h s leaps. higher last e.stamp.tick x.stamp.tick (h leaps) (s.0 plain leaps).0) a.to_jump.1 a.sides.0;
  raised = subst (λ (l : List JournalEntry). are_raised time jumped l ≡ true) (ap (λ (b : Bool). cond b (e ∷ filter jumps rest) (filter jumps rest)) plain) a.raised;
  sides = a.sides.1;
  times = each_weaker (λ x. jumps x ≡ false → (x.entry.time ≡ time) ⊎ AnyJump x.entry.time (e ∷ rest)) (λ x. jumps x ≡ false → (x.entry.time ≡ time) ⊎ AnyJump x.entry.time rest) rest
      (λ x h none. by x (h none)) a.times.1;
}
  where
    by : (x : JournalEntry) → (x.entry.time ≡ time) ⊎ AnyJump x.entry.time (e ∷ rest) → (x.entry.time ≡ time) ⊎ AnyJump x.entry.time rest
    by x (inl h) = inl h
    by x (inr h) = inr (past_entry e x.entry.time rest plain h)

raised_here : (e : JournalEntry) (rest : List JournalEntry) (time jumped last : ℕ) → At (e ∷ rest) time jumped last → jumps e ≡ true
    → nat_lt time e.entry.time && nat_lt jumped e.stamp.tick && are_raised e.entry.time e.stamp.tick (filter jumps rest) ≡ true
raised_here e rest time jumped last a leaps = subst (λ (l : List JournalEntry). are_raised time jumped l ≡ true) (ap (λ (b : Bool). cond b (e ∷ filter jumps rest) (filter jumps rest)) leaps) a.raised

jump_time : (e : JournalEntry) (rest : List JournalEntry) (time jumped last : ℕ) → At (e ∷ rest) time jumped last → jumps e ≡ true → nat_lt time e.entry.time ≡ true
jump_time e rest time jumped last a leaps =
    both_left (nat_lt time e.entry.time) (nat_lt jumped e.stamp.tick)
    (both_left (nat_lt time e.entry.time && nat_lt jumped e.stamp.tick) (are_raised e.entry.time e.stamp.tick (filter jumps rest)) (raised_here e rest time jumped last a leaps))

-- and after a jump
after_jump : (e : JournalEntry) (rest : List JournalEntry) (time jumped last : ℕ) → At (e ∷ rest) time jumped last → jumps e ≡ true → At rest e.entry.time e.stamp.tick (max last e.stamp.tick)
after_jump e rest time jumped last a leaps =
    let on : are_raised e.entry.time e.stamp.tick (filter jumps rest) ≡ true =
    both_right (nat_lt time e.entry.time && nat_lt jumped e.stamp.tick) (are_raised e.entry.time e.stamp.tick (filter jumps rest)) (raised_here e rest time jumped last a leaps) in
    let rise : time < e.entry.time = less_is time e.entry.time (jump_time e rest time jumped last a leaps) in
    record {
      past_jump = each_weaker (Beside e) (λ x. jumps x ≡ false → (e.stamp.tick < x.stamp.tick) × (e.entry.time ≤ x.entry.time)) rest (λ x s none. s.1 leaps none) a.sides.0;
      to_jump = each_both (λ x. jumps x ≡ true → last < x.stamp.tick) (λ x. jumps x ≡ true → e.stamp.tick < x.stamp.tick) (λ x. jumps x ≡ true → max last e.stamp.tick < x.stamp.tick) rest
          (λ x h g is. higher last e.stamp.tick x.stamp.tick (h is) (g is)) a.to_jump.1
          (each_filtered jumps (λ x. e.stamp.tick < x.stamp.tick) rest (raised_ticks (filter jumps rest) e.entry.time e.stamp.tick e.stamp.tick (omega arith) on));
      raised = on;
      sides = a.sides.1;
      times = each_both (λ x. jumps x ≡ false → (x.entry.time ≡ time) ⊎ AnyJump x.entry.time (e ∷ rest)) (Beside e) (λ x. jumps x ≡ false → (x.entry.time ≡ e.entry.time) ⊎ AnyJump x.entry.time rest) rest
          (λ x h s none. by x rise (s.1 leaps none).1 (h none)) a.times.1 a.sides.0;
    }
  where
    by : (x : JournalEntry) → time < e.entry.time → e.entry.time ≤ x.entry.time → (x.entry.time ≡ time) ⊎ AnyJump x.entry.time (e ∷ rest) → (x.entry.time ≡ e.entry.time) ⊎ AnyJump x.entry.time rest
    by x rise later (inl h) = absurd (omega (arith, rise, later, h))
    by x rise later (inr (inl h)) = inl (sym h.1)
    by x rise later (inr (inr h)) = inr h

timed_at : (rest : List JournalEntry) (time jumped last : ℕ) → At rest time jumped last → is_timed time jumped last rest ≡ true
timed_at [] time jumped last a = refl
timed_at (e ∷ rest) time jumped last a =
    by (jumps e) refl
    (λ leaps. timed_at rest e.entry.time e.stamp.tick (max last e.stamp.tick) (after_jump e rest time jumped last a leaps))
    (λ plain. timed_at rest time jumped (max last e.stamp.tick) (after_entry e rest time jumped last a plain))
  where
    by : (b : Bool) → jumps e ≡ b
        → (jumps e ≡ true → is_timed e.entry.time e.stamp.tick (max last e.stamp.tick) rest ≡ true)
        → (jumps e ≡ false → is_timed time jumped (max last e.stamp.tick) rest ≡ true)
        → (if b then nat_lt time e.entry.time && nat_lt last e.stamp.tick else (e.entry.time == time) && nat_lt jumped e.stamp.tick)
        && is_timed e.entry.time (if b then e.stamp.tick else jumped) (max last e.stamp.tick) rest ≡ true
    by true is f g =
        both (nat_lt time e.entry.time && nat_lt last e.stamp.tick) (is_timed e.entry.time e.stamp.tick (max last e.stamp.tick) rest)
        (both (nat_lt time e.entry.time) (nat_lt last e.stamp.tick) (jump_time e rest time jumped last a is) (less last e.stamp.tick (a.to_jump.0 is))) (f is)
    by false is f g =
        let same : e.entry.time ≡ time = entry_time e rest time jumped last a is in
        both ((e.entry.time == time) && nat_lt jumped e.stamp.tick) (is_timed e.entry.time jumped (max last e.stamp.tick) rest)
        (both (e.entry.time == time) (nat_lt jumped e.stamp.tick) (same_is e.entry.time time same) (less jumped e.stamp.tick (a.past_jump.0 is).0))
        (subst (λ (t : ℕ). is_timed t jumped (max last e.stamp.tick) rest ≡ true) (sym same) (g is))

-- ---- from the tests

any_jump : (time : ℕ) (xs : List JournalEntry) → list_any (λ other. jumps other && (other.entry.time == time)) xs ≡ true → AnyJump time xs
any_jump time [] h = absurd (cc)
any_jump time (x ∷ xs) h = by (jumps x) refl (x.entry.time == time) refl (any_jump time xs) h
  where
    by : (a : Bool) → jumps x ≡ a → (b : Bool) → (x.entry.time == time) ≡ b
        → (list_any (λ other. jumps other && (other.entry.time == time)) xs ≡ true → AnyJump time xs) → (a && b) || list_any (λ other. jumps other && (other.entry.time == time)) xs ≡ true → AnyJump time (x ∷ xs)
    by true is true at rest g = inl (is, number_is x.entry.time time at)
    by true is false at rest g = inr (rest g)
    by false is b at rest g = inr (rest g)

time_at : (xs : List JournalEntry) (x : JournalEntry) → has_time xs x ≡ true → jumps x ≡ false → (x.entry.time ≡ 0) ⊎ AnyJump x.entry.time xs
time_at xs x h plain = by (x.entry.time == 0) refl ((λ i. (sym plain i) || (x.entry.time == 0) || list_any (λ other. jumps other && (other.entry.time == x.entry.time)) xs) ∙ h)
  where
    by : (b : Bool) → (x.entry.time == 0) ≡ b → b || list_any (λ other. jumps other && (other.entry.time == x.entry.time)) xs ≡ true → (x.entry.time ≡ 0) ⊎ AnyJump x.entry.time xs
    by true is g = inl (number_is x.entry.time 0 is)
    by false is g = inr (any_jump x.entry.time xs g)

-- entries in order are timed if each has its tick and its time to each jump
pub timed_all : (xs : List JournalEntry) → Up precedes xs → list_all (λ e. nat_lt 0 e.stamp.tick) xs ≡ true → are_raised 0 0 (filter jumps xs) ≡ true
    → list_all (λ e. list_all (is_ordered e) xs) xs ≡ true → list_all (has_time xs) xs ≡ true → is_timed 0 0 0 xs ≡ true
timed_all xs up ticks raised sides times = timed_at xs 0 0 0 (record {
  past_jump = each_tested (λ e. nat_lt 0 e.stamp.tick) (λ x. jumps x ≡ false → (0 < x.stamp.tick) × (0 ≤ x.entry.time)) xs (λ x h plain. (less_is 0 x.stamp.tick h, omega arith)) ticks;
  to_jump = each_tested (λ e. nat_lt 0 e.stamp.tick) (λ x. jumps x ≡ true → 0 < x.stamp.tick) xs (λ x h leaps. less_is 0 x.stamp.tick h) ticks;
  raised = raised;
  sides = all_outside xs sides up;
  times = each_tested (has_time xs) (λ x. jumps x ≡ false → (x.entry.time ≡ 0) ⊎ AnyJump x.entry.time xs) xs (λ x h plain. time_at xs x h plain) times;
})
