-- What is known of all that was made grows by one entry.
use Rattle.std.proofs.Common.{◌≡◌, ◌∙◌, ◌≤◌, ◌<◌, ◌+◌, ◌==◌, ◌&&◌, ◌||◌, ◌++◌, ℕ, nat_lt, nat_le, Bool, true, false, List, [], ◌∷◌, filter, reverse, cond, refl, sym, ap, subst, append-nil, arith}
use Rattle.std.proofs.lemmas.Bool.Decides.{nat_tests}
use Rattle.std.proofs.lemmas.List.{reverse-append}
use Rattle.std.proofs.lemmas.List.Elements.{filter-append}
use Rattle.std.specs.List.{list_all, list_any}
use Rattle.sleep_model.specs.declared.entry.Actor.{Actor}
use Rattle.sleep_model.specs.declared.entry.Entry.{Entry}
use Rattle.sleep_model.specs.declared.entry.JournalEntry.{JournalEntry}
use Rattle.sleep_model.specs.declared.entry.Kind.{Kind}
use Rattle.sleep_model.specs.declared.entry.Kind.TheVariants as kind
use Rattle.sleep_model.specs.declared.machine.Machine.{Machine}
use Rattle.sleep_model.specs.Legal.{JournalPart, JournalStep, JumpStep, is_there}
use Rattle.sleep_model.specs.Merge.{is_jump, next_position, step_number}
use Rattle.sleep_model.specs.Numbers.{time_after, time_of}
use Rattle.sleep_model.specs.EntryClasses.{EntryClass, OfJournal, Notes, Moves, OfTime, class_of, is_in_journal}
use Rattle.sleep_model.specs.Path.{is_same}
use Rattle.sleep_model.specs.Sources.{is_of}
use Rattle.log_merge.proofs.Reading.{both, both_left, both_right}
use Rattle.log_merge.specs.Remainders.{unstamped}
use Rattle.run_laws.specs.Apart.{AreJumps, JumpIsLegal, before, is_journals}
use Rattle.run_laws.specs.Fitting.{are_raised, has_time, is_earlier, is_after_jump, jumps}
use Rattle.run_laws.proofs.Lists.{all_head, all_map, all_more, all_reverse, all_tail, filter_all, filter_reverse}
use Rattle.run_laws.proofs.Placing.{number_is, other_keeps}
use Rattle.run_laws.specs.Acts.{Made, put_if, with_entry}
use Rattle.run_laws.specs.Invariant.{AllOf, EachJump, RunInvariant, InvariantGrows, IsGrowth, IsInTime, InvariantBegins, falls, follows, is_above, is_ordered_with, IsNewestOfOwn}
use Rattle.run_laws.proofs.Acts.{actor_is, acts_are_steps}
use Rattle.run_laws.proofs.ClosedOver.{all_by_two, all_weaker}

-- ---- tests of lists with one more entry

all_put : (q : JournalEntry → Bool) (b : Bool) (e : JournalEntry) (l : List JournalEntry) → (b ≡ true → q e ≡ true) → list_all q l ≡ true → list_all q (put_if b e l) ≡ true
all_put q true e l f h = all_more q e l (f refl) h
all_put q false e l f h = h

pub all_grown : (q : JournalEntry → Bool) (e : JournalEntry) (made : Made) → q e ≡ true → AllOf q made → AllOf q (with_entry e made)
all_grown q e made is h = (
  all_put q (is_journals e) e made.journal (λ b. is) h.0,
  λ s. all_put q (is_of s (class_of e.entry.kind)) e (made.of s) (λ b. is) (h.1 s),
)

pub all_so : (p q : JournalEntry → Bool) (made : Made) → ((e : JournalEntry) → p e ≡ true → q e ≡ true) → AllOf p made → AllOf q made
all_so p q made f h = (all_weaker p q made.journal f h.0, λ s. all_weaker p q (made.of s) f (h.1 s))

pub each_by : (P Q : JournalEntry → Type 0) (l : List JournalEntry) → ((e : JournalEntry) → P e → Q e) → EachJump P l → EachJump Q l
each_by P Q [] f h = tt
each_by P Q (e ∷ l) f h = (λ is. f e (h.0 is), each_by P Q l f h.1)

each_by_two : (P Q R : JournalEntry → Type 0) (l : List JournalEntry) → ((e : JournalEntry) → P e → Q e → R e) → EachJump P l → EachJump Q l → EachJump R l
each_by_two P Q R [] f h g = tt
each_by_two P Q R (e ∷ l) f h g = (λ is. f e (h.0 is) (g.0 is), each_by_two P Q R l f h.1 g.1)

each_any : (P : JournalEntry → Type 0) (l : List JournalEntry) → ((e : JournalEntry) → P e) → EachJump P l
each_any P [] f = tt
each_any P (e ∷ l) f = (λ is. f e, each_any P l f)

each_of_all : (q : JournalEntry → Bool) (l : List JournalEntry) → list_all q l ≡ true → EachJump (λ e. q e ≡ true) l
each_of_all q [] h = tt
each_of_all q (e ∷ l) h = (λ is. all_head q e l h, each_of_all q l (all_tail q e l h))

all_jumps : (q : JournalEntry → Bool) (l : List JournalEntry) → EachJump (λ e. q e ≡ true) l → list_all q (filter jumps l) ≡ true
all_jumps q [] h = refl
all_jumps q (e ∷ l) h = by (jumps e) refl (all_jumps q l h.1)
  where
    by : (b : Bool) → jumps e ≡ b → list_all q (filter jumps l) ≡ true → list_all q (cond b (e ∷ filter jumps l) (filter jumps l)) ≡ true
    by true is rest = all_more q e (filter jumps l) (h.0 is) rest
    by false is rest = rest

falls_put : (b : Bool) (e : JournalEntry) (l : List JournalEntry) → (b ≡ true → follows e l ≡ true) → falls l ≡ true → falls (put_if b e l) ≡ true
falls_put true e l f h = both (follows e l) (falls l) (f refl) h
falls_put false e l f h = h

-- ---- the time

jump_is_preserved : (p : EntryClass) → is_jump p ≡ true → is_in_journal p ≡ true
jump_is_preserved OfTime h = refl
jump_is_preserved OfJournal h = absurd (cc)
jump_is_preserved (Notes s c) h = absurd (cc)
jump_is_preserved (Moves s x) h = absurd (cc)

jump_of_none : (s : ℕ) (p : EntryClass) → is_jump p ≡ true → is_of s p ≡ false
jump_of_none s OfTime h = refl
jump_of_none s OfJournal h = refl
jump_of_none s (Notes t c) h = absurd (cc)
jump_of_none s (Moves t x) h = absurd (cc)

at_most_same : (a : ℕ) → nat_le a a ≡ true
at_most_same a = grind (arith, nat_tests)

at_most : (a b c : ℕ) → nat_le a b ≡ true → b ≤ c → nat_le a c ≡ true
at_most a b c h g = grind (arith, nat_tests)

less : (a b c : ℕ) → nat_le a b ≡ true → b < c → nat_lt a c ≡ true
less a b c h g = grind (arith, nat_tests)

-- the time after one more entry of the journal
record NextTime (past : List Entry) (e : Entry) : Type 0 where
  jumped : is_jump (class_of e.kind) ≡ true → (time_of (e ∷ past) ≡ e.time) × (time_of past < e.time)
  stayed : is_jump (class_of e.kind) ≡ false → time_of (e ∷ past) ≡ time_of past
  risen : time_of past ≤ time_of (e ∷ past)

jump_sets : (k : Kind) (time old : ℕ) → is_jump (class_of k) ≡ true → time_after k time old ≡ time
jump_sets kind.Jump time old h = refl
jump_sets k time old h = absurd (cc)

next_time : (m : Machine) (past : List Entry) (e : Entry) → JournalStep m past e (class_of e.kind) → NextTime past e
next_time m past e step = by (class_of e.kind) refl step
  where
    by : (p : EntryClass) → class_of e.kind ≡ p → JournalStep m past e p → NextTime past e
    by OfJournal is h =
        let plain : is_jump (class_of e.kind) ≡ false = ap is_jump is in
        record {
          jumped = λ jump. absurd (let bad : true ≡ false = sym jump ∙ plain in cc);
          stayed = λ same. other_keeps e.kind e.time (time_of past) plain;
          risen = let same : time_after e.kind e.time (time_of past) ≡ time_of past = other_keeps e.kind e.time (time_of past) plain in omega (arith, same);
        }
    by OfTime is h =
        let leap : is_jump (class_of e.kind) ≡ true = ap is_jump is in
        let later : time_of past < e.time = h.1 in
        record {
          jumped = λ jump. (jump_sets e.kind e.time (time_of past) leap, later);
          stayed = λ same. absurd (let bad : true ≡ false = sym leap ∙ same in cc);
          risen = let same : time_after e.kind e.time (time_of past) ≡ e.time = jump_sets e.kind e.time (time_of past) leap in omega (arith, same, later);
        }
    by (Notes s c) is h = absurd h
    by (Moves s x) is h = absurd h

-- no jump was later than the time
jumps_by_now : (m : Machine) (l : List JournalEntry) → JournalPart m (unstamped l) → EachJump (λ jump. nat_le jump.entry.time (time_of (unstamped l)) ≡ true) l
jumps_by_now m [] h = tt
jumps_by_now m (e ∷ l) h =
    let n = next_time m (unstamped l) e.entry h.0 in (
      λ is. subst (λ (t : ℕ). nat_le e.entry.time t ≡ true) (sym (n.jumped is).0) (at_most_same e.entry.time),
      each_by (λ jump. nat_le jump.entry.time (time_of (unstamped l)) ≡ true) (λ jump. nat_le jump.entry.time (time_of (unstamped (e ∷ l))) ≡ true) l
          (λ jump g. at_most jump.entry.time (time_of (unstamped l)) (time_of (unstamped (e ∷ l))) g n.risen) (jumps_by_now m l h.1),
    )

-- the time is that of a jump, or none has been
same_number : (a b : ℕ) → a ≡ b → (a == b) ≡ true
same_number a b h = grind (arith, nat_tests)

or_left : (a b c : Bool) → a ≡ true → a || b || c ≡ true
or_left a b c h = rw h refl

or_mid : (a b c : Bool) → b ≡ true → a || b || c ≡ true
or_mid true b c h = refl
or_mid false b c h = rw h refl

or_right : (a b c : Bool) → c ≡ true → a || b || c ≡ true
or_right true b c h = refl
or_right false true c h = refl
or_right false false c h = h

has_more : (b : Bool) (e : JournalEntry) (l : List JournalEntry) (x : JournalEntry) → has_time l x ≡ true → has_time (put_if b e l) x ≡ true
has_more false e l x h = h
has_more true e l x h = more (jumps x) (x.entry.time == 0) (list_any (λ other. jumps other && (other.entry.time == x.entry.time)) l) (jumps e && (e.entry.time == x.entry.time)) h
  where
    more : (a b c d : Bool) → a || b || c ≡ true → a || b || (d || c) ≡ true
    more true b c d h = refl
    more false true c d h = refl
    more false false c true h = refl
    more false false c false h = h

timely : (m : Machine) (l : List JournalEntry) (x : JournalEntry) → JournalPart m (unstamped l) → x.entry.time ≡ time_of (unstamped l) → has_time l x ≡ true
timely m [] x h is = or_mid (jumps x) (x.entry.time == 0) false (same_number x.entry.time 0 is)
timely m (e ∷ l) x h is = by (jumps e) refl (λ before. timely m l x h.1 before)
  where
    n : NextTime (unstamped l) e.entry
    n = next_time m (unstamped l) e.entry h.0

    by : (b : Bool) → jumps e ≡ b → (x.entry.time ≡ time_of (unstamped l) → has_time l x ≡ true) → has_time (e ∷ l) x ≡ true
    by true leap rest =
        or_right (jumps x) (x.entry.time == 0) (list_any (λ other. jumps other && (other.entry.time == x.entry.time)) (e ∷ l))
        (ap (λ (b : Bool). b || list_any (λ other. jumps other && (other.entry.time == x.entry.time)) l)
        (both (jumps e) (e.entry.time == x.entry.time) leap (same_number e.entry.time x.entry.time (sym (n.jumped leap).0 ∙ sym is))))
    by false plain rest = has_more true e l x (rest (is ∙ n.stayed plain))

-- ---- what is known of jumps is preserved

jumps_stay : (m : Machine) (of of' : ℕ → List Entry) (l : List JournalEntry) → EachJump (λ jump. (s : ℕ) → before jump.entry.time (of' s) ≡ before jump.entry.time (of s)) l
    → AreJumps m (unstamped l) of → AreJumps m (unstamped l) of'
jumps_stay m of of' [] f h = tt
jumps_stay m of of' (e ∷ l) f h = (by (class_of e.entry.kind) (λ is. f.0 is) h.0, jumps_stay m of of' l f.1 h.1)
  where
    by : (p : EntryClass) → (is_jump p ≡ true → (s : ℕ) → before e.entry.time (of' s) ≡ before e.entry.time (of s)) → JumpIsLegal m (unstamped l) of e.entry p → JumpIsLegal m (unstamped l) of' e.entry p
    by OfJournal g k = tt
    by (Notes s c) g k = tt
    by (Moves s x) g k = tt
    by OfTime g k =
        let same : (λ (s : ℕ). before e.entry.time (of' s)) ≡ (λ (s : ℕ). before e.entry.time (of s)) = λ i s. g refl s i in
        subst (λ (o : ℕ → List Entry). JumpStep m (unstamped l) o e.entry.now e.entry.time) (sym same) k

not_before : (t u : ℕ) → nat_le t u ≡ true → nat_lt u t ≡ false
not_before t u h = grind (arith, nat_tests)

later_stays : (b : Bool) (t : ℕ) (e : JournalEntry) (l : List JournalEntry) → nat_le t e.entry.time ≡ true → before t (unstamped (put_if b e l)) ≡ before t (unstamped l)
later_stays true t e l h = ap (λ (b : Bool). cond b (e.entry ∷ before t (unstamped l)) (before t (unstamped l))) (not_before t e.entry.time h)
later_stays false t e l h = refl

-- ---- jumps rise

raised_more : (time tick : ℕ) (l : List JournalEntry) (e : JournalEntry) → are_raised time tick l ≡ true → nat_lt time e.entry.time && nat_lt tick e.stamp.tick ≡ true
    → list_all (λ j. nat_lt j.entry.time e.entry.time && nat_lt j.stamp.tick e.stamp.tick) l ≡ true → are_raised time tick (l ++ e ∷ []) ≡ true
raised_more time tick [] e h g a = both (nat_lt time e.entry.time && nat_lt tick e.stamp.tick) true g refl
raised_more time tick (j ∷ l) e h g a =
    both (nat_lt time j.entry.time && nat_lt tick j.stamp.tick) (are_raised j.entry.time j.stamp.tick (l ++ e ∷ []))
    (both_left (nat_lt time j.entry.time && nat_lt tick j.stamp.tick) (are_raised j.entry.time j.stamp.tick l) h)
    (raised_more j.entry.time j.stamp.tick l e (both_right (nat_lt time j.entry.time && nat_lt tick j.stamp.tick) (are_raised j.entry.time j.stamp.tick l) h)
    (all_head (λ j. nat_lt j.entry.time e.entry.time && nat_lt j.stamp.tick e.stamp.tick) j l a)
    (all_tail (λ j. nat_lt j.entry.time e.entry.time && nat_lt j.stamp.tick e.stamp.tick) j l a))

-- ---- sides

no_less : (pos s pos' : ℕ) → nat_le (pos + s) pos' ≡ true → nat_le pos pos' ≡ true
no_less pos s pos' h = grind (arith, nat_tests)

-- after a jump by stamp and time
later_by : (e jump : JournalEntry) → is_above e jump ≡ true → nat_le jump.entry.time e.entry.time ≡ true → is_after_jump e jump ≡ true
later_by e jump h g =
    both (nat_le jump.stamp.pos e.stamp.pos && nat_lt jump.stamp.tick e.stamp.tick) (nat_le jump.entry.time e.entry.time)
    (both (nat_le jump.stamp.pos e.stamp.pos) (nat_lt jump.stamp.tick e.stamp.tick)
    (no_less jump.stamp.pos (step_number jump) e.stamp.pos (both_right (nat_lt jump.stamp.tick e.stamp.tick) (nat_le (next_position jump) e.stamp.pos) h))
    (both_left (nat_lt jump.stamp.tick e.stamp.tick) (nat_le (next_position jump) e.stamp.pos) h)) g

-- and before it
earlier_by : (e jump : JournalEntry) → is_above jump e ≡ true → nat_lt e.entry.time jump.entry.time ≡ true → is_earlier e jump ≡ true
earlier_by e jump h g =
    both (nat_le (next_position e) jump.stamp.pos && nat_lt e.stamp.tick jump.stamp.tick) (nat_lt e.entry.time jump.entry.time)
    (both (nat_le (next_position e) jump.stamp.pos) (nat_lt e.stamp.tick jump.stamp.tick)
    (both_right (nat_lt e.stamp.tick jump.stamp.tick) (nat_le (next_position e) jump.stamp.pos) h)
    (both_left (nat_lt e.stamp.tick jump.stamp.tick) (nat_le (next_position e) jump.stamp.pos) h)) g

-- ---- one more entry

module _ (m : Machine) (made : Made) (e : JournalEntry) (invariant : RunInvariant m made) (g : IsGrowth m made e) where
  abbrev after : Made
  after = with_entry e made

  abbrev part : EntryClass
  part = class_of e.entry.kind

  step_of : is_journals e ≡ true → NextTime (unstamped made.journal) e.entry
  step_of is = next_time m (unstamped made.journal) e.entry (g.of_journal is).0

  -- the time rises
  risen : time_of (unstamped made.journal) ≤ time_of (unstamped after.journal)
  risen = by (is_journals e) refl
    where
      by : (b : Bool) → is_journals e ≡ b → time_of (unstamped made.journal) ≤ time_of (unstamped (put_if b e made.journal))
      by true is = (step_of is).risen
      by false is = omega arith

  -- and is no less than the entry's
  now : nat_le e.entry.time (time_of (unstamped after.journal)) ≡ true
  now = by (jumps e) refl g.in_time
    where
      by : (b : Bool) → jumps e ≡ b → IsInTime made e b → nat_le e.entry.time (time_of (unstamped after.journal)) ≡ true
      by true is h =
          let kept : is_journals e ≡ true = jump_is_preserved part is in
          subst (λ (b : Bool). nat_le e.entry.time (time_of (unstamped (put_if b e made.journal))) ≡ true) (sym kept)
          (subst (λ (t : ℕ). nat_le e.entry.time t ≡ true) (sym ((step_of kept).jumped is).0) (at_most_same e.entry.time))
      by false is h =
          at_most e.entry.time (time_of (unstamped made.journal)) (time_of (unstamped after.journal))
          (subst (λ (t : ℕ). nat_le e.entry.time t ≡ true) h.1 (at_most_same e.entry.time)) risen

  -- an entry that is no jump is after each jump
  behind : (h : IsInTime made e false) → EachJump (λ jump. (is_above e jump ≡ true) × (nat_le jump.entry.time e.entry.time ≡ true)) made.journal
  behind h =
      each_by_two (λ jump. is_above e jump ≡ true) (λ jump. nat_le jump.entry.time (time_of (unstamped made.journal)) ≡ true)
      (λ jump. (is_above e jump ≡ true) × (nat_le jump.entry.time e.entry.time ≡ true)) made.journal
      (λ jump a t. (a, subst (λ (u : ℕ). nat_le jump.entry.time u ≡ true) (sym h.1) t)) h.0 (jumps_by_now m made.journal invariant.of_journal)

  -- and a jump after all
  ahead : jumps e ≡ true → IsInTime made e true → AllOf (λ x. is_earlier x e) made
  ahead is h = (
    all_by_two (is_above e) (λ x. nat_le x.entry.time (time_of (unstamped made.journal))) (λ x. is_earlier x e) made.journal one h.0 invariant.by_now.0,
    λ s. all_by_two (is_above e) (λ x. nat_le x.entry.time (time_of (unstamped made.journal))) (λ x. is_earlier x e) (made.of s) one (h.1 s) (invariant.by_now.1 s),
  )
    where
      later : time_of (unstamped made.journal) < e.entry.time
      later = ((step_of (jump_is_preserved part is)).jumped is).1

      one : (x : JournalEntry) → is_above e x ≡ true → nat_le x.entry.time (time_of (unstamped made.journal)) ≡ true → is_earlier x e ≡ true
      one x a t = earlier_by x e a (less x.entry.time (time_of (unstamped made.journal)) e.entry.time t later)

  -- it is after the newest of its list
  in_journal : is_journals e ≡ true → follows e made.journal ≡ true
  in_journal kept = by part g.in_place kept
    where
      by : (p : EntryClass) → IsNewestOfOwn made e p → is_in_journal p ≡ true → follows e made.journal ≡ true
      by OfJournal h k = h
      by (Notes s c) h k = absurd (let bad : false ≡ true = k in cc)
      by (Moves s x) h k = absurd (let bad : false ≡ true = k in cc)
      by OfTime h k = h

  in_source : (s : ℕ) → is_of s part ≡ true → follows e (made.of s) ≡ true
  in_source s is = by part g.in_place is
    where
      by : (p : EntryClass) → IsNewestOfOwn made e p → is_of s p ≡ true → follows e (made.of s) ≡ true
      by OfJournal h k = absurd (let bad : false ≡ true = k in cc)
      by (Notes t c) h k = subst (λ (u : ℕ). follows e (made.of u) ≡ true) (number_is t s k) h
      by (Moves t x) h k = subst (λ (u : ℕ). follows e (made.of u) ≡ true) (number_is t s k) h
      by OfTime h k = absurd (let bad : false ≡ true = k in cc)

  -- ---- each fact again

  of_journal : JournalPart m (unstamped after.journal)
  of_journal = by (is_journals e) refl
    where
      by : (b : Bool) → is_journals e ≡ b → JournalPart m (unstamped (put_if b e made.journal))
      by true is = g.of_journal is
      by false is = invariant.of_journal

  own_fall : (who : Actor) → falls (after.own who) ≡ true
  own_fall who =
      falls_put (is_same e.entry.actor who) e (made.own who)
      (λ is. subst (λ (w : Actor). follows e (made.own w) ≡ true) (actor_is e.entry.actor who is) g.own) (invariant.own_fall who)

  times : AllOf (has_time after.journal) after
  times =
      all_grown (has_time after.journal) e made (by (jumps e) refl g.in_time)
      (all_so (has_time made.journal) (has_time after.journal) made (λ x h. has_more (is_journals e) e made.journal x h) invariant.times)
    where
      by : (b : Bool) → jumps e ≡ b → IsInTime made e b → has_time after.journal e ≡ true
      by true is h = or_left (jumps e) (e.entry.time == 0) (list_any (λ other. jumps other && (other.entry.time == e.entry.time)) after.journal) is
      by false is h = has_more (is_journals e) e made.journal e (timely m made.journal e invariant.of_journal h.1)

  by_now : AllOf (λ x. nat_le x.entry.time (time_of (unstamped after.journal))) after
  by_now =
      all_grown (λ x. nat_le x.entry.time (time_of (unstamped after.journal))) e made now
      (all_so (λ x. nat_le x.entry.time (time_of (unstamped made.journal))) (λ x. nat_le x.entry.time (time_of (unstamped after.journal))) made
      (λ x h. at_most x.entry.time (time_of (unstamped made.journal)) (time_of (unstamped after.journal)) h risen) invariant.by_now)

  raised : are_raised 0 0 (filter jumps (reverse after.journal)) ≡ true
  raised = by (is_journals e) refl (jumps e) refl g.in_time
    where
      split : filter jumps (reverse (e ∷ made.journal)) ≡ filter jumps (reverse made.journal) ++ filter jumps (e ∷ [])
      split = ap (λ (l : List JournalEntry). filter jumps l) (reverse-append (e ∷ []) made.journal) ∙ filter-append jumps (reverse made.journal) (e ∷ [])

      by : (a : Bool) → is_journals e ≡ a → (b : Bool) → jumps e ≡ b → IsInTime made e b → are_raised 0 0 (filter jumps (reverse (put_if a e made.journal))) ≡ true
      by false kept b is h = invariant.raised
      by true kept false is h =
          ap (are_raised 0 0) (split ∙ ap (λ (b : Bool). filter jumps (reverse made.journal) ++ cond b (e ∷ []) []) is ∙ append-nil (filter jumps (reverse made.journal))) ∙ invariant.raised
      by true kept true is h =
          ap (are_raised 0 0) (split ∙ ap (λ (b : Bool). filter jumps (reverse made.journal) ++ cond b (e ∷ []) []) is)
          ∙ raised_more 0 0 (filter jumps (reverse made.journal)) e invariant.raised
          (both (nat_lt 0 e.entry.time) (nat_lt 0 e.stamp.tick) (some e.entry.time (time_of (unstamped made.journal)) ((step_of kept).jumped is).1) g.tick)
          (subst (λ (l : List JournalEntry). list_all (λ j. nat_lt j.entry.time e.entry.time && nat_lt j.stamp.tick e.stamp.tick) l ≡ true) (sym (filter_reverse jumps made.journal))
          (all_reverse (λ (j : JournalEntry). nat_lt j.entry.time e.entry.time && nat_lt j.stamp.tick e.stamp.tick) (filter jumps made.journal)
          (all_jumps (λ j. nat_lt j.entry.time e.entry.time && nat_lt j.stamp.tick e.stamp.tick) made.journal
          (each_of_all (λ j. nat_lt j.entry.time e.entry.time && nat_lt j.stamp.tick e.stamp.tick) made.journal
          (all_weaker (λ (j : JournalEntry). is_earlier j e) (λ j. nat_lt j.entry.time e.entry.time && nat_lt j.stamp.tick e.stamp.tick) made.journal swapped (ahead is h).0)))))
        where
          some : (a b : ℕ) → b < a → nat_lt 0 a ≡ true
          some a b l = grind (arith, nat_tests)

          swapped : (j : JournalEntry) → is_earlier j e ≡ true → nat_lt j.entry.time e.entry.time && nat_lt j.stamp.tick e.stamp.tick ≡ true
          swapped j a =
              both (nat_lt j.entry.time e.entry.time) (nat_lt j.stamp.tick e.stamp.tick)
              (both_right (nat_le (next_position j) e.stamp.pos && nat_lt j.stamp.tick e.stamp.tick) (nat_lt j.entry.time e.entry.time) a)
              (both_right (nat_le (next_position j) e.stamp.pos) (nat_lt j.stamp.tick e.stamp.tick)
              (both_left (nat_le (next_position j) e.stamp.pos && nat_lt j.stamp.tick e.stamp.tick) (nat_lt j.entry.time e.entry.time) a))

  ordered : EachJump (λ jump. is_ordered_with jump e ≡ true) made.journal
  ordered = by (jumps e) refl g.in_time
    where
      by : (b : Bool) → jumps e ≡ b → IsInTime made e b → EachJump (λ jump. is_ordered_with jump e ≡ true) made.journal
      by true is h = each_any (λ jump. is_ordered_with jump e ≡ true) made.journal (λ jump. or_left (jumps e) (is_earlier e jump) (is_after_jump e jump) is)
      by false is h =
          each_by (λ jump. (is_above e jump ≡ true) × (nat_le jump.entry.time e.entry.time ≡ true)) (λ jump. is_ordered_with jump e ≡ true) made.journal
          (λ jump a. or_right (jumps e) (is_earlier e jump) (is_after_jump e jump) (later_by e jump a.0 a.1)) (behind h)

  sides : EachJump (λ jump. AllOf (is_ordered_with jump) after) after.journal
  sides = by (is_journals e) refl
    where
      old : EachJump (λ jump. AllOf (is_ordered_with jump) after) made.journal
      old =
          each_by_two (λ jump. AllOf (is_ordered_with jump) made) (λ jump. is_ordered_with jump e ≡ true) (λ jump. AllOf (is_ordered_with jump) after) made.journal
          (λ jump all is. all_grown (is_ordered_with jump) e made is all) invariant.sides ordered

      new : (b : Bool) → jumps e ≡ b → IsInTime made e b → b ≡ true → AllOf (is_ordered_with e) after
      new true is h t =
          all_grown (is_ordered_with e) e made (or_left (jumps e) (is_earlier e e) (is_after_jump e e) is)
          (all_so (λ x. is_earlier x e) (is_ordered_with e) made (λ x a. or_mid (jumps x) (is_earlier x e) (is_after_jump x e) a) (ahead is h))
      new false is h t = absurd (let bad : false ≡ true = t in cc)

      by : (b : Bool) → is_journals e ≡ b → EachJump (λ jump. AllOf (is_ordered_with jump) after) (put_if b e made.journal)
      by true is = (λ leap. new (jumps e) refl g.in_time leap, old)
      by false is = old

  of_jumps : AreJumps m (unstamped after.journal) (λ s. unstamped (after.of s))
  of_jumps = by (is_journals e) refl
    where
      unchanged : jumps e ≡ true → (s : ℕ) → after.of s ≡ made.of s
      unchanged is s = ap (λ (b : Bool). put_if b e (made.of s)) (jump_of_none s part is)

      stays : (b : Bool) → jumps e ≡ b → IsInTime made e b
          → EachJump (λ jump. (s : ℕ) → before jump.entry.time (unstamped (after.of s)) ≡ before jump.entry.time (unstamped (made.of s))) made.journal
      stays true is h =
          each_any (λ jump. (s : ℕ) → before jump.entry.time (unstamped (after.of s)) ≡ before jump.entry.time (unstamped (made.of s))) made.journal
          (λ jump s. ap (λ (l : List JournalEntry). before jump.entry.time (unstamped l)) (unchanged is s))
      stays false is h =
          each_by (λ jump. (is_above e jump ≡ true) × (nat_le jump.entry.time e.entry.time ≡ true))
          (λ jump. (s : ℕ) → before jump.entry.time (unstamped (after.of s)) ≡ before jump.entry.time (unstamped (made.of s))) made.journal
          (λ jump a s. later_stays (is_of s part) jump.entry.time e (made.of s) a.1) (behind h)

      old : AreJumps m (unstamped made.journal) (λ s. unstamped (after.of s))
      old = jumps_stay m (λ s. unstamped (made.of s)) (λ s. unstamped (after.of s)) made.journal (stays (jumps e) refl g.in_time) invariant.of_jumps

      all_before : jumps e ≡ true → IsInTime made e true → (s : ℕ) → before e.entry.time (unstamped (after.of s)) ≡ unstamped (made.of s)
      all_before is h s =
          ap (λ (l : List JournalEntry). before e.entry.time (unstamped l)) (unchanged is s)
          ∙ filter_all (λ (x : Entry). nat_lt x.time e.entry.time) (unstamped (made.of s))
          (all_map (λ (x : JournalEntry). x.entry) (λ x. nat_lt x.time e.entry.time) (made.of s)
          (all_weaker (λ (x : JournalEntry). is_earlier x e) (λ x. nat_lt x.entry.time e.entry.time) (made.of s)
          (λ x a. both_right (nat_le (next_position x) e.stamp.pos && nat_lt x.stamp.tick e.stamp.tick) (nat_lt x.entry.time e.entry.time) a) ((ahead is h).1 s)))

      leapt : jumps e ≡ true → (b : Bool) → jumps e ≡ b → IsInTime made e b → JumpStep m (unstamped made.journal) (λ s. before e.entry.time (unstamped (after.of s))) e.entry.now e.entry.time
      leapt is true same h =
          let all : (λ (s : ℕ). before e.entry.time (unstamped (after.of s))) ≡ (λ (s : ℕ). unstamped (made.of s)) = λ i s. all_before is h s i in
          subst (λ (o : ℕ → List Entry). JumpStep m (unstamped made.journal) o e.entry.now e.entry.time) (sym all) (g.of_jump is)
      leapt is false same h = absurd (let bad : true ≡ false = sym is ∙ same in cc)

      new : (p : EntryClass) → part ≡ p → JumpIsLegal m (unstamped made.journal) (λ s. unstamped (after.of s)) e.entry p
      new OfJournal is = tt
      new (Notes s c) is = tt
      new (Moves s x) is = tt
      new OfTime is = leapt (ap is_jump is) (jumps e) refl g.in_time

      by : (b : Bool) → is_journals e ≡ b → AreJumps m (unstamped (put_if b e made.journal)) (λ s. unstamped (after.of s))
      by true is = (new part refl, old)
      by false is = old

  grown : RunInvariant m after
  grown = record {
    of_journal = of_journal;
    steps = acts_are_steps m made e invariant.steps g.next g.may;
    of_jumps = of_jumps;
    kept = all_put is_journals (is_journals e) e made.journal (λ is. is) invariant.kept;
    sourced = λ s. all_put (λ x. is_of s (class_of x.entry.kind)) (is_of s part) e (made.of s) (λ is. is) (invariant.sourced s);
    there = λ who. all_put (λ x. is_there m (class_of x.entry.kind)) (is_same e.entry.actor who) e (made.own who) (λ is. g.there) (invariant.there who);
    journal_falls = falls_put (is_journals e) e made.journal in_journal invariant.journal_falls;
    sources_fall = λ s. falls_put (is_of s part) e (made.of s) (in_source s) (invariant.sources_fall s);
    own_fall = own_fall;
    ticks = all_grown (λ x. nat_lt 0 x.stamp.tick) e made g.tick invariant.ticks;
    by_now = by_now;
    times = times;
    raised = raised;
    sides = sides;
  }

pub grows : InvariantGrows
grows m made e invariant g = grown m made e invariant g

pub invariant_begins : InvariantBegins
invariant_begins m = record {
  of_journal = tt;
  steps = record { of_actors = λ who. record { steps = tt; in_journal = refl; in_sources = λ s. refl }; of_sources = λ s. tt };
  of_jumps = tt;
  kept = refl;
  sourced = λ s. refl;
  there = λ who. refl;
  journal_falls = refl;
  sources_fall = λ s. refl;
  own_fall = λ who. refl;
  ticks = (refl, λ s. refl);
  by_now = (refl, λ s. refl);
  times = (refl, λ s. refl);
  raised = refl;
  sides = tt;
}
