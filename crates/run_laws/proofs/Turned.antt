-- A turn of the machine and a jump of time leave all known again.
use Rattle.std.proofs.Common.{◌≡◌, ◌∙◌, ◌≤◌, ◌<◌, ◌+◌, ℕ, nat_lt, nat_le, Bool, true, false, List, [], ◌∷◌, cond, refl, sym, ap, subst, arith}
use Rattle.std.proofs.lemmas.Bool.Decides.{nat_tests}
use Rattle.std.specs.List.{list_all}
use Rattle.sleep_model.specs.declared.entry.Actor.{Actor}
use Rattle.sleep_model.specs.declared.entry.Actor.TheVariants as actor
use Rattle.sleep_model.specs.declared.entry.JournalEntry.{JournalEntry}
use Rattle.sleep_model.specs.declared.machine.Machine.{Machine}
use Rattle.sleep_model.specs.declared.word.Stamp.{Stamp}
use Rattle.sleep_model.specs.Legal.{JournalStep, is_there}
use Rattle.sleep_model.specs.Merge.{is_jump, next_position, step_number}
use Rattle.sleep_model.specs.Numbers.{time_of}
use Rattle.sleep_model.specs.EntryClasses.{EntryClass, OfJournal, Notes, Moves, OfTime, class_of, is_in_journal}
use Rattle.sleep_model.specs.Path.{is_same}
use Rattle.sleep_model.specs.Sources.{is_of}
use Rattle.log_merge.proofs.Reading.{both}
use Rattle.log_merge.specs.Remainders.{unstamped}
use Rattle.run_laws.specs.Apart.{is_journals}
use Rattle.run_laws.proofs.Calling.{same_actor}
use Rattle.run_laws.proofs.Lists.{all_head}
use Rattle.run_laws.specs.Acts.{IsNext, Made, MayHave, put_if, with_entry}
use Rattle.run_laws.specs.Called.{knows}
use Rattle.run_laws.specs.Invariant.{RunInvariant, IsGrowth, IsNewestOfOwn, IsInTime, follows, is_above}
use Rattle.run_laws.specs.Turned.{IsAfter, IsTurned, LeapGrows, MayLeap, MayTurn, TurnGrows, newest_stamp}
use Rattle.run_laws.proofs.Called.{above, above_jumps, follows_known, knows_itself}
use Rattle.run_laws.proofs.Invariant.{all_so, grows}
use Rattle.run_laws.proofs.ClosedOver.{preserved_still}

-- ---- an entry of the journal

-- its kind is of the journal, or time's
record IsOwn (p : EntryClass) : Type 0 where
  kept : is_in_journal p ≡ true
  none : (s : ℕ) → is_of s p ≡ false
  there : (m : Machine) → is_there m p ≡ true
  may : (made : Made) (e : JournalEntry) → MayHave made e.entry p
  place : (made : Made) (e : JournalEntry) → follows e made.journal ≡ true → IsNewestOfOwn made e p

of_journal : IsOwn OfJournal
of_journal = record { kept = refl; none = λ s. refl; there = λ m. refl; may = λ made e. tt; place = λ made e h. h }

of_time : IsOwn OfTime
of_time = record { kept = refl; none = λ s. refl; there = λ m. refl; may = λ made e. tt; place = λ made e h. h }

pub leaves : (e : JournalEntry) → is_journals e ≡ true → next_position e ≡ e.stamp.pos
leaves e kept =
    let none : step_number e ≡ 0 = ap (λ (b : Bool). cond b 1 0) (preserved_still e.entry.kind kept) in
    let sum : e.stamp.pos + step_number e ≡ e.stamp.pos + 0 = ap (λ (n : ℕ). e.stamp.pos + n) none in
    omega (arith, sum)

some_tick : (a b : ℕ) → a < b → nat_lt 0 b ≡ true
some_tick a b l = grind (arith, nat_tests)

less_is : (a b : ℕ) → a < b → nat_lt a b ≡ true
less_is a b l = grind (arith, nat_tests)

most_is : (a b c : ℕ) → a ≡ b → b ≤ c → nat_le a c ≡ true
most_is a b c e l = grind (arith, nat_tests)

-- after the newest of the journal
after_last_word : (m : Machine) (made : Made) (e : JournalEntry) → RunInvariant m made → IsAfter (newest_stamp made.journal) e.stamp → follows e made.journal ≡ true
after_last_word m made e invariant b = by made.journal invariant.kept b
  where
    by : (l : List JournalEntry) → list_all is_journals l ≡ true → IsAfter (newest_stamp l) e.stamp → follows e l ≡ true
    by [] k b = refl
    by (x ∷ l) k b =
        both (nat_lt x.stamp.tick e.stamp.tick) (nat_le (next_position x) e.stamp.pos) (less_is x.stamp.tick e.stamp.tick b.tick)
        (most_is (next_position x) x.stamp.pos e.stamp.pos (leaves x (all_head is_journals x l k)) b.pos)

-- what it leaves
turned : (m : Machine) (made : Made) (e : JournalEntry) → RunInvariant m (with_entry e made) → IsOwn (class_of e.entry.kind) → IsTurned m made (with_entry e made) e.entry.actor e
turned m made e invariant p = record {
  invariant = invariant;
  journal = ap (λ (b : Bool). put_if b e made.journal) p.kept;
  sources = λ s. ap (λ (b : Bool). put_if b e (made.of s)) (p.none s);
  own = ap (λ (b : Bool). knows e.stamp (put_if b e (made.own e.entry.actor))) (same_actor e.entry.actor)
      ∙ knows_itself e (made.own e.entry.actor) e.stamp refl (leaves e p.kept);
  others_own = λ other is. ap (λ (b : Bool). put_if b e (made.own other)) is;
}

-- ---- a turn

not_time : (who : Actor) → who ≡ actor.Time → is_same who actor.Time ≡ true
not_time who is = ap (λ (w : Actor). is_same w actor.Time) is

module _ (m : Machine) (made : Made) (floor : Stamp) (e : JournalEntry) (t : MayTurn m made e.entry.actor floor e) where
  is_of_journal : (p : EntryClass) → JournalStep m (unstamped made.journal) e.entry p → p ≡ OfJournal
  is_of_journal OfJournal h = refl
  is_of_journal (Notes s c) h = absurd h
  is_of_journal (Moves s x) h = absurd h
  is_of_journal OfTime h = absurd (let bad : true ≡ false = sym (not_time e.entry.actor h.0) ∙ t.timeless in cc)

  pub turn_class : class_of e.entry.kind ≡ OfJournal
  turn_class = is_of_journal (class_of e.entry.kind) t.legal.0

  at_time : (p : EntryClass) → p ≡ OfJournal → JournalStep m (unstamped made.journal) e.entry p → e.entry.time ≡ time_of (unstamped made.journal)
  at_time OfJournal is h = h.1
  at_time (Notes s c) is h = absurd h
  at_time (Moves s x) is h = absurd h
  at_time OfTime is h = absurd (let bad : is_jump OfTime ≡ is_jump OfJournal = ap is_jump is in cc)

  own : IsOwn (class_of e.entry.kind)
  own = subst IsOwn (sym turn_class) of_journal

  growth : IsGrowth m made e
  growth = record {
    next = subst (IsNext m made e.entry.actor e.entry) (sym turn_class) (t.all_made, t.free);
    may = own.may made e;
    there = own.there m;
    of_journal = λ is. t.legal;
    of_jump = λ is. absurd (let bad : true ≡ false = sym is ∙ ap is_jump turn_class in cc);
    tick = some_tick floor.tick e.stamp.tick t.behind.tick;
    in_place = own.place made e (after_last_word m made e t.invariant t.last);
    own = follows_known floor (made.own e.entry.actor) e t.own t.behind.tick t.behind.pos;
    in_time = subst (IsInTime made e) (sym (ap is_jump turn_class)) (above_jumps floor e made.journal t.behind.tick t.behind.pos t.jumps, at_time (class_of e.entry.kind) turn_class t.legal.0);
  }

  is_turned : IsTurned m made (with_entry e made) e.entry.actor e
  is_turned = turned m made e (grows m made e t.invariant growth) own

pub turn_grows : TurnGrows
turn_grows m made who floor e t =
    subst (λ (w : Actor). IsTurned m made (with_entry e made) w e) t.by
    (is_turned m made floor e (subst (λ (w : Actor). MayTurn m made w floor e) (sym t.by) t))

-- ---- a jump

module _ (m : Machine) (made : Made) (floor : Stamp) (e : JournalEntry) (t : MayLeap m made floor e) where
  time_own : IsOwn (class_of e.entry.kind)
  time_own = subst IsOwn (sym t.leaps) of_time

  over : (x : JournalEntry) → knows floor (x ∷ []) ≡ true → is_above e x ≡ true
  over x h = above x.stamp.tick floor.tick (next_position x) floor.pos h e.stamp.tick e.stamp.pos t.behind.tick t.behind.pos

  first : (l : List JournalEntry) → list_all (λ other. knows floor (other ∷ [])) l ≡ true → follows e l ≡ true
  first [] h = refl
  first (x ∷ l) h = over x (all_head (λ other. knows floor (other ∷ [])) x l h)

  leap_growth : IsGrowth m made e
  leap_growth = record {
    next = subst (IsNext m made e.entry.actor e.entry) (sym t.leaps) tt;
    may = time_own.may made e;
    there = time_own.there m;
    of_journal = λ is. t.legal;
    of_jump = λ is. t.step;
    tick = some_tick floor.tick e.stamp.tick t.behind.tick;
    in_place = time_own.place made e (first made.journal t.all.0);
    own = follows_known floor (made.own e.entry.actor) e (ap (λ (w : Actor). knows floor (made.own w)) t.by ∙ t.own) t.behind.tick t.behind.pos;
    in_time = subst (IsInTime made e) (sym (ap is_jump t.leaps)) (all_so (λ other. knows floor (other ∷ [])) (is_above e) made over t.all);
  }

  is_leapt : IsTurned m made (with_entry e made) actor.Time e
  is_leapt = subst (λ (w : Actor). IsTurned m made (with_entry e made) w e) t.by (turned m made e (grows m made e t.invariant leap_growth) time_own)

pub leap_grows : LeapGrows
leap_grows m made floor e t = is_leapt m made floor e t
