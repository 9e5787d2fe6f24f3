-- What a stamp knows, and how many calls an actor has made.
use Rattle.std.proofs.Common.{◌≡◌, ◌≤◌, ◌<◌, ◌+◌, ◌∙◌, ℕ, zero, suc, Bool, true, false, ◌&&◌, nat_lt, nat_le, List, [], ◌∷◌, length, filter, refl, sym, ap, ap₂, cond, ◌*◌, arith}
use Rattle.std.specs.List.{list_all}
use Rattle.std.proofs.lemmas.Bool.Decides.{nat_tests}
use Rattle.sleep_model.specs.declared.entry.Actor.{Actor}
use Rattle.sleep_model.specs.declared.entry.Entry.{Entry}
use Rattle.sleep_model.specs.declared.entry.JournalEntry.{JournalEntry}
use Rattle.sleep_model.specs.declared.machine.Machine.{Machine}
use Rattle.sleep_model.specs.declared.word.Stamp.{Stamp}
use Rattle.sleep_model.specs.Calls.{is_note_of, made, notes_of, one_more}
use Rattle.sleep_model.specs.Legal.{is_there}
use Rattle.sleep_model.specs.Merge.{entries_of, next_position}
use Rattle.sleep_model.specs.EntryClasses.{EntryClass, OfJournal, Notes, Moves, OfTime, class_of}
use Rattle.sleep_model.specs.Path.{is_same}
use Rattle.sleep_model.specs.Sources.{history, is_of}
use Rattle.log_merge.proofs.Reading.{both}
use Rattle.log_merge.specs.Remainders.{unstamped}
use Rattle.run_laws.specs.Apart.{is_journals, own_of}
use Rattle.run_laws.proofs.Calling.{made_own, same_actor}
use Rattle.run_laws.proofs.Lists.{all_head, all_map, all_more, all_tail, filter_map_through}
use Rattle.run_laws.specs.Acts.{Made}
use Rattle.run_laws.specs.Called.{knows}
use Rattle.run_laws.specs.Invariant.{AllOf, EachJump, RunInvariant, falls, follows}

-- ---- what a stamp knows

first : (a b : Bool) → (a && b) ≡ true → a ≡ true
first true b h = refl
first false b h = h

second : (a b : Bool) → (a && b) ≡ true → b ≡ true
second true b h = h
second false b h = absurd (cc)

at_most : (a b : ℕ) → nat_le a b ≡ true → a ≤ b
at_most a b h = grind (arith, nat_tests)

at_most_is : (a b : ℕ) → a ≤ b → nat_le a b ≡ true
at_most_is a b h = grind (arith, nat_tests)

less : (a b : ℕ) → nat_lt a b ≡ true → a < b
less a b h = grind (arith, nat_tests)

-- one that is no less knows as much
pub knows_more : (floor later : Stamp) (l : List JournalEntry) → floor.tick ≤ later.tick → floor.pos ≤ later.pos → knows floor l ≡ true → knows later l ≡ true
knows_more floor later [] t p h = refl
knows_more floor later (e ∷ l) t p h =
    let tick : e.stamp.tick ≤ floor.tick = at_most e.stamp.tick floor.tick (first (nat_le e.stamp.tick floor.tick) (nat_le (next_position e) floor.pos) h) in
    let pos : next_position e ≤ floor.pos = at_most (next_position e) floor.pos (second (nat_le e.stamp.tick floor.tick) (nat_le (next_position e) floor.pos) h) in
    both (nat_le e.stamp.tick later.tick) (nat_le (next_position e) later.pos) (at_most_is e.stamp.tick later.tick (omega (arith, tick, t))) (at_most_is (next_position e) later.pos (omega (arith, pos, p)))

-- of a list that falls it knows all, if it knows the newest
pub knows_each : (floor : Stamp) (l : List JournalEntry) → falls l ≡ true → knows floor l ≡ true → list_all (λ e. knows floor (e ∷ [])) l ≡ true
knows_each floor [] f h = refl
knows_each floor (e ∷ l) f h =
    both (knows floor (e ∷ [])) (list_all (λ e. knows floor (e ∷ [])) l) h
    (knows_each floor l (second (follows e l) (falls l) f) (rest l (first (follows e l) (falls l) f)))
  where
    rest : (l : List JournalEntry) → follows e l ≡ true → knows floor l ≡ true
    rest [] g = refl
    rest (x ∷ l) g =
        let above : x.stamp.tick < e.stamp.tick = less x.stamp.tick e.stamp.tick (first (nat_lt x.stamp.tick e.stamp.tick) (nat_le (next_position x) e.stamp.pos) g) in
        let behind : next_position x ≤ e.stamp.pos = at_most (next_position x) e.stamp.pos (second (nat_lt x.stamp.tick e.stamp.tick) (nat_le (next_position x) e.stamp.pos) g) in
        let tick : e.stamp.tick ≤ floor.tick = at_most e.stamp.tick floor.tick (first (nat_le e.stamp.tick floor.tick) (nat_le (next_position e) floor.pos) h) in
        let pos : next_position e ≤ floor.pos = at_most (next_position e) floor.pos (second (nat_le e.stamp.tick floor.tick) (nat_le (next_position e) floor.pos) h) in
        both (nat_le x.stamp.tick floor.tick) (nat_le (next_position x) floor.pos) (at_most_is x.stamp.tick floor.tick (omega (arith, above, tick)))
        (at_most_is (next_position x) floor.pos (omega (arith, behind, pos)))

-- and so each jump of it
pub knows_jumps : (floor : Stamp) (l : List JournalEntry) → list_all (λ e. knows floor (e ∷ [])) l ≡ true → EachJump (λ jump. knows floor (jump ∷ []) ≡ true) l
knows_jumps floor [] h = tt
knows_jumps floor (e ∷ l) h = (
  λ jump. first (knows floor (e ∷ [])) (list_all (λ e. knows floor (e ∷ [])) l) h,
  knows_jumps floor l (second (knows floor (e ∷ [])) (list_all (λ e. knows floor (e ∷ [])) l) h),
)

-- what each actor's entries pass, all pass
pub all_by_actor : (q : JournalEntry → Bool) (l : List JournalEntry) → ((who : Actor) → list_all q (entries_of who l) ≡ true) → list_all q l ≡ true
all_by_actor q [] h = refl
all_by_actor q (e ∷ l) h =
    both (q e) (list_all q l)
    (all_head q e (entries_of e.entry.actor l) (ap (λ (b : Bool). list_all q (cond b (e ∷ entries_of e.entry.actor l) (entries_of e.entry.actor l))) (sym (same_actor e.entry.actor)) ∙ h e.entry.actor))
    (all_by_actor q l (λ who. rest who (is_same e.entry.actor who) (h who)))
  where
    rest : (who : Actor) (b : Bool) → list_all q (cond b (e ∷ entries_of who l) (entries_of who l)) ≡ true → list_all q (entries_of who l) ≡ true
    rest who true g = all_tail q e (entries_of who l) g
    rest who false g = g

-- and what all pass, those pass that pass another test
all_filtered : (q p : JournalEntry → Bool) (l : List JournalEntry) → list_all q l ≡ true → list_all q (filter p l) ≡ true
all_filtered q p [] h = refl
all_filtered q p (e ∷ l) h = by (p e) (all_filtered q p l (all_tail q e l h))
  where
    by : (b : Bool) → list_all q (filter p l) ≡ true → list_all q (cond b (e ∷ filter p l) (filter p l)) ≡ true
    by true rest = all_more q e (filter p l) (all_head q e l h) rest
    by false rest = rest

-- who knows each actor's own entries knows all
pub all_by_own : (m : Machine) (all : Made) (floor : Stamp) → RunInvariant m all → ((who : Actor) → knows floor (all.own who) ≡ true) → AllOf (λ e. knows floor (e ∷ [])) all
all_by_own m all floor invariant h = (
  all_by_actor q all.journal (λ who. ap (list_all q) (sym (invariant.steps.of_actors who).in_journal) ∙ all_filtered q is_journals (all.own who) (own who)),
  λ s. all_by_actor q (all.of s) (λ who. ap (list_all q) (sym ((invariant.steps.of_actors who).in_sources s)) ∙ all_filtered q (λ e. is_of s (class_of e.entry.kind)) (all.own who) (own who)),
)
  where
    q : JournalEntry → Bool
    q e = knows floor (e ∷ [])

    own : (who : Actor) → list_all q (all.own who) ≡ true
    own who = knows_each floor (all.own who) (invariant.own_fall who) (h who)

-- ---- the calls that an actor has made

note_of_other : (who : Actor) (e : Entry) (p : EntryClass) → is_same e.actor who ≡ false → is_note_of who e p ≡ false
note_of_other who e OfJournal h = refl
note_of_other who e (Notes t c) h = h
note_of_other who e (Moves t x) h = refl
note_of_other who e OfTime h = refl

-- the notes of an actor are among its own entries
pub notes_own : (who : Actor) (past : List Entry) → notes_of who past ≡ notes_of who (own_of who past)
notes_own who [] = refl
notes_own who (e ∷ past) = by (is_same e.actor who) refl (notes_own who past)
  where
    by : (b : Bool) → is_same e.actor who ≡ b → notes_of who past ≡ notes_of who (own_of who past)
        → one_more (is_note_of who e (class_of e.kind)) (notes_of who past) ≡ notes_of who (cond b (e ∷ own_of who past) (own_of who past))
    by true is rest = ap (one_more (is_note_of who e (class_of e.kind))) rest
    by false is rest = ap (λ (b : Bool). one_more b (notes_of who past)) (note_of_other who e (class_of e.kind) is) ∙ rest

made_by : (n : ℕ) (of other : ℕ → List Entry) (who : Actor) → ((s : ℕ) → notes_of who (of s) ≡ notes_of who (other s)) → made n of who ≡ made n other who
made_by zero of other who h = refl
made_by (suc n) of other who h = ap₂ (λ (a b : ℕ). a + b) (h n) (made_by n of other who h)

own_unstamped : (who : Actor) (l : List JournalEntry) → own_of who (unstamped l) ≡ unstamped (entries_of who l)
own_unstamped who l = filter_map_through (λ (e : JournalEntry). e.entry) (λ (e : Entry). is_same e.actor who) l

history_unstamped : (s : ℕ) (l : List JournalEntry) → history s (unstamped l) ≡ unstamped (filter (λ e. is_of s (class_of e.entry.kind)) l)
history_unstamped s l = filter_map_through (λ (e : JournalEntry). e.entry) (λ (e : Entry). is_of s (class_of e.kind)) l

own_of_own : (who : Actor) (l : List JournalEntry) → notes_of who (own_of who (unstamped l)) ≡ notes_of who (unstamped l)
own_of_own who l = sym (notes_own who (unstamped l))

-- how many calls an actor has made is counted from its own entries, or from the sources'
pub made_is_notes : (m : Machine) (all : Made) (who : Actor) → RunInvariant m all → made (length m.sources + 1) (λ s. unstamped (all.of s)) who ≡ notes_of who (unstamped (all.own who))
made_is_notes m all who invariant =
    made_by (length m.sources + 1) (λ s. unstamped (all.of s)) (λ s. history s (unstamped (all.own who))) who
    (λ s. notes_own who (unstamped (all.of s))
    ∙ ap (notes_of who) (own_unstamped who (all.of s) ∙ (ap unstamped (sym ((invariant.steps.of_actors who).in_sources s)) ∙ sym (history_unstamped s (all.own who)))))
    ∙ (made_own m who (unstamped (all.own who)) (all_map (λ (e : JournalEntry). e.entry) (λ (e : Entry). is_there m (class_of e.kind)) (all.own who) (invariant.there who))
    ∙ own_of_own who (all.own who))

-- ---- an actor makes few calls

few_notes : (who : Actor) (own : List Entry) → notes_of who own ≤ length own
few_notes who [] = omega arith
few_notes who (e ∷ own) = by_note (is_note_of who e (class_of e.kind)) (few_notes who own)
  where
    by_note : (b : Bool) → notes_of who own ≤ length own → one_more b (notes_of who own) ≤ suc (length own)
    by_note true h = omega (arith, h)
    by_note false h = omega (arith, h)

-- if no source has more entries than its room
pub few_made : (n : ℕ) (of : ℕ → List Entry) (who : Actor) → ((s : ℕ) → length (of s) ≤ 60000) → made n of who ≤ 60000 * n
few_made zero of who h = omega arith
few_made (suc n) of who h = omega (arith, few_made n of who h, h n, few_notes who (of n))
