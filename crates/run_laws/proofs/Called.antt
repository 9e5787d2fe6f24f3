-- A whole call on a source leaves all known again.
use Rattle.std.proofs.Common.{◌≡◌, ◌∙◌, ◌≤◌, ◌<◌, ◌+◌, ◌==◌, ◌&&◌, ℕ, max, nat_lt, nat_le, Bool, true, false, List, [], ◌∷◌, length, map, cond, Some, refl, sym, ap, subst, arith}
use Rattle.std.proofs.lemmas.Bool.Decides.{nat_tests}
use Rattle.sleep_model.specs.declared.entry.Actor.{Actor}
use Rattle.sleep_model.specs.declared.entry.Entry.{Entry}
use Rattle.sleep_model.specs.declared.entry.JournalEntry.{JournalEntry}
use Rattle.sleep_model.specs.declared.entry.SourceEntry.{SourceEntry}
use Rattle.sleep_model.specs.declared.machine.Machine.{Machine}
use Rattle.sleep_model.specs.declared.machine.SourceCall.{SourceCall}
use Rattle.sleep_model.specs.declared.machine.SourceCall.TheVariants as call
use Rattle.sleep_model.specs.declared.word.EventNow.{EventNow}
use Rattle.sleep_model.specs.declared.word.Stamp.{Stamp}
use Rattle.sleep_model.specs.declared.word.WordKind.{WordKind}
use Rattle.sleep_model.specs.declared.word.WordKind.TheVariants as step
use Rattle.sleep_model.specs.Calls.{note}
use Rattle.sleep_model.specs.Legal.{last_is_of, is_there}
use Rattle.sleep_model.specs.Merge.{is_jump, of_source, next_position, step_number}
use Rattle.sleep_model.specs.Numbers.{time_of}
use Rattle.sleep_model.specs.EntryClasses.{EntryClass, Notes, Moves, class_of, is_in_journal}
use Rattle.sleep_model.specs.Path.{is_same}
use Rattle.sleep_model.specs.Sources.{IsNext as Next, SourceStep, steps_after_first, caller, caller_after, is_of, makes, owed, owed_after, since}
use Rattle.sleep_model.specs.Word.{position}
use Rattle.log_merge.proofs.Reading.{both}
use Rattle.log_merge.specs.Remainders.{unstamped}
use Rattle.run_laws.proofs.Calling.{same_actor}
use Rattle.wakeup_source.specs.declared.call_by.CallBy.{CallBy}
use Rattle.wakeup_source.specs.Called.{SourceView, Steps, after_note, after_step}
use Rattle.wakeup_source.specs.SourceStates.{RiseUpTo, SourceState, note_entry, note_tick, step_entry, step_kind, with_note, with_step}
use Rattle.wakeup_source.specs.SourceStates as states
use Rattle.wakeup_source.specs.Shown.{MayCall}
use Rattle.run_laws.specs.Acts.{IsNext, Made, MayHave, put_if, with_entry}
use Rattle.run_laws.specs.Called.{CallGrows, IsCalled, IsReady, knows}
use Rattle.run_laws.specs.Invariant.{EachJump, RunInvariant, IsGrowth, IsNewestOfOwn, IsInTime, follows, is_above}
use Rattle.run_laws.proofs.Invariant.{each_by, grows}

-- ---- parts and lists

pub class_note : (s : ℕ) (c : SourceCall) → class_of (note s c) ≡ Notes s c
class_note s call.Awake = refl
class_note s call.Relax = refl
class_note s (call.Event ms hard) = refl
class_note s call.Expire = refl

class_step : (s : ℕ) (x : WordKind) → class_of (step_kind s x) ≡ Moves s x
class_step s step.Start = refl
class_step s step.Finish = refl
class_step s step.Hard = refl

pub unstamped_same : (past : List SourceEntry) → states.unstamped_source past ≡ unstamped (map of_source past)
unstamped_same [] = refl
unstamped_same (e ∷ past) = ap (λ (l : List Entry). e.entry ∷ l) (unstamped_same past)

same_number : (s : ℕ) → (s == s) ≡ true
same_number s = grind (arith, nat_tests)

-- ---- stamps

pub above : (t t' p p' : ℕ) → nat_le t t' && nat_le p p' ≡ true → (u q : ℕ) → t' < u → p' ≤ q → nat_lt t u && nat_le p q ≡ true
above t t' p p' h u q a b = grind (arith, nat_tests)

-- an entry whose stamp is after what was known follows
pub follows_known : (floor : Stamp) (l : List JournalEntry) (e : JournalEntry) → knows floor l ≡ true → floor.tick < e.stamp.tick → floor.pos ≤ e.stamp.pos → follows e l ≡ true
follows_known floor [] e h t p = refl
follows_known floor (x ∷ l) e h t p = above x.stamp.tick floor.tick (next_position x) floor.pos h e.stamp.tick e.stamp.pos t p

known_longer : (t t' p p' : ℕ) → nat_le t t' && nat_le p p' ≡ true → (u q : ℕ) → t' ≤ u → p' ≤ q → nat_le t u && nat_le p q ≡ true
known_longer t t' p p' h u q a b = grind (arith, nat_tests)

at_most_self : (a : ℕ) → nat_le a a ≡ true
at_most_self a = grind (arith, nat_tests)

pub in_order_known : (floor : Stamp) (past : List SourceEntry) → RiseUpTo floor past → knows floor (map of_source past) ≡ true
in_order_known floor [] h = refl
in_order_known floor (e ∷ past) h = both (nat_le e.stamp.tick floor.tick) (nat_le (next_position (of_source e)) floor.pos) (is e.stamp.tick floor.tick h.1) (is (next_position (of_source e)) floor.pos h.0)
  where
    is : (a b : ℕ) → a ≤ b → nat_le a b ≡ true
    is a b l = grind (arith, nat_tests)

-- ---- one entry of a source

-- what one entry of that source by that actor leaves
record IsPut (s : ℕ) (who : Actor) (e : JournalEntry) (old new : Made) : Type 0 where
  journal : new.journal ≡ old.journal
  source : new.of s ≡ e ∷ old.of s
  others : (t : ℕ) → (s == t) ≡ false → new.of t ≡ old.of t
  own : new.own who ≡ e ∷ old.own who
  others_own : (w : Actor) → is_same who w ≡ false → new.own w ≡ old.own w

-- the part is that source's
record IsClassOf (s : ℕ) (p : EntryClass) : Type 0 where
  unkept : is_in_journal p ≡ false
  still : is_jump p ≡ false
  of : (t : ℕ) → is_of t p ≡ (s == t)

note_class : (s : ℕ) (c : SourceCall) → IsClassOf s (Notes s c)
note_class s c = record { unkept = refl; still = refl; of = λ t. refl }

step_class : (s : ℕ) (x : WordKind) → IsClassOf s (Moves s x)
step_class s x = record { unkept = refl; still = refl; of = λ t. refl }

put : (s : ℕ) (e : JournalEntry) (made : Made) → IsClassOf s (class_of e.entry.kind) → IsPut s e.entry.actor e made (with_entry e made)
put s e made p = record {
  journal = ap (λ (b : Bool). put_if b e made.journal) p.unkept;
  source = ap (λ (b : Bool). put_if b e (made.of s)) (p.of s ∙ same_number s);
  others = λ t other. ap (λ (b : Bool). put_if b e (made.of t)) (p.of t ∙ other);
  own = ap (λ (b : Bool). put_if b e (made.own e.entry.actor)) (same_actor e.entry.actor);
  others_own = λ w other. ap (λ (b : Bool). put_if b e (made.own w)) other;
}

-- ---- what is known inside a call

record Going (m : Machine) (first made : Made) (by : CallBy) (source : SourceState) (steps : List WordKind) : Type 0 where
  invariant : RunInvariant m made
  journal : made.journal ≡ first.journal
  entries : made.of source.id ≡ map of_source source.past
  others : (s : ℕ) → (source.id == s) ≡ false → made.of s ≡ first.of s
  own : knows source.floor (made.own by.actor) ≡ true
  others_own : (who : Actor) → is_same by.actor who ≡ false → made.own who ≡ first.own who
  there : nat_le source.id (length m.sources) ≡ true
  newest : knows source.floor (made.of source.id) ≡ true
  jumps_known : EachJump (λ jump. knows source.floor (jump ∷ []) ≡ true) made.journal
  time : by.now ≡ time_of (unstamped made.journal)
  owes : owed (unstamped (made.of source.id)) ≡ steps
  calls : caller (unstamped (made.of source.id)) ≡ Some by.actor
  behind : last_is_of source.id by.actor (unstamped (made.own by.actor)) ≡ true

pub above_jumps : (floor : Stamp) (e : JournalEntry) (l : List JournalEntry) → floor.tick < e.stamp.tick → floor.pos ≤ e.stamp.pos
    → EachJump (λ jump. knows floor (jump ∷ []) ≡ true) l → EachJump (λ jump. is_above e jump ≡ true) l
above_jumps floor e l t p h =
    each_by (λ jump. knows floor (jump ∷ []) ≡ true) (λ jump. is_above e jump ≡ true) l
    (λ jump k. above jump.stamp.tick floor.tick (next_position jump) floor.pos k e.stamp.tick e.stamp.pos t p) h

-- ---- a step

step_number_note : (s : ℕ) (c : SourceCall) (e : JournalEntry) → e.entry.kind ≡ note s c → next_position e ≡ e.stamp.pos + 0
step_number_note s c e is = ap (λ (n : ℕ). e.stamp.pos + n) (none c is)
  where
    none : (c : SourceCall) → e.entry.kind ≡ note s c → step_number e ≡ 0
    none call.Awake is = rw is refl
    none call.Relax is = rw is refl
    none (call.Event ms hard) is = rw is refl
    none call.Expire is = rw is refl

step_number_step : (s : ℕ) (x : WordKind) (e : JournalEntry) → e.entry.kind ≡ step_kind s x → next_position e ≡ e.stamp.pos + 1
step_number_step s x e is = ap (λ (n : ℕ). e.stamp.pos + n) (one x is)
  where
    one : (x : WordKind) → e.entry.kind ≡ step_kind s x → step_number e ≡ 1
    one step.Start is = rw is refl
    one step.Finish is = rw is refl
    one step.Hard is = rw is refl

pub knows_itself : (e : JournalEntry) (l : List JournalEntry) (floor : Stamp) → e.stamp.tick ≡ floor.tick → next_position e ≡ floor.pos → knows floor (e ∷ l) ≡ true
knows_itself e l floor t p = both (nat_le e.stamp.tick floor.tick) (nat_le (next_position e) floor.pos) (same e.stamp.tick floor.tick t) (same (next_position e) floor.pos p)
  where
    same : (a b : ℕ) → a ≡ b → nat_le a b ≡ true
    same a b e = grind (arith, nat_tests)

jumps_longer : (floor floor' : Stamp) (l : List JournalEntry) → floor.tick ≤ floor'.tick → floor.pos ≤ floor'.pos
    → EachJump (λ jump. knows floor (jump ∷ []) ≡ true) l → EachJump (λ jump. knows floor' (jump ∷ []) ≡ true) l
jumps_longer floor floor' l t p h =
    each_by (λ jump. knows floor (jump ∷ []) ≡ true) (λ jump. knows floor' (jump ∷ []) ≡ true) l
    (λ jump k. known_longer jump.stamp.tick floor.tick (next_position jump) floor.pos k floor'.tick floor'.pos t p) h

some_tick : (a : ℕ) → nat_lt 0 (a + 1) ≡ true
some_tick a = grind (arith, nat_tests)

module _ (m : Machine) (first made : Made) (by : CallBy) (source : SourceState) (x : WordKind) (rest : List WordKind) (before : EventNow)
    (g : Going m first made by source (x ∷ rest)) (low : source.floor.pos ≤ position before) where
  abbrev stepped : SourceState
  stepped = with_step by x before source

  abbrev e : JournalEntry
  e = record { stamp = record { pos = position before; tick = source.floor.tick + 1 }; entry = step_entry source.id x by.actor by.now before }

  abbrev after : Made
  after = with_entry e made

  part : class_of e.entry.kind ≡ Moves source.id x
  part = class_step source.id x

  is_class : IsClassOf source.id (class_of e.entry.kind)
  is_class = subst (IsClassOf source.id) (sym part) (step_class source.id x)

  is_put : IsPut source.id by.actor e made after
  is_put = put source.id e made is_class

  next_owed : (steps : List WordKind) → steps ≡ x ∷ rest → SourceStep (unstamped (made.of source.id)) by.now by.actor (Moves source.id x)
  next_owed steps is = (subst (λ (l : List WordKind). Next x l) (sym g.owes) refl, g.calls)

  growth : IsGrowth m made e
  growth = record {
    next = subst (IsNext m made by.actor e.entry) (sym part) g.behind;
    may = subst (MayHave made e.entry) (sym part) (next_owed (x ∷ rest) refl);
    there = ap (is_there m) part ∙ g.there;
    of_journal = λ is. absurd (let bad : true ≡ false = sym is ∙ is_class.unkept in cc);
    of_jump = λ is. absurd (let bad : true ≡ false = sym is ∙ is_class.still in cc);
    tick = some_tick source.floor.tick;
    in_place = subst (IsNewestOfOwn made e) (sym part) (follows_known source.floor (made.of source.id) e g.newest (omega arith) low);
    own = follows_known source.floor (made.own by.actor) e g.own (omega arith) low;
    in_time = subst (IsInTime made e) (sym is_class.still) (above_jumps source.floor e made.journal (omega arith) low g.jumps_known, g.time);
  }

  left : next_position e ≡ stepped.floor.pos
  left = step_number_step source.id x e refl

  goes_on : Going m first after by stepped rest
  goes_on = record {
    invariant = grows m made e g.invariant growth;
    journal = is_put.journal ∙ g.journal;
    entries = is_put.source ∙ ap (λ (l : List JournalEntry). e ∷ l) g.entries;
    others = λ s other. is_put.others s other ∙ g.others s other;
    own = ap (knows stepped.floor) is_put.own ∙ knows_itself e (made.own by.actor) stepped.floor refl left;
    others_own = λ who other. is_put.others_own who other ∙ g.others_own who other;
    there = g.there;
    newest = ap (knows stepped.floor) is_put.source ∙ knows_itself e (made.of source.id) stepped.floor refl left;
    jumps_known = subst (λ (l : List JournalEntry). EachJump (λ jump. knows stepped.floor (jump ∷ []) ≡ true) l) (sym is_put.journal)
        (jumps_longer source.floor stepped.floor made.journal (omega arith) (omega (arith, low)) g.jumps_known);
    time = g.time ∙ ap (λ (l : List JournalEntry). time_of (unstamped l)) (sym is_put.journal);
    owes = ap (λ (l : List JournalEntry). owed (unstamped l)) is_put.source
        ∙ ap (λ (p : EntryClass). owed_after p (since (unstamped (made.of source.id))) (owed (unstamped (made.of source.id)))) part
        ∙ ap steps_after_first g.owes;
    calls = ap (λ (l : List JournalEntry). caller (unstamped l)) is_put.source
        ∙ ap (λ (p : EntryClass). caller_after p by.actor (caller (unstamped (made.of source.id)))) part ∙ g.calls;
    behind = ap (λ (l : List JournalEntry). last_is_of source.id by.actor (unstamped l)) is_put.own
        ∙ ap (λ (b : Bool). cond b (is_of source.id (class_of e.entry.kind)) (last_is_of source.id by.actor (unstamped (made.own by.actor)))) (same_actor by.actor)
        ∙ is_class.of source.id ∙ same_number source.id;
  }

-- ---- all steps

steps_go : (m : Machine) (first made : Made) (by : CallBy) (steps : List WordKind) (old new : SourceView) → old.floor ≡ old.source.floor.pos
    → Going m first made by old.source steps → Steps by steps old new → (after : Made) × IsCalled m first after by new.source
steps_go m first made by [] old new f g h =
    let done : IsCalled m first made by old.source = record {
      invariant = g.invariant;
      journal = g.journal;
      entries = g.entries;
      others = g.others;
      own = g.own;
      others_own = g.others_own;
      owes_none = g.owes;
    } in
    (made, subst (IsCalled m first made by) (ap (λ (s : SourceView). s.source) (sym h)) done)
steps_go m first made by (x ∷ rest) old new f g h =
    let low : old.source.floor.pos ≤ position h.0 = subst (λ (n : ℕ). n ≤ position h.0) f h.2 in
    steps_go m first (after m first made by old.source x rest h.0 g low) by rest (after_step by x h.0 old) new refl
    (goes_on m first made by old.source x rest h.0 g low) h.3

-- ---- the note

may_note : (s : ℕ) (c : SourceCall) (own : List Entry) (time : ℕ) (who : Actor) → owed own ≡ [] → MayCall c own time → SourceStep own time who (Notes s c)
may_note s call.Awake own time who none may = none
may_note s call.Relax own time who none may = none
may_note s (call.Event ms hard) own time who none may = none
may_note s call.Expire own time who none may = (none, may)

module _ (m : Machine) (made : Made) (by : CallBy) (c : SourceCall) (source : SourceState) (seen : EventNow) (r : IsReady m made by c source)
    (by_low : by.floor.pos ≤ position seen) (low : source.floor.pos ≤ position seen) where
  abbrev noted : SourceState
  noted = with_note by c seen source

  abbrev n : JournalEntry
  n = record { stamp = record { pos = position seen; tick = note_tick by source }; entry = note_entry source.id c by.actor by.now seen }

  abbrev behind : Made
  behind = with_entry n made

  own_is : states.unstamped_source source.past ≡ unstamped (made.of source.id)
  own_is = unstamped_same source.past ∙ ap unstamped (sym r.entries)

  noted_class : class_of n.entry.kind ≡ Notes source.id c
  noted_class = class_note source.id c

  noted_of : IsClassOf source.id (class_of n.entry.kind)
  noted_of = subst (IsClassOf source.id) (sym noted_class) (note_class source.id c)

  noted_put : IsPut source.id by.actor n made behind
  noted_put = put source.id n made noted_of

  by_tick : by.floor.tick < note_tick by source
  by_tick = omega arith

  source_tick : source.floor.tick < note_tick by source
  source_tick = omega arith

  note_grows : IsGrowth m made n
  note_grows = record {
    next = subst (IsNext m made by.actor n.entry) (sym noted_class) (r.next, r.free);
    may = subst (MayHave made n.entry) (sym noted_class)
        (subst (λ (own : List Entry). SourceStep own by.now by.actor (Notes source.id c)) own_is (may_note source.id c (states.unstamped_source source.past) by.now by.actor r.settled.owes_none r.may));
    there = ap (is_there m) noted_class ∙ r.there;
    of_journal = λ is. absurd (let bad : true ≡ false = sym is ∙ noted_of.unkept in cc);
    of_jump = λ is. absurd (let bad : true ≡ false = sym is ∙ noted_of.still in cc);
    tick = some_tick (max by.floor.tick source.floor.tick);
    in_place = subst (IsNewestOfOwn made n) (sym noted_class)
        (ap (follows n) r.entries ∙ follows_known source.floor (map of_source source.past) n (in_order_known source.floor source.past r.settled.in_order) source_tick low);
    own = follows_known by.floor (made.own by.actor) n r.own by_tick by_low;
    in_time = subst (IsInTime made n) (sym noted_of.still) (above_jumps by.floor n made.journal by_tick by_low r.jumps, r.time);
  }

  stays_at : next_position n ≡ position seen
  stays_at = let is : next_position n ≡ position seen + 0 = step_number_note source.id c n refl in omega (arith, is)

  begins : Going m made behind by noted (makes c (since (states.unstamped_source source.past)))
  begins = record {
    invariant = grows m made n r.invariant note_grows;
    journal = noted_put.journal;
    entries = noted_put.source ∙ ap (λ (l : List JournalEntry). n ∷ l) r.entries;
    others = noted_put.others;
    own = ap (knows noted.floor) noted_put.own ∙ knows_itself n (made.own by.actor) noted.floor refl stays_at;
    others_own = noted_put.others_own;
    there = r.there;
    newest = ap (knows noted.floor) noted_put.source ∙ knows_itself n (made.of source.id) noted.floor refl stays_at;
    jumps_known = subst (λ (l : List JournalEntry). EachJump (λ jump. knows noted.floor (jump ∷ []) ≡ true) l) (sym noted_put.journal)
        (jumps_longer by.floor noted.floor made.journal (omega (arith, by_tick)) by_low r.jumps);
    time = r.time ∙ ap (λ (l : List JournalEntry). time_of (unstamped l)) (sym noted_put.journal);
    owes = ap (λ (l : List JournalEntry). owed (unstamped l)) noted_put.source
        ∙ ap (λ (p : EntryClass). owed_after p (since (unstamped (made.of source.id))) (owed (unstamped (made.of source.id)))) noted_class
        ∙ ap (λ (own : List Entry). makes c (since own)) (sym own_is);
    calls = ap (λ (l : List JournalEntry). caller (unstamped l)) noted_put.source
        ∙ ap (λ (p : EntryClass). caller_after p by.actor (caller (unstamped (made.of source.id)))) noted_class;
    behind = ap (λ (l : List JournalEntry). last_is_of source.id by.actor (unstamped l)) noted_put.own
        ∙ ap (λ (b : Bool). cond b (is_of source.id (class_of n.entry.kind)) (last_is_of source.id by.actor (unstamped (made.own by.actor)))) (same_actor by.actor)
        ∙ noted_of.of source.id ∙ same_number source.id;
  }

pub call_grows : CallGrows
call_grows m made by c old new r h =
    let seen : EventNow = h.1.0 in
    let by_low : by.floor.pos ≤ position seen = h.1.4 in
    let low : old.source.floor.pos ≤ position seen = h.1.5 in
    let is : h.0 ≡ after_note by c seen h.0.looked old = h.1.6 in
    steps_go m made (behind m made by c old.source seen r by_low low) by (makes c (since (states.unstamped_source old.source.past))) (after_note by c seen h.0.looked old) new refl
    (begins m made by c old.source seen r by_low low)
    (subst (λ (s : SourceView). Steps by (makes c (since (states.unstamped_source old.source.past))) s new) is h.2)
