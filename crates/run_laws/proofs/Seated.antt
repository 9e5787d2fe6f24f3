-- Calls and turns preserve what a seat made and looked at, and at the closed table these are all steps.
use Rattle.std.proofs.Common.{◌≡◌, ◌∙◌, ◌<◌, ◌+◌, ◌==◌, ◌||◌, ◌++◌, ℕ, zero, suc, Bool, true, false, List, [], ◌∷◌, length, map, reverse, get_or, Option, Some, None, is_some, refl, sym, ap, subst, arith}
use Rattle.std.proofs.lemmas.List.{reverse-append, reverse-reverse}
use Rattle.std.proofs.lemmas.Bool.Decides.{nat_tests}
use Rattle.std.specs.List.{list_all, list_any}
use Rattle.sleep_model.specs.declared.entry.Entry.{Entry}
use Rattle.sleep_model.specs.declared.entry.JournalEntry.{JournalEntry}
use Rattle.sleep_model.specs.declared.entry.SourceEntry.{SourceEntry}
use Rattle.sleep_model.specs.declared.machine.SourceCall.{SourceCall}
use Rattle.sleep_model.specs.declared.word.EventNow.{EventNow}
use Rattle.sleep_model.specs.declared.word.WordKind.{WordKind}
use Rattle.sleep_model.specs.declared.word.WordKind.TheVariants as step
use Rattle.sleep_model.specs.Merge.{is_word, is_word_step, of_source}
use Rattle.sleep_model.specs.Numbers.{word_step}
use Rattle.sleep_model.specs.Sources.{makes, since}
use Rattle.sleep_model.specs.Word.{position}
use Rattle.event_word.specs.Looks.{GrewTo}
use Rattle.log_merge.specs.Remainders.{sources_entries}
use Rattle.run_laws.specs.Apart.{past_of}
use Rattle.run_laws.proofs.Lists.{all_append, all_more, all_reverse}
use Rattle.wakeup_source.specs.declared.call_by.CallBy.{CallBy}
use Rattle.wakeup_source.specs.Called.{Calls, SourceView, Steps, after_note, after_step}
use Rattle.wakeup_source.specs.SourceStates.{unstamped_source, note_entry, note_tick, step_entry, step_kind}
use Rattle.wakeup_source.specs.Shown.{steps_in}
use Rattle.run_laws.specs.ClosedOver.{is_looked, has_position, was_seen}
use Rattle.run_laws.specs.Seated.{StampsAreSeen, IsFresh, SeatAgreesAfterCalls, SeatAgrees, SeatsCoverTable, WatchAgrees, sees}
use Rattle.run_laws.proofs.ClosedOver.{all_weaker, same_word}

-- ---- words that were looked at

any_after : (q : EventNow → Bool) (xs ys : List EventNow) → list_any q ys ≡ true → list_any q (xs ++ ys) ≡ true
any_after q [] ys h = h
any_after q (x ∷ xs) ys h = by (q x) (any_after q xs ys h)
  where
    by : (b : Bool) → list_any q (xs ++ ys) ≡ true → b || list_any q (xs ++ ys) ≡ true
    by true rest = refl
    by false rest = rest

either_right : (a b c : Bool) → (b ≡ true → c ≡ true) → a || b ≡ true → a || c ≡ true
either_right true b c f h = refl
either_right false b c f h = f h

right_of : (a b : Bool) → b ≡ true → a || b ≡ true
right_of true b h = refl
right_of false b h = h

sees_more : (looked more : List EventNow) (word : EventNow) (e : JournalEntry) → sees looked e ≡ true → sees ((word ∷ more) ++ looked) e ≡ true
sees_more looked more word e h =
    either_right (is_word_step e) (list_any (is_word e.entry.now) looked) (list_any (is_word e.entry.now) ((word ∷ more) ++ looked)) (any_after (is_word e.entry.now) (word ∷ more) looked) h

sees_newest : (looked more : List EventNow) (e : JournalEntry) → sees ((e.entry.now ∷ more) ++ looked) e ≡ true
sees_newest looked more e =
    right_of (is_word_step e) (list_any (is_word e.entry.now) ((e.entry.now ∷ more) ++ looked))
    (ap (λ (b : Bool). b || list_any (is_word e.entry.now) (more ++ looked)) (same_word e.entry.now e.entry.now refl))

same_number : (a b : ℕ) → a ≡ b → (a == b) ≡ true
same_number a b h = grind (arith, nat_tests)

-- one more entry, whose word was looked at last
one_more : (looked new : List EventNow) (entries : List JournalEntry) (e : JournalEntry) → StampsAreSeen looked entries → GrewTo e.entry.now (Some looked) (Some new)
    → e.stamp.pos ≡ position e.entry.now → StampsAreSeen new (e ∷ entries)
one_more looked new entries e h g at =
    subst (λ (l : List EventNow). StampsAreSeen l (e ∷ entries)) (sym g.1) (
      all_more (sees ((e.entry.now ∷ g.0) ++ looked)) e entries (sees_newest looked g.0 e)
          (all_weaker (sees looked) (sees ((e.entry.now ∷ g.0) ++ looked)) entries (λ x s. sees_more looked g.0 e.entry.now x s) h.0),
      all_more has_position e entries (same_number e.stamp.pos (position e.entry.now) at) h.1,
    )

pub watch_keeps : WatchAgrees
watch_keeps looked new journal e h g at = one_more looked new journal e h g at

-- ---- a call

step_moves : (s : ℕ) (x : WordKind) → is_some (word_step (step_kind s x)) ≡ true
step_moves s step.Start = refl
step_moves s step.Finish = refl
step_moves s step.Hard = refl

left_of : (a b : Bool) → a ≡ true → a || b ≡ true
left_of a b h = ap (λ (c : Bool). c || b) h

steps_seen : (by : CallBy) (steps : List WordKind) (old new : SourceView) (looked : List EventNow) → Steps by steps old new → old.looked ≡ Some looked
    → StampsAreSeen looked (map of_source old.source.past) → (new.looked ≡ Some looked) × StampsAreSeen looked (map of_source new.source.past)
steps_seen by [] old new looked h o a = (ap (λ (s : SourceView). s.looked) h ∙ o, subst (λ (s : SourceView). StampsAreSeen looked (map of_source s.source.past)) (sym h) a)
steps_seen by (x ∷ rest) old new looked h o a =
    let e : JournalEntry = record {
      stamp = record { pos = position h.0; tick = old.source.floor.tick + 1 };
      entry = step_entry old.source.id x by.actor by.now h.0;
    } in
    steps_seen by rest (after_step by x h.0 old) new looked h.3 o (
      all_more (sees looked) e (map of_source old.source.past) (left_of (is_word_step e) (list_any (is_word h.0) looked) (step_moves old.source.id x)) a.0,
      all_more has_position e (map of_source old.source.past) (same_number (position h.0) (position h.0) refl) a.1,
    )

-- ---- what a source last knew

steps_fresh : (by : CallBy) (steps : List WordKind) (old new : SourceView) → IsFresh old.source → Steps by steps old new → IsFresh new.source
steps_fresh by [] old new f h = subst (λ (s : SourceView). IsFresh s.source) (sym h) f
steps_fresh by (x ∷ rest) old new f h = steps_fresh by rest (after_step by x h.0 old) new refl h.3

-- a call leaves its source knowing the tick of its newest entry, and no later one
pub call_fresh : (by : CallBy) (c : SourceCall) (old new : SourceView) → Calls by c old new → IsFresh new.source
call_fresh by c old new h =
    steps_fresh by (makes c (since (unstamped_source old.source.past))) h.0 new (subst (λ (s : SourceView). IsFresh s.source) (sym h.1.6) refl) h.2

pub seat_keeps : SeatAgreesAfterCalls
seat_keeps by c old new made looked m o seated h shows = by_looked h.0.looked refl (subst (λ (l : Option (List EventNow)). GrewTo h.1.0 l h.0.looked) o h.1.2)
  where
    by_looked : (l : Option (List EventNow)) → h.0.looked ≡ l → GrewTo h.1.0 (Some looked) h.0.looked → SeatAgrees new
    by_looked None is g = absurd (subst (λ (l : Option (List EventNow)). GrewTo h.1.0 (Some looked) l) is g)
    by_looked (Some seen) is g =
        let grew : GrewTo h.1.0 (Some looked) (Some seen) = subst (λ (l : Option (List EventNow)). GrewTo h.1.0 (Some looked) l) is g in
        let e : JournalEntry = record {
          stamp = record { pos = position h.1.0; tick = note_tick by old.source };
          entry = note_entry old.source.id c by.actor by.now h.1.0;
        } in
        let first : StampsAreSeen seen (e ∷ map of_source old.source.past) = one_more looked seen (map of_source old.source.past) e seated.seen grew refl in
        let all = steps_seen by (makes c (since (unstamped_source old.source.past))) (after_note by c h.1.0 h.0.looked old) new seen
        (subst (λ (s : SourceView). Steps by (makes c (since (unstamped_source old.source.past))) s new) h.1.6 h.2) is first in
        record {
          made = steps_in (unstamped_source new.source.past);
          looked = seen;
          made_is = shows (m ∙ ap Some seated.steps);
          looked_is = all.0;
          seated = record { steps = refl; seen = all.1 };
        }

-- ---- the closed table

unstamped_onto : (xs ys : List SourceEntry) → unstamped_source (xs ++ ys) ≡ unstamped_source xs ++ unstamped_source ys
unstamped_onto [] ys = refl
unstamped_onto (x ∷ xs) ys = ap (λ (l : List Entry). x.entry ∷ l) (unstamped_onto xs ys)

unstamped_back : (h : List SourceEntry) → unstamped_source (reverse h) ≡ past_of (map of_source h)
unstamped_back [] = refl
unstamped_back (x ∷ h) =
    ap unstamped_source (reverse-append (x ∷ []) h) ∙ unstamped_onto (reverse h) (x ∷ []) ∙ ap (λ (l : List Entry). l ++ x.entry ∷ []) (unstamped_back h)
    ∙ sym (reverse-append (x.entry ∷ []) (map (λ (e : JournalEntry). e.entry) (map of_source h)))

map_onto : (xs ys : List SourceEntry) → map of_source (xs ++ ys) ≡ map of_source xs ++ map of_source ys
map_onto [] ys = refl
map_onto (x ∷ xs) ys = ap (λ (l : List JournalEntry). of_source x ∷ l) (map_onto xs ys)

map_turned : (h : List SourceEntry) → map of_source (reverse h) ≡ reverse (map of_source h)
map_turned [] = refl
map_turned (x ∷ h) =
    ap (map of_source) (reverse-append (x ∷ []) h) ∙ map_onto (reverse h) (x ∷ []) ∙ ap (λ (l : List JournalEntry). l ++ of_source x ∷ []) (map_turned h)
    ∙ sym (reverse-append (of_source x ∷ []) (map of_source h))

all_turned : (q : JournalEntry → Bool) (h : List SourceEntry) → list_all q (map of_source (reverse h)) ≡ true → list_all q (map of_source h) ≡ true
all_turned q h a =
    ap (list_all q) (sym (reverse-reverse (map of_source h)))
    ∙ all_reverse q (reverse (map of_source h)) (subst (λ (l : List JournalEntry). list_all q l ≡ true) (map_turned h) a)

sources_within : (q : JournalEntry → Bool) (hs : List (List SourceEntry)) → ((s : ℕ) → s < length hs → list_all q (map of_source (get_or hs s [])) ≡ true) → list_all q (sources_entries hs) ≡ true
sources_within q [] h = refl
sources_within q (x ∷ hs) h = all_append q (map of_source x) (sources_entries hs) (h 0 (omega arith)) (sources_within q hs (λ s l. h (suc s) (omega (arith, l))))

any_at : (q : EventNow → Bool) (looked : List (List EventNow)) (k : ℕ) → list_any q (get_or looked k []) ≡ true → list_any (λ words. list_any q words) looked ≡ true
any_at q [] k h = absurd (let bad : false ≡ true = h in cc)
any_at q (words ∷ looked) zero h = left_of (list_any q words) (list_any (λ words. list_any q words) looked) h
any_at q (words ∷ looked) (suc k) h = right_of (list_any q words) (list_any (λ words. list_any q words) looked) (any_at q looked k h)

looked_by : (looked : List (List EventNow)) (k : ℕ) (e : JournalEntry) → sees (get_or looked k []) e ≡ true → is_looked looked e ≡ true
looked_by looked k e h = either_right (is_word_step e) (list_any (is_word e.entry.now) (get_or looked k [])) (was_seen looked e.entry.now) (any_at (is_word e.entry.now) looked k) h

pub seats_cover : SeatsCoverTable
seats_cover made looked answer journal hs a = record {
  closed = a.closed;
  count = a.count;
  each_made = λ s l. (a.seated s l).steps ∙ ap steps_in (unstamped_back (get_or hs s []));
  kept = a.kept;
  looks = all_append (is_looked looked) journal (sources_entries hs)
      (all_weaker (sees (get_or looked a.machine [])) (is_looked looked) journal (λ e h. looked_by looked a.machine e h) a.watched.0)
      (sources_within (is_looked looked) hs (λ s l. all_turned (is_looked looked) (get_or hs s [])
      (all_weaker (sees (get_or looked (a.seat s) [])) (is_looked looked) (map of_source (reverse (get_or hs s []))) (λ e h. looked_by looked (a.seat s) e h) (a.seated s l).seen.0)));
  positions = all_append has_position journal (sources_entries hs) a.watched.1
      (sources_within has_position hs (λ s l. all_turned has_position (get_or hs s []) (a.seated s l).seen.1));
}
