-- Of entries that pass the tests all is known.
use Rattle.std.proofs.Common.{◌≡◌, ◌||◌, not, Bool, true, false, List, [], ◌∷◌, refl, subst}
use Rattle.std.specs.List.{list_all}
use Rattle.sleep_model.specs.declared.entry.JournalEntry.{JournalEntry}
use Rattle.sleep_model.specs.declared.machine.Machine.{Machine}
use Rattle.run_laws.specs.Fitting.{jumps}
use Rattle.run_laws.proofs.Lists.{all_head, all_tail}
use Rattle.run_laws.specs.Invariant.{AllOf, EachJump, IsGrowth, IsInTime, is_above}
use Rattle.run_laws.proofs.Invariant.{all_grown, grows, invariant_begins}
use Rattle.law_trials.specs.RunTests.{InJournal, IsTimed, MayJump, Tested, TestsShowInvariant, made_of}

all_made : (q : JournalEntry → Bool) (past : List JournalEntry) → list_all q past ≡ true → AllOf q (made_of past)
all_made q [] h = (refl, λ s. refl)
all_made q (e ∷ past) h = all_grown q e (made_of past) (all_head q e past h) (all_made q past (all_tail q e past h))

each_jump : (e : JournalEntry) (l : List JournalEntry) → list_all (λ j. not (jumps j) || is_above e j) l ≡ true → EachJump (λ j. is_above e j ≡ true) l
each_jump e [] h = tt
each_jump e (j ∷ l) h = (λ is. by (jumps j) is (all_head (λ j. not (jumps j) || is_above e j) j l h), each_jump e l (all_tail (λ j. not (jumps j) || is_above e j) j l h))
  where
    by : (b : Bool) → b ≡ true → not b || is_above e j ≡ true → is_above e j ≡ true
    by true is h = h
    by false is h = absurd (let bad : false ≡ true = is in cc)

may_grow : (m : Machine) (past : List JournalEntry) (e : JournalEntry) → Tested m past e → IsGrowth m (made_of past) e
may_grow m past e t = record {
  next = t.next;
  may = t.may;
  there = t.there;
  of_journal = λ is. subst (InJournal m (made_of past) e) is t.of_journal;
  of_jump = λ is. subst (MayJump m (made_of past) e) is t.of_jump;
  tick = t.tick;
  in_place = t.in_place;
  own = t.own;
  in_time = by (jumps e) t.in_time;
}
  where
    by : (b : Bool) → IsTimed past e b → IsInTime (made_of past) e b
    by true h = all_made (is_above e) past h
    by false h = (each_jump e (made_of past).journal (all_made (λ j. not (jumps j) || is_above e j) past h.0).0, h.1)

pub tests_show : TestsShowInvariant
tests_show m [] h = invariant_begins m
tests_show m (e ∷ past) h = grows m (made_of past) e (tests_show m past h.1) (may_grow m past e h.0)
