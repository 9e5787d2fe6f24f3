-- Lists that fit by what each shows by itself fit together.
use Rattle.std.proofs.Common.{◌≡◌, ◌∙◌, ◌+◌, ◌==◌, ◌&&◌, ◌||◌, nat_lt, Bool, true, false, List, [], ◌∷◌, length, filter, cond, refl, sym, ap, subst}
use Rattle.std.specs.List.{list_all, list_any}
use Rattle.sleep_model.specs.declared.entry.Actor.{Actor}
use Rattle.sleep_model.specs.declared.entry.JournalEntry.{JournalEntry}
use Rattle.sleep_model.specs.declared.entry.SourceEntry.{SourceEntry}
use Rattle.sleep_model.specs.declared.machine.Machine.{Machine}
use Rattle.sleep_model.specs.Merge.{IsFit, actors_of, all_entries, entries_of, in_order, is_jump, is_word_step, put_in_order, rises, stamped, precedes}
use Rattle.sleep_model.specs.EntryClasses.{EntryClass, OfJournal, Notes, Moves, OfTime, class_of, is_in_journal}
use Rattle.sleep_model.specs.Path.{is_same}
use Rattle.log_merge.proofs.Sorts.{Up, up_in_order}
use Rattle.run_laws.specs.Apart.{AreActorSteps, calls_after, is_inside, is_journals, own_entries, past_of, source_past, word_steps}
use Rattle.run_laws.specs.Fitting.{FitApart, FitsTogether, ListsMerge, are_raised, has_time, is_look, jumps, is_ordered}
use Rattle.run_laws.specs.Merging.{AreLegalApart, AreLists}
use Rattle.run_laws.proofs.Chained.{chained_all}
use Rattle.run_laws.proofs.Lists.{all_order, filter_order, order_rising}
use Rattle.run_laws.proofs.Owned.{own_lists}
use Rattle.run_laws.proofs.Picks.{journals_of_all}
use Rattle.run_laws.proofs.Sourced.{all_so, all_weaker}
use Rattle.run_laws.proofs.Timed.{timed_all}
use Rattle.run_laws.proofs.Whole.{merges_to_finished, merges_to_legal, merges_to_stuck}

-- ---- an entry that passes, among entries in order

any_put : (q : JournalEntry → Bool) (x : JournalEntry) (ys : List JournalEntry) → list_any q (put_in_order x ys) ≡ (q x || list_any q ys)
any_put q x [] = refl
any_put q x (y ∷ ys) = by (precedes y x) (any_put q x ys)
  where
    change : (a b c : Bool) → (a || (b || c)) ≡ (b || (a || c))
    change true true c = refl
    change true false c = refl
    change false b c = refl

    by : (b : Bool) → list_any q (put_in_order x ys) ≡ (q x || list_any q ys)
        → list_any q (cond b (y ∷ put_in_order x ys) (x ∷ y ∷ ys)) ≡ (q x || list_any q (y ∷ ys))
    by true rest = ap (λ (b : Bool). q y || b) rest ∙ change (q y) (q x) (list_any q ys)
    by false rest = refl

any_order : (q : JournalEntry → Bool) (xs : List JournalEntry) → list_any q (in_order xs) ≡ list_any q xs
any_order q [] = refl
any_order q (x ∷ xs) = any_put q x (in_order xs) ∙ ap (λ (b : Bool). q x || b) (any_order q xs)

-- ---- jumps are the journal's

class_kept : (p : EntryClass) → is_jump p ≡ true → is_in_journal p ≡ true
class_kept OfJournal h = absurd (cc)
class_kept (Notes s c) h = absurd (cc)
class_kept (Moves s x) h = absurd (cc)
class_kept OfTime h = refl

jumps_preserved : (xs : List JournalEntry) → filter jumps xs ≡ filter jumps (filter is_journals xs)
jumps_preserved [] = refl
jumps_preserved (x ∷ xs) = by (is_journals x) refl (jumps x) refl (jumps_preserved xs)
  where
    by : (a : Bool) → is_journals x ≡ a → (b : Bool) → jumps x ≡ b → filter jumps xs ≡ filter jumps (filter is_journals xs)
        → cond b (x ∷ filter jumps xs) (filter jumps xs) ≡ filter jumps (cond a (x ∷ filter is_journals xs) (filter is_journals xs))
    by true kept b is rest = ap (λ (l : List JournalEntry). cond b (x ∷ l) l) rest ∙ ap (λ (c : Bool). cond c (x ∷ filter jumps (filter is_journals xs)) (filter jumps (filter is_journals xs))) (sym is)
    by false kept true is rest = absurd (let yes' : is_journals x ≡ true = class_kept (class_of x.entry.kind) is in let bad : true ≡ false = sym yes' ∙ kept in cc)
    by false kept false is rest = rest

-- ---- the whole

module _ (m : Machine) (journal : List JournalEntry) (hs : List (List SourceEntry)) (own : Actor → List JournalEntry) (a : FitApart m journal hs own) where
  up : Up precedes (in_order (all_entries journal hs))
  up = up_in_order (all_entries journal hs)

  jumps_are : filter jumps (stamped journal hs) ≡ filter jumps journal
  jumps_are =
      jumps_preserved (in_order (all_entries journal hs))
      ∙ ap (λ (l : List JournalEntry). filter jumps l) (filter_order is_journals (all_entries journal hs)
      ∙ ap in_order (journals_of_all journal hs a.kept a.sourced) ∙ order_rising journal a.journal_rises)

  has_sides : list_all (λ e. list_all (is_ordered e) (in_order (all_entries journal hs))) (in_order (all_entries journal hs)) ≡ true
  has_sides =
      all_weaker (λ (e : JournalEntry). list_all (is_ordered e) (all_entries journal hs)) (λ e. list_all (is_ordered e) (in_order (all_entries journal hs))) (in_order (all_entries journal hs))
      (λ e h. all_order (is_ordered e) (all_entries journal hs) h)
      (all_order (λ e. list_all (is_ordered e) (all_entries journal hs)) (all_entries journal hs) a.sides)

  has_times : list_all (has_time (in_order (all_entries journal hs))) (in_order (all_entries journal hs)) ≡ true
  has_times =
      all_weaker (has_time (all_entries journal hs)) (has_time (in_order (all_entries journal hs))) (in_order (all_entries journal hs))
      (λ e h. (λ i. jumps e || (e.entry.time == 0) || any_order (λ other. jumps other && (other.entry.time == e.entry.time)) (all_entries journal hs) i) ∙ h)
      (all_order (has_time (all_entries journal hs)) (all_entries journal hs) a.times)

  is_fit : IsFit m journal hs
  is_fit = record {
    journal_rises = a.journal_rises;
    histories_rise = a.histories_rise;
    actors_rise = all_so (λ who. rises (entries_of who (stamped journal hs))) (actors_of m)
        (λ who. ap rises (filter_order (λ e. is_same e.entry.actor who) (all_entries journal hs)) ∙ ap rises (own_lists m who (own who) journal hs a.count (a.actors who)) ∙ (a.actors who).rising);
    chained = chained_all (in_order (all_entries journal hs)) (word_steps journal hs) up (filter_order is_word_step (all_entries journal hs)) a.counted a.chained
        (all_order (is_look (word_steps journal hs)) (all_entries journal hs) a.looks);
    timed = timed_all (in_order (all_entries journal hs)) up (all_order (λ e. nat_lt 0 e.stamp.tick) (all_entries journal hs) a.ticks)
        (ap (are_raised 0 0) jumps_are ∙ a.raised) has_sides has_times;
  }

  lists : AreLists m journal hs
  lists = record { kept = a.kept; sourced = a.sourced; count = a.count; short = a.short; fit = is_fit }

pub fits_together : FitsTogether
fits_together m journal hs own a = lists m journal hs own a

-- ---- and merge

preserved_legal : (m : Machine) (journal : List JournalEntry) (hs : List (List SourceEntry)) (own : Actor → List JournalEntry) → FitApart m journal hs own
    → AreLegalApart m journal hs own → AreLegalApart m journal hs (λ who. own_entries who journal hs)
preserved_legal m journal hs own a legal = record {
  of_journal = legal.of_journal;
  of_sources = legal.of_sources;
  of_actors = λ who. subst (λ (l : List JournalEntry). AreActorSteps who (λ k. calls_after m who k (past_of journal)) (is_inside (length m.sources + 1) (source_past hs) who) (past_of l)) (sym (own_lists m who (own who) journal hs a.count (a.actors who))) (legal.of_actors who);
  of_jumps = legal.of_jumps;
}

pub lists_merge : ListsMerge
lists_merge m journal hs own log a legal is = (
  merges_to_legal m journal hs log (fits_together m journal hs own a) (preserved_legal m journal hs own a legal) is,
  λ over. merges_to_finished m journal hs log (fits_together m journal hs own a) is over,
  λ over. merges_to_stuck m journal hs log (fits_together m journal hs own a) is over,
)
