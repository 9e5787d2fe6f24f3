-- What is so for each actor and source of the machine is so for all that there are.
use Rattle.std.proofs.Common.{◌≡◌, ◌∙◌, ◌≤◌, ◌<◌, ◌+◌, ◌==◌, ◌&&◌, ◌||◌, ℕ, zero, suc, nat_lt, Bool, true, false, List, [], ◌∷◌, length, map, filter, get_or, cond, refl, sym, ap, subst, arith}
use Rattle.std.proofs.lemmas.Bool.Decides.{nat_tests}
use Rattle.std.proofs.lemmas.List.{get_or_past}
use Rattle.std.specs.List.{list_all, list_any}
use Rattle.sleep_model.specs.declared.entry.Actor.{Actor}
use Rattle.sleep_model.specs.declared.entry.Actor.TheVariants as actor
use Rattle.sleep_model.specs.declared.entry.JournalEntry.{JournalEntry}
use Rattle.sleep_model.specs.declared.entry.SourceEntry.{SourceEntry}
use Rattle.sleep_model.specs.declared.machine.Machine.{Machine}
use Rattle.sleep_model.specs.Legal.{is_there}
use Rattle.sleep_model.specs.Merge.{actors_of, all_entries, entries_of, in_order, of_source, rises}
use Rattle.sleep_model.specs.EntryClasses.{class_of}
use Rattle.sleep_model.specs.Path.{is_same}
use Rattle.sleep_model.specs.Sources.{is_of}
use Rattle.run_laws.specs.Apart.{AreActorSteps, IsSource, calls_after, is_inside, is_journals, own_entries, past_of, source_past}
use Rattle.run_laws.specs.Fitting.{FitApart}
use Rattle.run_laws.specs.Merging.{AreLegalApart}
use Rattle.run_laws.specs.Owned.{IsOwnList}
use Rattle.run_laws.proofs.Calling.{filter_twice}
use Rattle.run_laws.proofs.Lists.{all_head, all_order, all_tail, filter_order, order_rising}
use Rattle.run_laws.proofs.Picks.{history_among, history_rises, journals_of_all}
use Rattle.run_laws.proofs.Placing.{number_is}
use Rattle.run_laws.proofs.Sourced.{entries_there}
use Rattle.law_trials.specs.MergeTests.{Below, FitTested, LegalTested, OfEach, TestsShowPremises}

-- ---- sources

below_at : (P : ℕ → Type 0) (n s : ℕ) → s < n → Below P n → P s
below_at P zero s l h = absurd (omega arith)
below_at P (suc n) s l h = by (s == n) refl (λ m. below_at P n s m h.1)
  where
    by : (b : Bool) → (s == n) ≡ b → (s < n → P s) → P s
    by true is after_idle_round = let same : n ≡ s = grind (arith, nat_tests) in subst P same h.0
    by false is after_idle_round = let less : s < n = grind (arith, nat_tests) in after_idle_round less

all_sources : (hs : List (List SourceEntry)) → Below (λ s. IsSource (source_past hs s)) (length hs) → (s : ℕ) → IsSource (source_past hs s)
all_sources hs h s = by (nat_lt s (length hs)) refl
  where
    by : (b : Bool) → nat_lt s (length hs) ≡ b → IsSource (source_past hs s)
    by true is = let less : s < length hs = grind (arith, nat_tests) in below_at (λ s. IsSource (source_past hs s)) (length hs) s less h
    by false is =
        let past : length hs ≤ s = grind (arith, nat_tests) in
        subst (λ (l : List SourceEntry). IsSource (past_of (map of_source l))) (sym (get_or_past hs s [] past)) tt

-- ---- actors

actor_is : (a b : Actor) → is_same a b ≡ true → a ≡ b
actor_is (actor.Script i) (actor.Script j) h = ap actor.Script (number_is i j h)
actor_is actor.Auto actor.Auto h = refl
actor_is (actor.Dev i) (actor.Dev j) h = ap actor.Dev (number_is i j h)
actor_is (actor.Timer i) (actor.Timer j) h = ap actor.Timer (number_is i j h)
actor_is actor.Time actor.Time h = refl
actor_is _ _ h = absurd (cc)

each_at : (P : Actor → Type 0) (whos : List Actor) (a : Actor) → OfEach P whos → list_any (λ who. is_same a who) whos ≡ true → P a
each_at P [] a h g = absurd (cc)
each_at P (who ∷ after_idle_round) a h g = by (is_same a who) refl (each_at P after_idle_round a h.1) g
  where
    by : (b : Bool) → is_same a who ≡ b → (list_any (λ who. is_same a who) after_idle_round ≡ true → P a) → b || list_any (λ who. is_same a who) after_idle_round ≡ true → P a
    by true is after_idle_round' g = subst P (sym (actor_is a who is)) h.0
    by false is after_idle_round' g = after_idle_round' g

-- an actor has no entry among these, or is one of the machine's
each_or_none : (P : Actor → Type 0) (whos : List Actor) (who : Actor) (xs : List JournalEntry) → OfEach P whos → list_all (λ e. list_any (λ who. is_same e.entry.actor who) whos) xs ≡ true
    → (entries_of who xs ≡ [] → P who) → P who
each_or_none P whos who [] h g f = f refl
each_or_none P whos who (x ∷ xs) h g f = by (is_same x.entry.actor who) refl (each_or_none P whos who xs h (all_tail (λ e. list_any (λ who. is_same e.entry.actor who) whos) x xs g))
  where
    by : (b : Bool) → is_same x.entry.actor who ≡ b → ((entries_of who xs ≡ [] → P who) → P who) → P who
    by true is after_idle_round = subst P (actor_is x.entry.actor who is) (each_at P whos x.entry.actor h (all_head (λ e. list_any (λ who. is_same e.entry.actor who) whos) x xs g))
    by false is after_idle_round = after_idle_round (λ none. f (ap (λ (b : Bool). cond b (x ∷ entries_of who xs) (entries_of who xs)) is ∙ none))

each_tested : (q : Actor → Bool) (whos : List Actor) → list_all q whos ≡ true → OfEach (λ who. q who ≡ true) whos
each_tested q [] h = tt
each_tested q (who ∷ after_idle_round) h = (all_head q who after_idle_round h, each_tested q after_idle_round (all_tail q who after_idle_round h))

-- ---- the whole

module _ (m : Machine) (journal : List JournalEntry) (hs : List (List SourceEntry)) (t : FitTested m journal hs) where
  own_rises : (who : Actor) → rises (own_entries who journal hs) ≡ true
  own_rises who =
      each_or_none (λ who. rises (own_entries who journal hs) ≡ true) (actors_of m) who (all_entries journal hs)
      (each_tested (λ who. rises (own_entries who journal hs)) (actors_of m) t.actors_rise) t.owned
      (λ none. ap (λ (l : List JournalEntry). rises (in_order l)) none)

  -- what an actor has among some entries that are in order, picked of its own
  picked_own : (who : Actor) (q : JournalEntry → Bool) (xs : List JournalEntry) → filter q (all_entries journal hs) ≡ xs → rises xs ≡ true
      → filter q (own_entries who journal hs) ≡ entries_of who xs
  picked_own who q xs is up =
      filter_order q (entries_of who (all_entries journal hs))
      ∙ ap in_order (filter_twice q (λ e. is_same e.entry.actor who) (all_entries journal hs) ∙ ap (entries_of who) is)
      ∙ sym (filter_order (λ e. is_same e.entry.actor who) xs)
      ∙ ap (entries_of who) (order_rising xs up)

  all_of_filter : (q p : JournalEntry → Bool) (xs : List JournalEntry) → list_all q xs ≡ true → list_all q (filter p xs) ≡ true
  all_of_filter q p [] h = refl
  all_of_filter q p (x ∷ xs) h = by (p x) (all_of_filter q p xs (all_tail q x xs h))
    where
      by : (b : Bool) → list_all q (filter p xs) ≡ true → list_all q (cond b (x ∷ filter p xs) (filter p xs)) ≡ true
      by true after_idle_round = ap (λ (c : Bool). c && list_all q (filter p xs)) (all_head q x xs h) ∙ after_idle_round
      by false after_idle_round = after_idle_round

  own_preserved : (who : Actor) → IsOwnList m who (own_entries who journal hs) journal hs
  own_preserved who = record {
    rising = own_rises who;
    there = all_order (λ e. is_there m (class_of e.entry.kind)) (entries_of who (all_entries journal hs))
        (all_of_filter (λ e. is_there m (class_of e.entry.kind)) (λ e. is_same e.entry.actor who) (all_entries journal hs) (entries_there m journal hs t.kept t.sourced t.count));
    in_journal = picked_own who is_journals journal (journals_of_all journal hs t.kept t.sourced) t.journal_rises;
    in_histories = λ s. picked_own who (λ e. is_of s (class_of e.entry.kind)) (map of_source (get_or hs s []))
        (history_among journal hs t.kept t.sourced s) (history_rises hs s t.histories_rise);
  }

  fit : FitApart m journal hs (λ who. own_entries who journal hs)
  fit = record {
    kept = t.kept;
    sourced = t.sourced;
    count = t.count;
    short = t.short;
    journal_rises = t.journal_rises;
    histories_rise = t.histories_rise;
    actors = own_preserved;
    counted = t.counted;
    chained = t.chained;
    looks = t.looks;
    ticks = t.ticks;
    raised = t.raised;
    sides = t.sides;
    times = t.times;
  }

  legal : LegalTested m journal hs → AreLegalApart m journal hs (λ who. own_entries who journal hs)
  legal l = record {
    of_journal = l.of_journal;
    of_sources = all_sources hs l.of_sources;
    of_actors = λ who.
        each_or_none (λ who. AreActorSteps who (λ k. calls_after m who k (past_of journal)) (is_inside (length m.sources + 1) (source_past hs) who) (past_of (own_entries who journal hs))) (actors_of m) who (all_entries journal hs) l.of_actors t.owned
        (λ none. subst (λ (xs : List JournalEntry). AreActorSteps who (λ k. calls_after m who k (past_of journal)) (is_inside (length m.sources + 1) (source_past hs) who) (past_of (in_order xs))) (sym none) tt);
    of_jumps = l.of_jumps;
  }

pub tests_show : TestsShowPremises
tests_show m journal hs t l = (fit m journal hs t, legal m journal hs t l)
