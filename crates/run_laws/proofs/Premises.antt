-- With the closed table, what is known meets what the law of the one log asks.
use Rattle.std.proofs.Common.{◌≡◌, ◌∙◌, ◌+◌, ◌==◌, ◌&&◌, ◌||◌, ◌++◌, ℕ, suc, nat_lt, nat_le, not, Bool, true, false, List, [], ◌∷◌, length, map, filter, reverse, get_or, refl, sym, ap, subst, arith}
use Rattle.std.proofs.lemmas.List.{reverse-append, reverse-reverse}
use Rattle.std.specs.List.{list_all, list_any}
use Rattle.sleep_model.specs.declared.word.EventNow.{EventNow}
use Rattle.sleep_model.specs.declared.entry.Actor.{Actor}
use Rattle.sleep_model.specs.declared.entry.Entry.{Entry}
use Rattle.sleep_model.specs.declared.entry.JournalEntry.{JournalEntry}
use Rattle.sleep_model.specs.declared.entry.SourceEntry.{SourceEntry}
use Rattle.sleep_model.specs.declared.machine.Machine.{Machine}
use Rattle.sleep_model.specs.Legal.{JournalPart, is_there}
use Rattle.sleep_model.specs.Merge.{all_entries, entries_of, is_jump, of_source, next_position, rises, rises_after}
use Rattle.sleep_model.specs.EntryClasses.{EntryClass, OfJournal, Notes, Moves, OfTime, class_of}
use Rattle.sleep_model.specs.Path.{is_same}
use Rattle.sleep_model.specs.Sources.{is_of}
use Rattle.log_merge.specs.Remainders.{sources_entries, unstamped}
use Rattle.log_merge.proofs.Reading.{both, both_left, both_right}
use Rattle.run_laws.specs.Apart.{AreJumps, AreActorSteps, IsSource, are_of, calls_after, is_inside, is_journals, last_word, past_of, source_past}
use Rattle.run_laws.specs.Fitting.{FitApart, are_raised, has_time, is_earlier, is_after_jump, jumps, is_ordered}
use Rattle.sleep_model.specs.Legal.{is_finished, is_idle, next_time, waiting}
use Rattle.sleep_model.specs.Due.{have_all_exited}
use Rattle.sleep_model.specs.declared.log.LogEnd.TheVariants.{Stuck}
use Rattle.run_laws.specs.Merging.{AreLegalApart}
use Rattle.run_laws.proofs.Fits.{lists_merge}
use Rattle.run_laws.specs.Owned.{IsOwnList}
use Rattle.run_laws.proofs.Lists.{all_append, all_head, all_more, all_reverse, all_tail, filter_reverse}
use Rattle.run_laws.specs.Acts.{Made}
use Rattle.run_laws.specs.Invariant.{AllOf, EachJump, RunInvariant, InvariantEnds, InvariantMerges, IsWritten, falls, follows, is_above, is_ordered_with}
use Rattle.run_laws.specs.ClosedOver.{IsInLine}
use Rattle.run_laws.proofs.ClosedOver.{all_weaker, each_source, looks_last, map_back, table_covers}

-- ---- what falls rises from its other end

rises_on : (l : List JournalEntry) (x e : JournalEntry) → rises (l ++ x ∷ []) ≡ true → is_above e x ≡ true → rises ((l ++ x ∷ []) ++ e ∷ []) ≡ true
rises_on [] x e h a = both (nat_lt x.stamp.tick e.stamp.tick && nat_le (next_position x) e.stamp.pos) true a refl
rises_on (y ∷ l) x e h a = behind y l h
  where
    behind : (y : JournalEntry) (l : List JournalEntry) → rises_after y (l ++ x ∷ []) ≡ true → rises_after y ((l ++ x ∷ []) ++ e ∷ []) ≡ true
    behind y [] h =
        both (nat_lt y.stamp.tick x.stamp.tick && nat_le (next_position y) x.stamp.pos) (rises_after x (e ∷ []))
        (both_left (nat_lt y.stamp.tick x.stamp.tick && nat_le (next_position y) x.stamp.pos) true h)
        (both (nat_lt x.stamp.tick e.stamp.tick && nat_le (next_position x) e.stamp.pos) true a refl)
    behind y (z ∷ l) h =
        both (nat_lt y.stamp.tick z.stamp.tick && nat_le (next_position y) z.stamp.pos) (rises_after z ((l ++ x ∷ []) ++ e ∷ []))
        (both_left (nat_lt y.stamp.tick z.stamp.tick && nat_le (next_position y) z.stamp.pos) (rises_after z (l ++ x ∷ [])) h)
        (behind z l (both_right (nat_lt y.stamp.tick z.stamp.tick && nat_le (next_position y) z.stamp.pos) (rises_after z (l ++ x ∷ [])) h))

pub falling_rises : (l : List JournalEntry) → falls l ≡ true → rises (reverse l) ≡ true
falling_rises [] h = refl
falling_rises (e ∷ []) h = refl
falling_rises (e ∷ x ∷ l) h =
    ap rises (reverse-append (e ∷ []) (x ∷ l) ∙ ap (λ (k : List JournalEntry). k ++ e ∷ []) (reverse-append (x ∷ []) l))
    ∙ rises_on (reverse l) x e
    (ap rises (sym (reverse-append (x ∷ []) l)) ∙ falling_rises (x ∷ l) (both_right (follows e (x ∷ l)) (falls (x ∷ l)) h))
    (both_left (follows e (x ∷ l)) (falls (x ∷ l)) h)

-- ---- lists of histories, by what each has

histories_all : (q : List SourceEntry → Bool) (hs : List (List SourceEntry)) → ((s : ℕ) → q (get_or hs s []) ≡ true) → list_all q hs ≡ true
histories_all q [] h = refl
histories_all q (x ∷ hs) h = all_more q x hs (h 0) (histories_all q hs (λ s. h (suc s)))

all_unmapped : (q : JournalEntry → Bool) (l : List SourceEntry) → list_all q (map of_source l) ≡ true → list_all (λ e. q (of_source e)) l ≡ true
all_unmapped q [] h = refl
all_unmapped q (x ∷ l) h = all_more (λ e. q (of_source e)) x l (all_head q (of_source x) (map of_source l) h) (all_unmapped q l (all_tail q (of_source x) (map of_source l) h))

each_of : (i : ℕ) (hs : List (List SourceEntry)) → ((k : ℕ) → list_all (λ e. is_of (i + k) (class_of e.entry.kind)) (map of_source (get_or hs k [])) ≡ true) → are_of i hs ≡ true
each_of i [] h = refl
each_of i (x ∷ hs) h =
    both (list_all (λ e. is_of i (class_of e.entry.kind)) x) (are_of (suc i) hs)
    (all_unmapped (λ e. is_of i (class_of e.entry.kind)) x (subst (λ (n : ℕ). list_all (λ e. is_of n (class_of e.entry.kind)) (map of_source x) ≡ true) start (h 0)))
    (each_of (suc i) hs (λ k. subst (λ (n : ℕ). list_all (λ e. is_of n (class_of e.entry.kind)) (map of_source (get_or hs k [])) ≡ true) (on k) (h (suc k))))
  where
    start : i + 0 ≡ i
    start = omega arith

    on : (k : ℕ) → i + suc k ≡ suc i + k
    on k = omega arith

-- tests of each by each may be exchanged
all_swap : (r : JournalEntry → JournalEntry → Bool) (xs ys : List JournalEntry) → list_all (λ y. list_all (λ x. r x y) xs) ys ≡ true → list_all (λ x. list_all (r x) ys) xs ≡ true
all_swap r [] ys h = refl
all_swap r (x ∷ xs) ys h =
    all_more (λ x. list_all (r x) ys) x xs (all_weaker (λ y. list_all (λ x. r x y) (x ∷ xs)) (r x) ys (λ y g. all_head (λ x. r x y) x xs g) h)
    (all_swap r xs ys (all_weaker (λ y. list_all (λ x. r x y) (x ∷ xs)) (λ y. list_all (λ x. r x y) xs) ys (λ y g. all_tail (λ x. r x y) x xs g) h))

-- ---- small facts

no_jump : (s : ℕ) (p : EntryClass) → is_of s p ≡ true → is_jump p ≡ false
no_jump s OfTime h = absurd (cc)
no_jump s OfJournal h = refl
no_jump s (Notes t c) h = refl
no_jump s (Moves t x) h = refl

any_onto : (q : JournalEntry → Bool) (xs ys : List JournalEntry) → list_any q xs ≡ true → list_any q (xs ++ ys) ≡ true
any_onto q [] ys h = absurd (let bad : false ≡ true = h in cc)
any_onto q (x ∷ xs) ys h = by (q x) h (any_onto q xs ys)
  where
    by : (b : Bool) → b || list_any q xs ≡ true → (list_any q xs ≡ true → list_any q (xs ++ ys) ≡ true) → b || list_any q (xs ++ ys) ≡ true
    by true h rest = refl
    by false h rest = rest h

any_last : (q : JournalEntry → Bool) (xs : List JournalEntry) (x : JournalEntry) → q x ≡ true → list_any q (xs ++ x ∷ []) ≡ true
any_last q [] x h = ap (λ (b : Bool). b || false) h
any_last q (y ∷ xs) x h = by (q y) (any_last q xs x h)
  where
    by : (b : Bool) → list_any q (xs ++ x ∷ []) ≡ true → b || list_any q (xs ++ x ∷ []) ≡ true
    by true rest = refl
    by false rest = rest

any_reverse : (q : JournalEntry → Bool) (l : List JournalEntry) → list_any q l ≡ true → list_any q (reverse l) ≡ true
any_reverse q [] h = h
any_reverse q (x ∷ l) h = ap (list_any q) (reverse-append (x ∷ []) l) ∙ by (q x) refl h (any_reverse q l)
  where
    by : (b : Bool) → q x ≡ b → b || list_any q l ≡ true → (list_any q l ≡ true → list_any q (reverse l) ≡ true) → list_any q (reverse l ++ x ∷ []) ≡ true
    by true is h rest = any_last q (reverse l) x is
    by false is h rest = any_onto q (reverse l) (x ∷ []) (rest h)

pub past_back : (l : List JournalEntry) → past_of (reverse l) ≡ unstamped l
past_back l = ap (λ (k : List Entry). reverse k) (map_back l) ∙ reverse-reverse (map (λ (e : JournalEntry). e.entry) l)

-- ---- the whole

module _ (m : Machine) (made : Made) (journal : List JournalEntry) (hs : List (List SourceEntry)) (invariant : RunInvariant m made) (w : IsWritten m made journal hs) where
  abbrev all : List JournalEntry
  all = all_entries journal hs

  -- what each entry passes, all pass
  pub shown : (q : JournalEntry → Bool) → AllOf q made → list_all q all ≡ true
  shown q h =
      all_append q journal (sources_entries hs)
      (subst (λ (l : List JournalEntry). list_all q l ≡ true) (sym w.journal_is) (all_reverse q made.journal h.0))
      (each_source q hs (λ s. subst (λ (l : List JournalEntry). list_all q l ≡ true) (sym (w.histories_are s)) (all_reverse q (made.of s) (h.1 s))))

  own_list : (who : Actor) → IsOwnList m who (reverse (made.own who)) journal hs
  own_list who = record {
    rising = falling_rises (made.own who) (invariant.own_fall who);
    there = all_reverse (λ (e : JournalEntry). is_there m (class_of e.entry.kind)) (made.own who) (invariant.there who);
    in_journal =
        filter_reverse is_journals (made.own who) ∙ ap (λ (l : List JournalEntry). reverse l) (invariant.steps.of_actors who).in_journal
        ∙ sym (filter_reverse (λ (e : JournalEntry). is_same e.entry.actor who) made.journal) ∙ ap (entries_of who) (sym w.journal_is);
    in_histories = λ s.
        filter_reverse (λ (e : JournalEntry). is_of s (class_of e.entry.kind)) (made.own who) ∙ ap (λ (l : List JournalEntry). reverse l) ((invariant.steps.of_actors who).in_sources s)
        ∙ sym (filter_reverse (λ (e : JournalEntry). is_same e.entry.actor who) (made.of s)) ∙ ap (entries_of who) (sym (w.histories_are s));
  }

  right_to : (j : JournalEntry) → AllOf (is_ordered_with j) made → list_all (λ e. is_ordered e j) all ≡ true
  right_to j h = all_weaker (is_ordered_with j) (λ e. is_ordered e j) all (λ e a. more (jumps e) (not (jumps j)) (is_earlier e j) (is_after_jump e j) a) (shown (is_ordered_with j) h)
    where
      more : (a b c d : Bool) → a || c || d ≡ true → a || b || c || d ≡ true
      more true b c d h = refl
      more false true c d h = refl
      more false false c d h = h

  right_to_none : (j : JournalEntry) → jumps j ≡ false → list_all (λ e. is_ordered e j) all ≡ true
  right_to_none j plain = every all
    where
      more : (a b c d : Bool) → b ≡ false → a || not b || c || d ≡ true
      more true b c d h = refl
      more false true c d h = absurd (let bad : true ≡ false = h in cc)
      more false false c d h = refl

      every : (l : List JournalEntry) → list_all (λ e. is_ordered e j) l ≡ true
      every [] = refl
      every (e ∷ l) = all_more (λ e. is_ordered e j) e l (more (jumps e) (jumps j) (is_earlier e j) (is_after_jump e j) plain) (every l)

  right_in : (l : List JournalEntry) → EachJump (λ jump. AllOf (is_ordered_with jump) made) l → list_all (λ j. list_all (λ e. is_ordered e j) all) l ≡ true
  right_in [] h = refl
  right_in (j ∷ l) h = all_more (λ j. list_all (λ e. is_ordered e j) all) j l (by (jumps j) refl) (right_in l h.1)
    where
      by : (b : Bool) → jumps j ≡ b → list_all (λ e. is_ordered e j) all ≡ true
      by true is = right_to j (h.0 is)
      by false is = right_to_none j is

  sides : list_all (λ e. list_all (is_ordered e) all) all ≡ true
  sides =
      all_swap is_ordered all all
      (shown (λ j. list_all (λ e. is_ordered e j) all) (
        right_in made.journal invariant.sides,
        λ s. all_weaker (λ j. is_of s (class_of j.entry.kind)) (λ j. list_all (λ e. is_ordered e j) all) (made.of s) (λ j is. right_to_none j (no_jump s (class_of j.entry.kind) is)) (invariant.sourced s),
      ))

  times : list_all (has_time all) all ≡ true
  times = all_weaker (has_time made.journal) (has_time all) all more (shown (has_time made.journal) invariant.times)
    where
      more : (e : JournalEntry) → has_time made.journal e ≡ true → has_time all e ≡ true
      more e h = by (jumps e) (e.entry.time == 0) h
        where
          by : (a b : Bool) → a || b || list_any (λ other. jumps other && (other.entry.time == e.entry.time)) made.journal ≡ true
              → a || b || list_any (λ other. jumps other && (other.entry.time == e.entry.time)) all ≡ true
          by true b h = refl
          by false true h = refl
          by false false h =
              any_onto (λ other. jumps other && (other.entry.time == e.entry.time)) journal (sources_entries hs)
              (subst (λ (l : List JournalEntry). list_any (λ other. jumps other && (other.entry.time == e.entry.time)) l ≡ true) (sym w.journal_is)
              (any_reverse (λ other. jumps other && (other.entry.time == e.entry.time)) made.journal h))

  fit : (answer : EventNow) → IsInLine answer journal hs → FitApart m journal hs (λ who. reverse (made.own who))
  fit answer line = record {
    kept = subst (λ (l : List JournalEntry). list_all is_journals l ≡ true) (sym w.journal_is) (all_reverse is_journals made.journal invariant.kept);
    sourced = each_of 0 hs (λ k. let start : 0 + k ≡ k = omega arith in
        subst (λ (l : List JournalEntry). list_all (λ e. is_of (0 + k) (class_of e.entry.kind)) l ≡ true) (sym (w.histories_are k))
        (all_reverse (λ (e : JournalEntry). is_of (0 + k) (class_of e.entry.kind)) (made.of k)
        (subst (λ (n : ℕ). list_all (λ e. is_of n (class_of e.entry.kind)) (made.of k) ≡ true) (sym start) (invariant.sourced k))));
    count = w.count;
    short = w.short;
    journal_rises = ap rises w.journal_is ∙ falling_rises made.journal invariant.journal_falls;
    histories_rise = histories_all (λ history. rises (map of_source history)) hs (λ s. ap rises (w.histories_are s) ∙ falling_rises (made.of s) (invariant.sources_fall s));
    actors = own_list;
    counted = line.counted;
    chained = line.chained;
    looks = line.looks;
    ticks = shown (λ e. nat_lt 0 e.stamp.tick) invariant.ticks;
    raised = ap (λ (l : List JournalEntry). are_raised 0 0 (filter jumps l)) w.journal_is ∙ invariant.raised;
    sides = sides;
    times = times;
  }

  journal_back : past_of journal ≡ unstamped made.journal
  journal_back = ap past_of w.journal_is ∙ past_back made.journal

  pub source_back : (s : ℕ) → source_past hs s ≡ unstamped (made.of s)
  source_back s = ap past_of (w.histories_are s) ∙ past_back (made.of s)

  legal : AreLegalApart m journal hs (λ who. reverse (made.own who))
  legal =
      let sources : source_past hs ≡ (λ (s : ℕ). unstamped (made.of s)) = λ i s. source_back s i in
      record {
        of_journal = subst (JournalPart m) (sym journal_back) invariant.of_journal;
        of_sources = λ s. subst IsSource (sym (source_back s)) (invariant.steps.of_sources s);
        of_actors = λ who.
            subst (λ (past : List Entry). AreActorSteps who (λ k. calls_after m who k past) (is_inside (length m.sources + 1) (source_past hs) who) (past_of (reverse (made.own who)))) (sym journal_back)
            (subst (λ (of : ℕ → List Entry). AreActorSteps who (λ k. calls_after m who k (unstamped made.journal)) (is_inside (length m.sources + 1) of who) (past_of (reverse (made.own who)))) (sym sources)
            (subst (λ (own : List Entry). AreActorSteps who (λ k. calls_after m who k (unstamped made.journal)) (is_inside (length m.sources + 1) (λ s. unstamped (made.of s)) who) own) (sym (past_back (made.own who)))
            (invariant.steps.of_actors who).steps));
        of_jumps =
            subst (λ (past : List Entry). AreJumps m past (source_past hs)) (sym journal_back)
            (subst (λ (of : ℕ → List Entry). AreJumps m (unstamped made.journal) of) (sym sources) invariant.of_jumps);
      }

pub merges : InvariantMerges
merges m made steps looked answer journal hs invariant w closed_over = (
  fit m made journal hs invariant w answer (table_covers steps looked answer journal hs closed_over),
  legal m made journal hs invariant w,
)

pub ends_legal : InvariantEnds
ends_legal m made steps looked answer now journal hs log invariant w closed_over last is =
    let shown = merges m made steps looked answer journal hs invariant w closed_over in
    let merged = lists_merge m journal hs (λ who. reverse (made.own who)) log shown.0 shown.1 is in
    let word : now ≡ last_word journal hs = looks_last steps looked answer now journal hs closed_over last ∙ sym (table_covers steps looked answer journal hs closed_over).last in
    let past = journal_back m made journal hs invariant w in
    let sources : source_past hs ≡ (λ (s : ℕ). unstamped (made.of s)) = λ i s. source_back m made journal hs invariant w s i in (
      merged.0,
      λ over. merged.1 (record {
        says = over.says;
        finished = (λ i. is_finished m (past i) (sources i) (sym word i)) ∙ over.finished;
      }),
      λ over. merged.2 (record {
        says = over.says ∙ (λ i. Stuck (waiting m (sym past i) (word i)));
        left = (λ i. have_all_exited m (past i)) ∙ over.left;
        idle = (λ i. is_idle m (past i) (sources i) (sym word i)) ∙ over.idle;
        timeless = (λ i. next_time m (past i) (sources i)) ∙ over.timeless;
      }),
    )
