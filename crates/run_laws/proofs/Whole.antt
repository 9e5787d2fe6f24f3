-- A journal and histories that fit, each legal by itself, merge to a legal log; and to one that is over if they are.
use Rattle.std.proofs.Common.{◌≡◌, ◌∙◌, ◌+◌, ℕ, Bool, true, false, List, [], ◌∷◌, length, map, filter, reverse, cond, Option, Some, None, refl, sym, ap, subst}
use Rattle.std.specs.Prelude.{is_some}
use Rattle.std.specs.List.{range_with_len}
use Rattle.sleep_model.specs.declared.word.WordKind.{WordKind}
use Rattle.sleep_model.specs.declared.entry.Actor.{Actor}
use Rattle.sleep_model.specs.declared.entry.Entry.{Entry}
use Rattle.sleep_model.specs.declared.entry.JournalEntry.{JournalEntry}
use Rattle.sleep_model.specs.declared.entry.SourceEntry.{SourceEntry}
use Rattle.sleep_model.specs.declared.log.Log.{Log}
use Rattle.sleep_model.specs.declared.log.LogEnd.TheVariants.{Stuck}
use Rattle.sleep_model.specs.declared.machine.Machine.{Machine}
use Rattle.sleep_model.specs.Due.{have_all_exited}
use Rattle.sleep_model.specs.Legal.{IsFinishedLog, IsLegal, IsLegalLog, IsStuckAfter, IsStuckLog, JournalPart, is_finished, is_finished_after, is_idle, next_time, waiting}
use Rattle.sleep_model.specs.Merge.{all_entries, is_jump, stamped}
use Rattle.sleep_model.specs.Numbers.{after_step, numbers, time_after, time_of, word_step}
use Rattle.sleep_model.specs.EntryClasses.{EntryClass, OfJournal, Notes, Moves, OfTime, class_of, is_in_journal, journal}
use Rattle.sleep_model.specs.Path.{is_same}
use Rattle.sleep_model.specs.Sources.{history, stats_at}
use Rattle.run_laws.specs.Apart.{AreJumps, AreActorSteps, IsSource, calls_after, is_inside, last_word, own_entries, own_of, past_of, source_past}
use Rattle.run_laws.specs.Merging.{AreLegalApart, AreLists, IsFinishedApart, IsMergeOf, IsStuckApart, MergesToFinished, MergesToLegal, MergesToStuck}
use Rattle.run_laws.proofs.Joint.{joint}
use Rattle.run_laws.proofs.Picks.{history_of_merge, journal_of_merge, picked}
use Rattle.run_laws.proofs.Placing.{chain_numbers, other_keeps, placed, timed_clock}
use Rattle.run_laws.proofs.Sourced.{all_there, histories_fit, sources_from}

-- ---- what follows from the parts by themselves

unkept : (p : EntryClass) → is_in_journal p ≡ false → is_jump p ≡ false
unkept OfJournal h = absurd (cc)
unkept (Notes s c) h = refl
unkept (Moves s x) h = refl
unkept OfTime h = absurd (cc)

-- the time is the journal's
time_journal : (past : List Entry) → time_of past ≡ time_of (journal past)
time_journal [] = refl
time_journal (e ∷ past) = by (is_in_journal (class_of e.kind)) refl (time_journal past)
  where
    by : (b : Bool) → is_in_journal (class_of e.kind) ≡ b → time_of past ≡ time_of (journal past)
        → time_after e.kind e.time (time_of past) ≡ time_of (cond b (e ∷ journal past) (journal past))
    by true is rest = ap (time_after e.kind e.time) rest
    by false is rest = other_keeps e.kind e.time (time_of past) (unkept (class_of e.kind) is) ∙ rest

-- the word is that of the steps
word_steps : (past : List Entry) → numbers past ≡ numbers (filter (λ e. is_some (word_step e.kind)) past)
word_steps [] = refl
word_steps (e ∷ past) = by (word_step e.kind) refl (word_steps past)
  where
    by : (o : Option WordKind) → word_step e.kind ≡ o → numbers past ≡ numbers (filter (λ e. is_some (word_step e.kind)) past)
        → after_step o (numbers past)
        ≡ numbers (cond (is_some o) (e ∷ filter (λ e. is_some (word_step e.kind)) past) (filter (λ e. is_some (word_step e.kind)) past))
    by None is rest = rest
    by (Some x) is rest = ap (after_step (Some x)) rest ∙ ap (λ (o : Option WordKind). after_step o (numbers (filter (λ e. is_some (word_step e.kind)) past))) (sym is)

-- ---- the whole

module _ (m : Machine) (entries : List JournalEntry) (hs : List (List SourceEntry)) (lists : AreLists m entries hs) where
  journal_is : journal (past_of (stamped entries hs)) ≡ past_of entries
  journal_is = journal_of_merge entries hs lists.kept lists.sourced lists.fit.journal_rises

  history_is : (s : ℕ) → history s (past_of (stamped entries hs)) ≡ source_past hs s
  history_is s = history_of_merge entries hs lists.kept lists.sourced lists.fit.histories_rise s

  histories_are : (λ (s : ℕ). history s (past_of (stamped entries hs))) ≡ source_past hs
  histories_are = λ i s. history_is s i

  word_is : numbers (past_of (stamped entries hs)) ≡ last_word entries hs
  word_is = word_steps (past_of (stamped entries hs)) ∙ ap numbers (picked (λ e. is_some (word_step e.kind)) (all_entries entries hs))

  own_is : (who : Actor) → own_of who (past_of (stamped entries hs)) ≡ past_of (own_entries who entries hs)
  own_is who = picked (λ e. is_same e.actor who) (all_entries entries hs)

  legal : AreLegalApart m entries hs (λ who. own_entries who entries hs) → IsLegal m (past_of (stamped entries hs))
  legal apart =
      let there = all_there m entries hs lists.kept lists.sourced lists.count in
      let clock = timed_clock (stamped entries hs) lists.fit.timed in
      let words = chain_numbers (stamped entries hs) lists.fit.chained in
      let sources : (s : ℕ) → IsSource (history s (past_of (stamped entries hs))) = λ s. subst IsSource (sym (history_is s)) (apart.of_sources s) in
      let actors : (who : Actor) → AreActorSteps who (λ k. calls_after m who k (journal (past_of (stamped entries hs)))) (is_inside (length m.sources + 1) (λ s. history s (past_of (stamped entries hs))) who) (own_of who (past_of (stamped entries hs))) = λ who.
      subst (λ (own : List Entry). AreActorSteps who (λ k. calls_after m who k (journal (past_of (stamped entries hs)))) (is_inside (length m.sources + 1) (λ s. history s (past_of (stamped entries hs))) who) own) (sym (own_is who))
      (subst (λ (j : List Entry). AreActorSteps who (λ k. calls_after m who k j) (is_inside (length m.sources + 1) (λ s. history s (past_of (stamped entries hs))) who) (past_of (own_entries who entries hs))) (sym journal_is)
      (subst (λ (of : ℕ → List Entry). AreActorSteps who (λ k. calls_after m who k (past_of entries)) (is_inside (length m.sources + 1) of who) (past_of (own_entries who entries hs))) (sym histories_are) (apart.of_actors who))) in
      let jumps : AreJumps m (journal (past_of (stamped entries hs))) (λ s. history s (past_of (stamped entries hs))) =
      subst (λ (j : List Entry). AreJumps m j (λ s. history s (past_of (stamped entries hs)))) (sym journal_is)
      (subst (λ (of : ℕ → List Entry). AreJumps m (past_of entries) of) (sym histories_are) apart.of_jumps) in
      record {
        journal = subst (JournalPart m) (sym journal_is) apart.of_journal;
        sources = sources_from (past_of (stamped entries hs)) sources;
        histories = histories_fit m (past_of (stamped entries hs)) hs there history_is lists.short;
        placed = placed (past_of (stamped entries hs)) words clock;
        joint = joint m (past_of (stamped entries hs)) actors sources jumps clock words there;
      }

  finished_is : is_finished_after m (past_of (stamped entries hs)) ≡ is_finished m (past_of entries) (source_past hs) (last_word entries hs)
  finished_is = λ i. is_finished m (journal_is i) (histories_are i) (word_is i)

  stuck : (log : Log) → IsStuckApart m entries hs log → IsStuckAfter m (past_of (stamped entries hs))
  stuck log apart = record {
    left = ap (have_all_exited m) journal_is ∙ apart.left;
    idle = (λ i. is_idle m (journal_is i) (histories_are i) (word_is i)) ∙ apart.idle;
    timeless = (λ i. next_time m (journal_is i) (histories_are i)) ∙ apart.timeless;
  }

  merged_legal : (log : Log) → AreLegalApart m entries hs (λ who. own_entries who entries hs) → IsMergeOf m entries hs log → IsLegalLog m log
  merged_legal log apart is =
      let whole_is : past_of (stamped entries hs) ≡ reverse log.entries = ap (λ (l : List Entry). reverse l) (sym is.entries) in
      let stats : log.stats ≡ map (λ s. stats_at (history s (past_of (stamped entries hs))) (time_of (past_of (stamped entries hs)))) (range_with_len 0 (length m.sources + 1)) =
      is.stats ∙ (λ i. map (λ s. stats_at (sym (history_is s) i) (sym (time_journal (past_of (stamped entries hs)) ∙ ap time_of journal_is) i)) (range_with_len 0 (length m.sources + 1))) in
      record {
        legal = subst (IsLegal m) whole_is (legal apart);
        stats = subst (λ (past : List Entry). log.stats ≡ map (λ s. stats_at (history s past) (time_of past)) (range_with_len 0 (length m.sources + 1))) whole_is stats;
      }

  merged_finished : (log : Log) → IsMergeOf m entries hs log → IsFinishedApart m entries hs log → IsFinishedLog m log
  merged_finished log is apart =
      let whole_is : past_of (stamped entries hs) ≡ reverse log.entries = ap (λ (l : List Entry). reverse l) (sym is.entries) in
      record {
        says = apart.says;
        finished = subst (λ (past : List Entry). is_finished_after m past ≡ true) whole_is (finished_is ∙ apart.finished);
      }

  merged_stuck : (log : Log) → IsMergeOf m entries hs log → IsStuckApart m entries hs log → IsStuckLog m log
  merged_stuck log is apart =
      let whole_is : past_of (stamped entries hs) ≡ reverse log.entries = ap (λ (l : List Entry). reverse l) (sym is.entries) in
      let says : log.end ≡ Stuck (waiting m (journal (past_of (stamped entries hs))) (numbers (past_of (stamped entries hs)))) =
      apart.says ∙ (λ i. Stuck (waiting m (sym journal_is i) (sym word_is i))) in
      record {
        says = subst (λ (past : List Entry). log.end ≡ Stuck (waiting m (journal past) (numbers past))) whole_is says;
        stuck = subst (IsStuckAfter m) whole_is (stuck log apart);
      }

pub merges_to_legal : MergesToLegal
merges_to_legal m entries hs log lists apart is = merged_legal m entries hs lists log apart is

pub merges_to_finished : MergesToFinished
merges_to_finished m entries hs log lists is apart = merged_finished m entries hs lists log is apart

pub merges_to_stuck : MergesToStuck
merges_to_stuck m entries hs log lists is apart = merged_stuck m entries hs lists log is apart
