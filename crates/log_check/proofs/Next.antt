-- An entry of the journal that is the next, after entries that keep all rules, keeps them, too.
use Rattle.std.proofs.Common.{◌≡◌, ◌+◌, ◌&&◌, ◌∙◌, ℕ, true, List, [], ◌∷◌, length, cond, refl, sym, ap₂, subst, nat_le}
use Rattle.std.specs.List.{list_all, range_with_len}
use Rattle.sleep_model.specs.declared.entry.Entry.{Entry}
use Rattle.sleep_model.specs.declared.machine.Machine.{Machine}
use Rattle.sleep_model.specs.declared.progress.Due.TheVariants.{Makes}
use Rattle.sleep_model.specs.declared.word.EventNow.{EventNow}
use Rattle.sleep_model.specs.Due.{due}
use Rattle.sleep_model.specs.Legal.{HistoriesFit, IsLegal, IsOnTime, JointStep, JournalPart, JournalStep, OwnStep, is_short, is_there}
use Rattle.sleep_model.specs.EntryClasses.{EntryClass, OfJournal, is_in_journal, journal, class_of}
use Rattle.rule_definitions.specs.Entry.{KeepsEach, KeepsEntry}
use Rattle.sleep_model.specs.Sources.{history, is_of, most_entries}
use Rattle.log_rules.proofs.Inside.{time_journal}
use Rattle.log_rules.proofs.Legal.{entries, lists}
use Rattle.check_rules.specs.Next.{IsNextEntry}

module _ (m : Machine) (past : List Entry) (e : Entry) (l : IsLegal m past) (n : IsNextEntry m past e) where
  of_journal : OfJournal ≡ class_of e.kind
  of_journal = sym n.placed.0

  step : JournalStep m (journal past) e OfJournal
  step = (
    subst (λ (w : EventNow). due m (journal past) e.actor w ≡ Makes e.kind) (sym n.placed.1.0) n.made,
    subst (IsOnTime past e.time) n.placed.0 n.placed.1.1 ∙ sym (time_journal past),
  )

  in_journal : JournalPart m (journal (e ∷ past))
  in_journal = subst (λ (p : EntryClass). JournalPart m (cond (is_in_journal p) (e ∷ journal past) (journal past))) of_journal (subst (JournalStep m (journal past) e) of_journal step, l.journal)

  there : list_all (λ x. is_there m (class_of x.kind)) (e ∷ past) ≡ true
  there = subst (λ (p : EntryClass). (is_there m p && list_all (λ x. is_there m (class_of x.kind)) past) ≡ true) of_journal l.histories.there

  -- no history grows
  same : (s : ℕ) → is_short (e ∷ past) s ≡ is_short past s
  same s = subst (λ (p : EntryClass). nat_le (length (cond (is_of s p) (e ∷ history s past) (history s past))) most_entries ≡ is_short past s) of_journal refl

  all_same : (xs : List ℕ) → list_all (is_short (e ∷ past)) xs ≡ list_all (is_short past) xs
  all_same [] = refl
  all_same (x ∷ xs) = ap₂ (λ a b. a && b) (same x) (all_same xs)

  fits : HistoriesFit m (e ∷ past)
  fits = record { there = there; short = all_same (range_with_len 0 (length m.sources + 1)) ∙ l.histories.short }

  legal : IsLegal m (e ∷ past)
  legal = record {
    journal = in_journal;
    sources = (subst (OwnStep past e) of_journal tt, l.sources);
    histories = fits;
    placed = (n.placed.1.0, n.placed.1.1, l.placed);
    joint = (subst (JointStep m past e) of_journal (n.turn, n.outside), l.joint);
  }

pub keeps_next : (m : Machine) (past : List Entry) (e : Entry) → KeepsEach m past → IsNextEntry m past e → KeepsEntry m past e
keeps_next m past e k n =
    let l = (lists m past).legal k in
    (entries m past e l).keeps (legal m past e l n)
