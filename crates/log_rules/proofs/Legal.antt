-- Legal lists of entries: one more is legal exactly if it keeps all rules.
use Rattle.std.proofs.Common.{◌≡◌, ◌<◌, ◌+◌, ◌∙◌, ℕ, suc, arith, nat_le, Bool, true, false, ◌&&◌, List, [], ◌∷◌, length, Option, Some, None, cond, refl, sym, ap, subst}
use Rattle.std.proofs.lemmas.Bool.Decides.{nat_tests}
use Rattle.std.specs.List.{list_all, range_with_len}
use Rattle.sleep_model.specs.declared.entry.Actor.{Actor}
use Rattle.sleep_model.specs.declared.entry.Entry.{Entry}
use Rattle.sleep_model.specs.declared.entry.Kind.{Kind}
use Rattle.sleep_model.specs.declared.entry.Kind.TheVariants as kind
use Rattle.sleep_model.specs.declared.machine.Machine.{Machine}
use Rattle.sleep_model.specs.declared.word.EventNow.{EventNow}
use Rattle.sleep_model.specs.declared.word.WordKind.{WordKind}
use Rattle.sleep_model.specs.Calls.{is_left}
use Rattle.sleep_model.specs.Legal.{IsLegal, is_short, IsOwnTurn, IsOnTime, HistoriesFit, JournalPart, JournalStep, JointStep, OwnStep}
use Rattle.sleep_model.specs.Numbers.{numbers}
use Rattle.sleep_model.specs.EntryClasses.{EntryClass, OfJournal, Notes, Moves, OfTime, class_of, is_in_journal, journal}
use Rattle.sleep_model.specs.Path.{maker, is_actor}
use Rattle.sleep_model.specs.Sources.{history, is_of, most_entries, owed, caller, IsNext, SourceStep}
use Rattle.sleep_model.specs.Table.{stage_of}
use Rattle.sleep_laws.proofs.LockHolding.{lock_agrees}
use Rattle.rule_definitions.specs.All.{KeepsAll, KeepsMost}
use Rattle.rule_definitions.specs.Entry.{KeepsPart, KeepsEach, OneForEntries, OneForLists}
use Rattle.rule_definitions.specs.Law.{IsDue}
use Rattle.rule_definitions.specs.Path.{PathOf}
use Rattle.rule_definitions.specs.Questions.{is_maker}
use Rattle.rule_definitions.specs.Freezer.{GoesOnEntry}
use Rattle.rule_definitions.specs.Steps.{is_inside}
use Rattle.rule_definitions.specs.Walk.{ReportsMade, is_in_callback}
use Rattle.log_rules.proofs.Callbacks.{ends_own}
use Rattle.log_rules.proofs.Facts.{never}
use Rattle.log_rules.proofs.Inside.{JournalIf, grown, earlier, and_left, and_right, newest, inside_after, time_journal, time_makes_none, actor_same, same_actor}
use Rattle.log_rules.proofs.Makers.{all}
use Rattle.log_rules.proofs.Quiet.{note_reports, note_thawed, step_thawed_actor}
use Rattle.log_rules.proofs.Turns.{at_turn, freezes_back, freezes_then, goes_on, inside_turn, note_turn}

-- ---- legality of one entry, by its class

-- what makes one more entry of that class legal
record Pieces (m : Machine) (past : List Entry) (e : Entry) (p : EntryClass) : Type 0 where
  in_journal : JournalIf m past e p
  own : OwnStep past e p
  fits : HistoriesFit m (e ∷ past)
  now : e.now ≡ numbers past
  time : IsOnTime past e.time p
  joint : JointStep m past e p

module _ (m : Machine) (past : List Entry) (e : Entry) where
  pieces : IsLegal m (e ∷ past) → Pieces m past e (class_of e.kind)
  pieces h = record {
    in_journal = newest m past e h.journal;
    own = h.sources.0;
    fits = h.histories;
    now = h.placed.0;
    time = h.placed.1;
    joint = h.joint.0;
  }

  legal : IsLegal m past → Pieces m past e (class_of e.kind) → IsLegal m (e ∷ past)
  legal l h = record {
    journal = by_part (class_of e.kind) refl h.in_journal;
    sources = (h.own, l.sources);
    histories = h.fits;
    placed = (h.now, h.time, l.placed);
    joint = (h.joint, l.joint);
  }
    where
      by_part : (p : EntryClass) → class_of e.kind ≡ p → JournalIf m past e p → JournalPart m (cond (is_in_journal p) (e ∷ journal past) (journal past))
      by_part OfJournal q h = (subst (JournalStep m (journal past) e) (sym q) h, l.journal)
      by_part OfTime q h = (subst (JournalStep m (journal past) e) (sym q) h, l.journal)
      by_part (Notes s c) q h = l.journal
      by_part (Moves s x) q h = l.journal

  -- ---- what is legal keeps all rules

  reports_made : (k : Kind) → IsOwnTurn m (journal past) (λ s. history s past) e.actor → ReportsMade m past e.actor k
  reports_made (kind.End p d r) h = h
  reports_made _ h = tt

  left_next : (x : WordKind) (steps : List WordKind) → IsNext x steps → is_left steps ≡ true
  left_next x [] h = absurd h
  left_next x (y ∷ ys) h = refl

  -- who makes the step that its source owes is inside the call
  own_inside : (x : WordKind) (s : ℕ) → IsNext x (owed (history s past)) × (caller (history s past) ≡ Some e.actor) → is_inside (history s past) e.actor ≡ true
  own_inside x s h = rw (left_next x (owed (history s past)) h.0) (rw h.1 (same_actor e.actor))

  keeps : IsLegal m past → (p : EntryClass) → Pieces m past e p → KeepsPart m past e p
  keeps l OfJournal h =
      let k : KeepsAll m (journal past) (numbers past) e.actor e.kind = subst (λ (w : EventNow). KeepsAll m (journal past) w e.actor e.kind) h.now ((all m (journal past) e.now e.actor e.kind).keeps l.journal h.in_journal.0) in
      record {
        links = k.most.links;
        numbers = (h.now, h.time);
        attempts = k.most.attempts;
        reads = k.most.reads;
        walk = (k.most.walk, reports_made e.kind h.joint.0, ends_own m (journal past) (numbers past) e.actor e.kind l.journal k.most);
        skip = k.most.skip;
        runtime = k.most.runtime;
        owed = k.owed;
        freezer = (freezes_then m past e.actor (is_maker (journal past) e.actor) e.kind (at_turn m past e.actor h.joint.0 h.joint.1) k.most.freezer.0, k.most.freezer.1);
        path = k.most.path;
        answers = k.most.answers;
        restored = k.restored;
        steps = (k.most.steps, h.joint.0, h.joint.1);
        enabled = k.most.enabled;
        source = (tt, h.fits);
      }
  keeps l (Notes s c) h = record {
    links = tt;
    numbers = (h.now, h.time);
    attempts = tt;
    reads = tt;
    walk = λ i. h.joint.0;
    skip = tt;
    runtime = tt;
    owed = tt;
    freezer = goes_on m past e.actor (is_maker (journal past) e.actor) (note_thawed m past (grown m past l) e.actor e.kind h.joint.0 (is_maker (journal past) e.actor) refl) (note_turn m past e.actor e.kind h.joint.0);
    path = note_reports m past (grown m past l) e.actor e.kind h.joint.0 (is_maker (journal past) e.actor) refl;
    answers = tt;
    restored = tt;
    steps = (h.joint.0, h.joint.1);
    enabled = tt;
    source = (subst (λ (z : ℕ). SourceStep (history s past) z e.actor (Notes s c)) h.time h.own, h.fits);
  }
  keeps l (Moves s x) h = record {
    links = tt;
    numbers = (h.now, h.time);
    attempts = tt;
    reads = tt;
    walk = λ i. own_inside x s h.own;
    skip = tt;
    runtime = tt;
    owed = tt;
    freezer = goes_on m past e.actor (is_maker (journal past) e.actor) (step_thawed_actor m past (grown m past l) e.actor s h.joint (is_maker (journal past) e.actor) refl) (inside_turn m past (grown m past l) e.actor s (own_inside x s h.own));
    path = tt;
    answers = tt;
    restored = tt;
    steps = (own_inside x s h.own, h.own.0);
    enabled = tt;
    source = (h.own.0, h.fits);
  }
  keeps l OfTime h = record {
    links = tt;
    numbers = (h.now, h.time);
    attempts = tt;
    reads = tt;
    walk = subst (λ (x : Actor). is_in_callback m (journal past) x ≡ false) (sym h.in_journal.0) (rw (time_makes_none (maker (journal past)) (stage_of (journal past)) (lock_agrees m (journal past) l.journal).2) refl);
    skip = tt;
    runtime = tt;
    owed = tt;
    freezer = subst (λ (x : Actor). GoesOnEntry m past x (is_maker (journal past) x)) (sym h.in_journal.0) tt;
    path = subst (λ (x : Actor). PathOf m (journal past) (numbers past) (is_maker (journal past) x) e.kind) (sym h.in_journal.0) (subst (λ (b : Bool). PathOf m (journal past) (numbers past) b e.kind) (sym (time_makes_none (maker (journal past)) (stage_of (journal past)) (lock_agrees m (journal past) l.journal).2)) tt);
    answers = tt;
    restored = tt;
    steps = h.in_journal.0;
    enabled = (h.joint, subst (λ (t : ℕ). t < e.time) (time_journal past) h.in_journal.1);
    source = (tt, h.fits);
  }

  -- ---- what keeps all rules is legal

  is_caller : (who : Actor) (o : Option Actor) → is_actor who o ≡ true → o ≡ Some who
  is_caller who None i = never i
  is_caller who (Some x) i = ap Some (actor_same x who i)

  makes : IsLegal m past → (p : EntryClass) → KeepsPart m past e p → Pieces m past e p
  makes l OfJournal k =
      let kept : KeepsMost m (journal past) (numbers past) e.actor e.kind = record {
        links = k.links;
        attempts = k.attempts;
        reads = k.reads;
        walk = k.walk.0;
        skip = k.skip;
        runtime = k.runtime;
        freezer = (freezes_back m past e.actor (is_maker (journal past) e.actor) e.kind (at_turn m past e.actor k.steps.1 k.steps.2) k.freezer.0, k.freezer.1);
        path = k.path;
        answers = k.answers;
        steps = k.steps.0;
        enabled = k.enabled;
      } in
      record {
        in_journal = (subst (λ (w : EventNow). IsDue m (journal past) w e.actor e.kind) (sym k.numbers.0) ((all m (journal past) (numbers past) e.actor e.kind).makes kept), k.numbers.1 ∙ sym (time_journal past));
        own = tt;
        fits = k.source.1;
        now = k.numbers.0;
        time = k.numbers.1;
        joint = (k.steps.1, k.steps.2);
      }
  makes l (Notes s c) k = record {
    in_journal = tt;
    own = subst (λ (z : ℕ). SourceStep (history s past) z e.actor (Notes s c)) (sym k.numbers.1) k.source.0;
    fits = k.source.1;
    now = k.numbers.0;
    time = k.numbers.1;
    joint = (k.steps.0, k.steps.1);
  }
  makes l (Moves s x) k = record {
    in_journal = tt;
    own = (k.source.0, is_caller e.actor (caller (history s past)) (and_right (is_left (owed (history s past))) _ k.steps.0));
    fits = k.source.1;
    now = k.numbers.0;
    time = k.numbers.1;
    joint = inside_after m past l s e.actor k.steps.0;
  }
  makes l OfTime k = record {
    in_journal = (k.steps, subst (λ (t : ℕ). t < e.time) (sym (time_journal past)) k.enabled.1);
    own = tt;
    fits = k.source.1;
    now = k.numbers.0;
    time = k.numbers.1;
    joint = k.enabled.0;
  }

-- after legal entries one more is legal exactly if it keeps each rule
pub entries : OneForEntries
entries m past e l = record {
  keeps = λ h. keeps m past e l (class_of e.kind) (pieces m past e h);
  legal = λ k. legal m past e l (makes m past e l (class_of e.kind) k);
}

-- ---- whole lists

short_none : (xs : List ℕ) → list_all (is_short []) xs ≡ true
short_none [] = refl
short_none (x ∷ xs) = short_none xs

first : (m : Machine) → IsLegal m []
first m = record {
  journal = tt;
  sources = tt;
  histories = record { there = refl; short = short_none (range_with_len 0 (length m.sources + 1)) };
  placed = tt;
  joint = tt;
}

less : (a n : ℕ) → nat_le (suc a) n ≡ true → nat_le a n ≡ true
less a n h = grind (arith, nat_tests)

shorter : (past : List Entry) (e : Entry) (s : ℕ) → is_short (e ∷ past) s ≡ true → is_short past s ≡ true
shorter past e s h = by_source (is_of s (class_of e.kind)) h
  where
    by_source : (b : Bool) → nat_le (length (cond b (e ∷ history s past) (history s past))) most_entries ≡ true → nat_le (length (history s past)) most_entries ≡ true
    by_source true h = less (length (history s past)) most_entries h
    by_source false h = h

all_shorter : (past : List Entry) (e : Entry) (xs : List ℕ) → list_all (is_short (e ∷ past)) xs ≡ true → list_all (is_short past) xs ≡ true
all_shorter past e [] h = refl
all_shorter past e (x ∷ xs) h = both (is_short past x) _ (shorter past e x (and_left (is_short (e ∷ past) x) _ h)) (all_shorter past e xs (and_right (is_short (e ∷ past) x) _ h))
  where
    both : (a b : Bool) → a ≡ true → b ≡ true → (a && b) ≡ true
    both a b e f = rw (e, f) refl

earlier_legal : (m : Machine) (past : List Entry) (e : Entry) → IsLegal m (e ∷ past) → IsLegal m past
earlier_legal m past e h = record {
  journal = (earlier m past e (grown m (e ∷ past) h)).in_journal;
  sources = h.sources.1;
  histories = record { there = (earlier m past e (grown m (e ∷ past) h)).there; short = all_shorter past e _ h.histories.short };
  placed = h.placed.2;
  joint = h.joint.1;
}

keeps_each : (m : Machine) (past : List Entry) → IsLegal m past → KeepsEach m past
keeps_each m [] h = tt
keeps_each m (e ∷ past) h =
    let before : IsLegal m past = earlier_legal m past e h in
    ((entries m past e before).keeps h, keeps_each m past before)

each_legal : (m : Machine) (past : List Entry) → KeepsEach m past → IsLegal m past
each_legal m [] k = first m
each_legal m (e ∷ past) k = (entries m past e (each_legal m past k.1)).legal k.0

-- a list of entries is legal exactly if each of them keeps each rule
pub lists : OneForLists
lists m past = record { keeps = keeps_each m past; legal = each_legal m past }
