-- A legal log fits its machine, if the fields of its entries and of its statistics do.
use Rattle.std.proofs.Common.{◌≡◌, ◌≤◌, ◌<◌, ◌+◌, ◌∙◌, ◌⊎◌, inl, inr, ℕ, zero, suc, Bool, true, false, ◌&&◌, List, [], ◌∷◌, length, reverse, cond, refl, ap, subst, arith}
use Rattle.std.specs.List.{list_all, range_with_len}
use Rattle.std.proofs.lemmas.Bool.Decides.{nat_tests}
use Rattle.std.proofs.lemmas.List.{length-map, reverse-reverse}
use mathlib.Core.List.{reverse_aux}
use Rattle.sleep_model.specs.declared.entry.Actor.{Actor}
use Rattle.sleep_model.specs.declared.entry.Entry.{Entry}
use Rattle.sleep_model.specs.declared.entry.Kind.{Kind}
use Rattle.sleep_model.specs.declared.entry.Kind.TheVariants as kind
use Rattle.sleep_model.specs.declared.log.Log.{Log}
use Rattle.sleep_model.specs.declared.machine.Machine.{Machine}
use Rattle.sleep_model.specs.declared.word.EventNow.{EventNow}
use Rattle.sleep_model.specs.Accepted.{IsAccepted}
use Rattle.sleep_model.specs.Fits.{IsWritable, fits_actor, fits_end, fits_entry, fits_kind, fits_stats, fits_word, is_word32, is_word64}
use Rattle.sleep_model.specs.Legal.{HistoriesFit, IsFinishedLog, IsLegalLog, IsStuckLog, JournalPart, AreNumbered, is_there}
use Rattle.sleep_model.specs.Numbers.{numbers, time_of}
use Rattle.sleep_model.specs.EntryClasses.{is_in_journal, journal, class_of}
use Rattle.sleep_model.specs.Sources.{history, stats_at}
use Rattle.sleep_laws.proofs.Few.{few_moves}
use Rattle.room_laws.specs.Ranged.{is_ranged, is_ranged_entry}
use Rattle.room_laws.proofs.FittingHistories.{fit_rest}
use Rattle.room_laws.proofs.Naming.{due_fits}
use Rattle.room_laws.proofs.Waiting.{stuck_fits}

-- ---- small facts

both : (a b : Bool) → a ≡ true → b ≡ true → (a && b) ≡ true
both a b h g = ap (λ x. x && b) h ∙ g

first : (a b : Bool) → (a && b) ≡ true → a ≡ true
first true b h = refl
first false b h = h

second : (a b : Bool) → (a && b) ≡ true → b ≡ true
second true b h = h
second false b h = absurd (cc)

-- ---- one entry

-- an entry of the journal is what is due, and one of a source names a source of the machine
kind_fits : (m : Machine) → IsAccepted m → (past : List Entry) (time : ℕ) (now : EventNow) (who : Actor) (k : Kind) → JournalPart m (journal (record { time = time; now = now; actor = who; kind = k } ∷ past)) → is_there m (class_of k) ≡ true → is_ranged k ≡ true → fits_kind m k ≡ true
kind_fits m acc past time now who (kind.Awake s) j there r = there
kind_fits m acc past time now who (kind.Relax s) j there r = there
kind_fits m acc past time now who (kind.Event s ms hard) j there r = both _ _ there r
kind_fits m acc past time now who (kind.Expire s) j there r = there
kind_fits m acc past time now who (kind.Start s) j there r = there
kind_fits m acc past time now who (kind.Finish s) j there r = there
kind_fits m acc past time now who (kind.Hard s) j there r = there
kind_fits m acc past time now who kind.Jump j there r = refl
kind_fits m acc past time now who k j there r = due_fits m acc (journal past) j.1 now who k j.0.0 r

word_fits : (now : EventNow) → now.inpr + now.count + now.hard ≤ 15360000 → fits_word now ≡ true
word_fits now l = both _ _ (both _ _ (small now.inpr (omega (arith, l))) (small now.count (omega (arith, l)))) (small now.hard (omega (arith, l)))
  where
    small : (n : ℕ) → n ≤ 15360000 → is_word32 n ≡ true
    small n l = let less : n < 4294967296 = omega (arith, l) in grind (arith, nat_tests)

journal_rest : (m : Machine) (e : Entry) (past : List Entry) → JournalPart m (journal (e ∷ past)) → JournalPart m (journal past)
journal_rest m e past j = by (is_in_journal (class_of e.kind)) refl j
  where
    by : (b : Bool) → is_in_journal (class_of e.kind) ≡ b → JournalPart m (journal (e ∷ past)) → JournalPart m (journal past)
    by true is j = (subst (JournalPart m) (ap (λ (b : Bool). cond b (e ∷ journal past) (journal past)) is) j).1
    by false is j = subst (JournalPart m) (ap (λ (b : Bool). cond b (e ∷ journal past) (journal past)) is) j

-- ---- all entries

entries_from : (m : Machine) → IsAccepted m → (past : List Entry) → JournalPart m (journal past) → HistoriesFit m past → AreNumbered past → list_all (is_ranged_entry m) past ≡ true → list_all (fits_entry m) past ≡ true
entries_from m acc [] j fit placed told = refl
entries_from m acc (e ∷ past) j fit placed told =
    let own : is_ranged_entry m e ≡ true = first (is_ranged_entry m e) (list_all (is_ranged_entry m) past) told in
    let before : HistoriesFit m past = fit_rest m e past fit in
    let word : fits_word e.now ≡ true = ap fits_word placed.0 ∙ word_fits (numbers past) (few_moves m acc.sources past before) in
    let timed : (is_word64 e.time && fits_actor m e.actor) ≡ true = first (is_word64 e.time && fits_actor m e.actor) (is_ranged e.kind) own in
    let there : is_there m (class_of e.kind) ≡ true = first (is_there m (class_of e.kind)) (list_all (λ x. is_there m (class_of x.kind)) past) fit.there in
    let kinds : fits_kind m e.kind ≡ true = kind_fits m acc past e.time e.now e.actor e.kind j there (second (is_word64 e.time && fits_actor m e.actor) (is_ranged e.kind) own) in
    let fits : fits_entry m e ≡ true =
    both _ _ (both _ _ (both _ _ (first (is_word64 e.time) (fits_actor m e.actor) timed) word) (second (is_word64 e.time) (fits_actor m e.actor) timed)) kinds in
    both (fits_entry m e) (list_all (fits_entry m) past) fits (entries_from m acc past (journal_rest m e past j) before placed.2 (second (is_ranged_entry m e) (list_all (is_ranged_entry m) past) told))

all_onto : (p : Entry → Bool) (xs back : List Entry) → list_all p xs ≡ true → list_all p back ≡ true → list_all p (reverse_aux xs back) ≡ true
all_onto p [] back h g = g
all_onto p (x ∷ xs) back h g = all_onto p xs (x ∷ back) (second (p x) (list_all p xs) h) (both (p x) (list_all p back) (first (p x) (list_all p xs) h) g)

-- what passes in one order passes in the other
all_reversed : (p : Entry → Bool) (xs : List Entry) → list_all p (reverse xs) ≡ true → list_all p xs ≡ true
all_reversed p xs h = subst (λ (l : List Entry). list_all p l ≡ true) (reverse-reverse xs) (all_onto p (reverse xs) [] h refl)

-- ---- the log

count_range : (a n : ℕ) → length (range_with_len a n) ≡ n
count_range a zero = refl
count_range a (suc n) = ap suc (count_range (a + 1) n)

-- a log that is over fits its machine
pub log_fits : (m : Machine) → IsAccepted m → (log : Log) → IsLegalLog m log → (IsFinishedLog m log) ⊎ (IsStuckLog m log) → list_all (is_ranged_entry m) (reverse log.entries) ≡ true → list_all fits_stats log.stats ≡ true → IsWritable m log
log_fits m acc log legal over told counts = record {
  entries = all_reversed (fits_entry m) log.entries (entries_from m acc (reverse log.entries) legal.legal.journal legal.legal.histories legal.legal.placed told);
  stats = ap length legal.stats ∙ (length-map (range_with_len 0 (length m.sources + 1)) (λ s. stats_at (history s (reverse log.entries)) (time_of (reverse log.entries))) ∙ count_range 0 (length m.sources + 1));
  counts = counts;
  end = ends over;
}
  where
    ends : (IsFinishedLog m log) ⊎ (IsStuckLog m log) → fits_end m log.end ≡ true
    ends (inl f) = ap (fits_end m) f.says
    ends (inr s) = ap (fits_end m) s.says ∙ stuck_fits m acc (reverse log.entries) legal.legal s.stuck
