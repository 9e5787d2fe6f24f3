-- Sources with an event in progress leave the word with one.
use Rattle.std.proofs.Common.{◌≡◌, ◌≤◌, ◌<◌, ℕ, zero, suc, true, false, List, [], ◌∷◌, Option, None, refl, ap, is_some, arith}
use Rattle.sleep_model.specs.declared.entry.Actor.{Actor}
use Rattle.sleep_model.specs.declared.entry.Entry.{Entry}
use Rattle.sleep_model.specs.declared.entry.Kind.{Kind}
use Rattle.sleep_model.specs.declared.entry.Kind.TheVariants as kind
use Rattle.sleep_model.specs.declared.word.EventNow.{EventNow}
use Rattle.sleep_model.specs.declared.word.WordKind.TheVariants as step
use Rattle.sleep_model.specs.Legal.{SourcePart, OwnStep}
use Rattle.sleep_model.specs.Numbers.{numbers}
use Rattle.sleep_model.specs.EntryClasses.{class_of}
use Rattle.sleep_model.specs.Sources.{history, since, since_after, owed}
use Rattle.sleep_laws.proofs.Activity.{AllRun, runs_step, active, active_same, active_more, active_some, active_less}
use Rattle.sleep_laws.proofs.Guarding.{since_of, finish_runs, since_same, moves_other, moves_own}

-- what holds of the sources: their calls run, and those that are active are counted
pub record IsCounted (past : List Entry) : Type 0 where
  pub runs : AllRun past
  pub counts : (n : ℕ) → active n (since_of past) ≤ (numbers past).inpr

kept : (past : List Entry) (e : Entry) → IsCounted past → OwnStep past e (class_of e.kind) → ((o : Option ℕ) → since_after (class_of e.kind) e.time o ≡ o) → (numbers (e ∷ past)).inpr ≡ (numbers past).inpr → IsCounted (e ∷ past)
kept past e h own keeps same = record {
  runs = runs_step e past own h.runs;
  counts = λ n. omega (arith, h.counts n, active_same n (since_of past) (since_of (e ∷ past)) (since_same e past keeps), same);
}

-- so in each list of entries whose sources are legal
pub counted : (past : List Entry) → SourcePart past → IsCounted past
counted [] own = record { runs = λ s. tt; counts = λ n. omega (arith, none_active n) }
  where
    none_active : (n : ℕ) → active n (λ s. None) ≡ 0
    none_active zero = refl
    none_active (suc n) = omega (arith, none_active n)
counted (e ∷ past) own = by_kind e.time e.now e.actor e.kind own.0 (counted past own.1)
  where
    by_kind : (time : ℕ) (now : EventNow) (a : Actor) (k : Kind) → OwnStep past (record { time = time; now = now; actor = a; kind = k }) (class_of k) → IsCounted past → IsCounted (record { time = time; now = now; actor = a; kind = k } ∷ past)
    by_kind time now a (kind.Start s) o h =
        let x : Entry = record { time = time; now = now; actor = a; kind = kind.Start s } in
        record { runs = runs_step x past o h.runs; counts = λ n. omega (arith, h.counts n, active_more n s (since_of past) (since_of (x ∷ past)) (moves_other x past s step.Start refl)) }
    by_kind time now a (kind.Finish s) o h =
        let x : Entry = record { time = time; now = now; actor = a; kind = kind.Finish s } in
        let on : is_some (since_of past s) ≡ true = finish_runs (is_some (since_of past s)) (owed (history s past)) (h.runs s) o.0 in
        let off : is_some (since_of (x ∷ past) s) ≡ false = ap is_some (moves_own x past s step.Finish refl) in
        let busy : 0 < (numbers past).inpr = omega (arith, h.counts (suc s), active_some s (since_of past) on) in
        record { runs = runs_step x past o h.runs; counts = λ n. omega (arith, busy, active_less s (since_of past) (since_of (x ∷ past)) (numbers past).inpr on off (moves_other x past s step.Finish refl) h.counts n) }
    by_kind time now a (kind.Hard s) o h = kept past (record { time = time; now = now; actor = a; kind = kind.Hard s }) h o (λ x. refl) refl
    by_kind time now a (kind.Awake s) o h = kept past (record { time = time; now = now; actor = a; kind = kind.Awake s }) h o (λ x. refl) refl
    by_kind time now a (kind.Relax s) o h = kept past (record { time = time; now = now; actor = a; kind = kind.Relax s }) h o (λ x. refl) refl
    by_kind time now a (kind.Event s ms hard) o h = kept past (record { time = time; now = now; actor = a; kind = kind.Event s ms hard }) h o (λ x. refl) refl
    by_kind time now a (kind.Expire s) o h = kept past (record { time = time; now = now; actor = a; kind = kind.Expire s }) h o (λ x. refl) refl
    by_kind time now a k o h = kept past (record { time = time; now = now; actor = a; kind = k }) h o (λ x. refl) refl

-- a source that has an event in progress leaves the word with one
pub source_in_progress : (past : List Entry) → SourcePart past → (t : ℕ) → is_some (since (history t past)) ≡ true → 0 < (numbers past).inpr
source_in_progress past own t is = omega (arith, (counted past own).counts (suc t), active_some t (since_of past) is)
