-- A burst leaves no list shorter.
use Rattle.std.proofs.Common.{◌≡◌, ◌≤◌, ◌+◌, ◌==◌, ℕ, Bool, true, false, List, length, ap, subst, length-append, arith, refl, suc}
use Rattle.std.proofs.lemmas.Bool.Decides.{nat_tests}
use Rattle.std.proofs.lemmas.List.{length-map}
use Rattle.sleep_model.specs.declared.entry.JournalEntry.{JournalEntry}
use Rattle.turn_lock.specs.declared.view.Made.{Made}
use Rattle.run_laws.specs.Passes.{Noted}
use Rattle.run_objects.specs.Objects.{SeatedSourceState, sources_of}
use Rattle.wakeup_source.specs.SourceStates.{SourceState}
use Rattle.running_laws.specs.Running.{of_sources}
use Rattle.running_laws.proofs.Rising.{entries_more}
use Rattle.running_laws.specs.Courses.{Begins, Course, Goes, Lands, BurstState, lists_of}
use Rattle.running_laws.specs.Preservation.{BurstsGrow}
use Rattle.running_laws.specs.Serial.{IsSerial, burst_state_of}
use Rattle.running_laws.proofs.SerialBursts.{bursts_are_serial}

lands_longer : (gains : List (Made Noted)) (old new : ℕ → List JournalEntry) → Lands gains old new → (i : ℕ) → length (old i) ≤ length (new i)
lands_longer gains old new l i = by (l.object == i) refl
  where
    by : (b : Bool) → (l.object == i) ≡ b → length (old i) ≤ length (new i)
    by true is =
        let same : l.object ≡ i = grind (arith, nat_tests) in
        subst (λ (n : ℕ). length (old n) ≤ length (new n)) same (omega (arith, ap (λ (xs : List JournalEntry). length xs) l.grown, length-append l.added (old l.object)))
    by false is = omega (arith, ap (λ (xs : List JournalEntry). length xs) (l.others i is))

course_longer : (count moment : ℕ) (first last : BurstState) → Course count moment first last → (i : ℕ) → length (first.lists i) ≤ length (last.lists i)
course_longer count moment first last Begins i = omega arith
course_longer count moment first last (Goes old new before act) i = omega (arith, course_longer count moment first old before i, lands_longer act.gains old.lists new.lists act.lands i)

-- the list of source s comes after the machine's
pub one_after : (journal : List JournalEntry) (sources : List SourceState) (s : ℕ) → lists_of journal sources (1 + s) ≡ of_sources sources s
one_after journal sources s = let next : 1 + s ≡ suc s = omega arith in ap (lists_of journal sources) next

pub bursts_grow : BurstsGrow
bursts_grow moment machine machine_then sources sources_then tasks tasks_then b count =
    let s : IsSerial moment machine sources tasks machine_then sources_then tasks_then = bursts_are_serial moment machine machine_then sources sources_then tasks tasks_then b in
    let longer : (i : ℕ) → length (lists_of machine.core.past (sources_of sources) i) ≤ length (lists_of machine_then.core.past (sources_of sources_then) i) =
    λ i. omega (arith, course_longer (length sources) moment (burst_state_of machine sources tasks) s.last s.course i, ap (λ (xs : List JournalEntry). length xs) (s.lists_are i)) in
    let each : (k : ℕ) → length (of_sources (sources_of sources) k) ≤ length (of_sources (sources_of sources_then) k) =
    λ k. omega (
      arith,
      longer (1 + k),
      ap (λ (xs : List JournalEntry). length xs) (one_after machine.core.past (sources_of sources) k),
      ap (λ (xs : List JournalEntry). length xs) (one_after machine_then.core.past (sources_of sources_then) k),
    ) in
    omega (
      arith,
      longer 0,
      entries_more (sources_of sources) (sources_of sources_then)
          (omega (arith, count, length-map sources (λ (s : SeatedSourceState). s.source), length-map sources_then (λ (s : SeatedSourceState). s.source))) each,
    )
