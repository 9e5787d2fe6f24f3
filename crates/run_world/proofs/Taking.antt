-- An object that a pass takes, and what the pass has made once it is back.
use Rattle.std.proofs.Common.{◌≡◌, ◌∙◌, ℕ, ◌+◌, List, ◌++◌, length, map, Option, Some, None, Result, sym, ap, subst}
use Rattle.sleep_model.specs.declared.entry.Actor.{Actor}
use Rattle.sleep_model.specs.declared.entry.JournalEntry.{JournalEntry}
use Rattle.sleep_model.specs.declared.entry.SourceEntry.{SourceEntry}
use Rattle.sleep_model.specs.declared.machine.Machine.{Machine}
use Rattle.sleep_model.specs.declared.machine.SourceCall.{SourceCall}
use Rattle.sleep_model.specs.declared.word.Stamp.{Stamp}
use Rattle.sleep_model.specs.Merge.{of_source}
use Rattle.atomic_table.specs.Seated.{TableId}
use Rattle.sleep_core.specs.declared.turns.CoreFault.{CoreFault}
use Rattle.sleep_core.specs.declared.turns.CoreTurn.{CoreTurn}
use Rattle.wakeup_source.specs.declared.call_by.CallBy.{CallBy}
use Rattle.wakeup_source.specs.declared.fault.SourceFault.{SourceFault}
use Rattle.turn_lock.specs.declared.view.Made.{Made}
use Rattle.turn_lock.specs.Locks.{IsTaken}
use Rattle.turn_lock.specs.Passes.{LockToken, gained}
use Rattle.run_laws.specs.Passes.{Noted, items}
use Rattle.run_world.specs.declared.object.WorldObject.{WorldObject}
use Rattle.run_world.specs.Objects.{IsWorldPass, notes_of, root_of}
use Rattle.run_world.specs.Outcomes.{AfterCoreTurn, AfterReport, FindsMachine, FindsSource}

module _ (m : Machine) (table locks : TableId) (moment : ℕ) (p : LockToken WorldObject Noted) (is : IsWorldPass m table locks moment p) where
  -- what is taken at a source's lock is that source
  pub source_taken : (s : ℕ) (y z : WorldObject) → IsTaken root_of notes_of p.me.0 (1 + s) y → z ≡ y
      → root_of z ≡ record { machine = None; table = table; number = s; moment = moment }
  source_taken s y z taken same = ap root_of same ∙ taken.3 ∙ is.objects.source s taken.0 taken.2

  -- what is taken at lock 0 is the machine
  pub machine_taken : (y z : WorldObject) → IsTaken root_of notes_of p.me.0 0 y → z ≡ y
      → root_of z ≡ record { machine = Some m; table = table; number = length m.sources + 1; moment = 0 }
  machine_taken y z taken same = ap root_of same ∙ taken.3 ∙ is.objects.machine taken.0 taken.2

module _ (old held new : WorldObject) (object : ℕ) (had : List Noted) (made before after : List (Made Noted)) (same : old ≡ held) (had_is : had ≡ notes_of held) (made_is : before ≡ made)
    (after_is : after ≡ before ++ gained root_of notes_of object had new) where
  made_now : after ≡ made ++ gained root_of notes_of object had new
  made_now = after_is ∙ ap (λ (l : List (Made Noted)). l ++ gained root_of notes_of object had new) made_is

  -- the pass has made what the report added, after what it found
  pub report_made : (by : CallBy) (c : SourceCall) (s : ℕ) (p : LockToken WorldObject Noted) (result : Result (Option Stamp) SourceFault) → (root_of old).number ≡ s → object ≡ 1 + s
      → IsTaken root_of notes_of p.me.0 (1 + s) held
      → ((past : List SourceEntry) × (notes_of old ≡ items (map of_source past)) × AfterReport by c (root_of old).number past result (gained root_of notes_of (1 + (root_of old).number) (notes_of old) new))
      → (gains : List (Made Noted)) × (after ≡ made ++ gains) × (past : List SourceEntry) × FindsSource p s past × AfterReport by c s past result gains
  report_made by c s p result number object_is taken (past, notes, h) = (
    gained root_of notes_of object had new,
    made_now,
    past,
    record { found = held; taken = taken; notes = ap notes_of (sym same) ∙ notes },
    subst (λ (n : ℕ). AfterReport by c s past result (gained root_of notes_of n had new)) (sym object_is)
        (subst (λ (l : List Noted). AfterReport by c s past result (gained root_of notes_of (1 + s) l new)) (ap notes_of same ∙ sym had_is)
        (subst (λ (n : ℕ). AfterReport by c n past result (gained root_of notes_of (1 + n) (notes_of old) new)) number h)),
  )

  -- the pass has made what the turn added, after what it found
  pub turn_made : (m : Machine) (who : Actor) (calls : ℕ) (floor : Stamp) (now : ℕ) (p : LockToken WorldObject Noted) (result : Result CoreTurn CoreFault) → object ≡ 0
      → IsTaken root_of notes_of p.me.0 0 held
      → ((past : List JournalEntry) × (notes_of old ≡ items past) × AfterCoreTurn m who calls floor now past result (gained root_of notes_of 0 (notes_of old) new))
      → (gains : List (Made Noted)) × (after ≡ made ++ gains) × (past : List JournalEntry) × FindsMachine p past × AfterCoreTurn m who calls floor now past result gains
  turn_made m who calls floor now p result object_is taken (past, notes, h) = (
    gained root_of notes_of object had new,
    made_now,
    past,
    record { found = held; taken = taken; notes = ap notes_of (sym same) ∙ notes },
    subst (λ (n : ℕ). AfterCoreTurn m who calls floor now past result (gained root_of notes_of n had new)) (sym object_is)
        (subst (λ (l : List Noted). AfterCoreTurn m who calls floor now past result (gained root_of notes_of 0 l new)) (ap notes_of same ∙ sym had_is) h),
  )
