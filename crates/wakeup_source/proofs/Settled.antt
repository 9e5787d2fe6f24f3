-- After a whole call a source is settled again.
use Rattle.std.proofs.Common.{◌≡◌, ◌≤◌, ◌<◌, ◌+◌, ◌++◌, ◌∙◌, ℕ, Bool, true, false, ◌==◌, List, [], ◌∷◌, length, Option, Some, None, refl, sym, ap, subst, cond, arith}
use Rattle.std.proofs.lemmas.Bool.Decides.{nat_tests}
use Rattle.sleep_model.specs.declared.entry.Actor.{Actor}
use Rattle.sleep_model.specs.declared.entry.Entry.{Entry}
use Rattle.sleep_model.specs.declared.entry.SourceEntry.{SourceEntry}
use Rattle.sleep_model.specs.declared.machine.SourceCall.{SourceCall}
use Rattle.sleep_model.specs.declared.machine.SourceCall.TheVariants as call
use Rattle.sleep_model.specs.declared.word.EventNow.{EventNow}
use Rattle.sleep_model.specs.declared.word.Stamp.{Stamp}
use Rattle.sleep_model.specs.declared.word.WordKind.{WordKind}
use Rattle.sleep_model.specs.declared.word.WordKind.TheVariants as step
use Rattle.sleep_model.specs.Sources.{makes, since, starting, owed, steps_after_first, caller, most_entries, IsNext}
use Rattle.sleep_model.specs.Merge.{of_source, step_number}
use Rattle.sleep_model.specs.Word.{position}
use Rattle.wakeup_source.specs.declared.call_by.CallBy.{CallBy}
use Rattle.wakeup_source.specs.Called.{SourceView, Notes, Steps, Calls, after_note}
use Rattle.wakeup_source.specs.Called as called
use Rattle.wakeup_source.specs.SourceStates.{unstamped_source, latest, note_entry, note_tick, step_entry, RisesAfter, RiseUpTo, IsOwnHistory, IsSettled}
use Rattle.wakeup_source.specs.Shown.{MayCall}

-- between a call's note and its last step: these steps are owed to that caller
record IsInside (by : CallBy) (steps : List WordKind) (s : SourceView) : Type 0 where
  owes : owed (unstamped_source s.source.past) ≡ steps
  calls : caller (unstamped_source s.source.past) ≡ Some by.actor
  legal : IsOwnHistory s.source.id (unstamped_source s.source.past)
  in_order : RiseUpTo s.source.floor s.source.past
  time : latest (unstamped_source s.source.past) ≡ by.now
  floor : s.source.floor.pos ≤ s.floor

same : (s : ℕ) → (s == s) ≡ true
same s = grind (arith, nat_tests)

-- a new entry comes after the others
above : (floor : Stamp) (e : SourceEntry) (past : List SourceEntry) → RiseUpTo floor past → floor.pos ≤ e.stamp.pos → floor.tick < e.stamp.tick → latest (unstamped_source past) ≤ e.entry.time → RisesAfter e past
above floor e [] h p t l = tt
above floor e (x ∷ past) h p t l = (omega (arith, h.0, p), omega (arith, h.1, t), l, h.2)

-- ---- a step

step_owed : (made : WordKind) (s : ℕ) (who : Actor) (time : ℕ) (before : EventNow) (own : List Entry) → owed (step_entry s made who time before ∷ own) ≡ steps_after_first (owed own)
step_owed step.Start s who time before own = refl
step_owed step.Finish s who time before own = refl
step_owed step.Hard s who time before own = refl

step_caller : (made : WordKind) (s : ℕ) (who : Actor) (time : ℕ) (before : EventNow) (own : List Entry) → caller (step_entry s made who time before ∷ own) ≡ caller own
step_caller step.Start s who time before own = refl
step_caller step.Finish s who time before own = refl
step_caller step.Hard s who time before own = refl

step_legal : (made : WordKind) (s : ℕ) (who : Actor) (time : ℕ) (before : EventNow) (own : List Entry) → IsOwnHistory s own → IsNext made (owed own) → caller own ≡ Some who → IsOwnHistory s (step_entry s made who time before ∷ own)
step_legal step.Start s who time before own h n c = (same s, (n, c), h)
step_legal step.Finish s who time before own h n c = (same s, (n, c), h)
step_legal step.Hard s who time before own h n c = (same s, (n, c), h)

-- after a step the position is one more
step_moves : (made : WordKind) (s : ℕ) (who : Actor) (time : ℕ) (before : EventNow) (stamp : Stamp) → step_number (of_source (record { stamp = stamp; entry = step_entry s made who time before })) ≡ 1
step_moves step.Start s who time before stamp = refl
step_moves step.Finish s who time before stamp = refl
step_moves step.Hard s who time before stamp = refl

inside_step : (by : CallBy) (made : WordKind) (rest : List WordKind) (before : EventNow) (s : SourceView) → IsInside by (made ∷ rest) s → s.floor ≤ position before → IsInside by rest (called.after_step by made before s)
inside_step by made rest before s h l = record {
  owes = step_owed made s.source.id by.actor by.now before (unstamped_source s.source.past) ∙ ap steps_after_first h.owes;
  calls = step_caller made s.source.id by.actor by.now before (unstamped_source s.source.past) ∙ h.calls;
  legal = step_legal made s.source.id by.actor by.now before (unstamped_source s.source.past) h.legal (subst (IsNext made) (sym h.owes) refl) h.calls;
  in_order = (
    omega (arith, step_moves made s.source.id by.actor by.now before (record { pos = position before; tick = s.source.floor.tick + 1 })),
    omega arith,
    above s.source.floor _ s.source.past h.in_order (omega (arith, l, h.floor)) (omega arith) (omega (arith, h.time)),
  );
  time = refl;
  floor = omega arith;
}

inside_steps : (by : CallBy) (steps : List WordKind) (old new : SourceView) → IsInside by steps old → Steps by steps old new → IsInside by [] new
inside_steps by [] old new h k = subst (IsInside by []) (sym k) h
inside_steps by (step ∷ rest) old new h k = inside_steps by rest (called.after_step by step k.0 old) new (inside_step by step rest k.0 old h k.2) k.3

-- ---- a note

note_owed : (made : SourceCall) (s : ℕ) (who : Actor) (time : ℕ) (seen : EventNow) (own : List Entry) → owed (note_entry s made who time seen ∷ own) ≡ makes made (since own)
note_owed call.Awake s who time seen own = refl
note_owed call.Relax s who time seen own = refl
note_owed (call.Event ms hard) s who time seen own = refl
note_owed call.Expire s who time seen own = refl

note_caller : (made : SourceCall) (s : ℕ) (who : Actor) (time : ℕ) (seen : EventNow) (own : List Entry) → caller (note_entry s made who time seen ∷ own) ≡ Some who
note_caller call.Awake s who time seen own = refl
note_caller call.Relax s who time seen own = refl
note_caller (call.Event ms hard) s who time seen own = refl
note_caller call.Expire s who time seen own = refl

note_legal : (made : SourceCall) (s : ℕ) (who : Actor) (time : ℕ) (seen : EventNow) (own : List Entry) → IsOwnHistory s own → owed own ≡ [] → MayCall made own time → IsOwnHistory s (note_entry s made who time seen ∷ own)
note_legal call.Awake s who time seen own h o m = (same s, o, h)
note_legal call.Relax s who time seen own h o m = (same s, o, h)
note_legal (call.Event ms hard) s who time seen own h o m = (same s, o, h)
note_legal call.Expire s who time seen own h o m = (same s, (o, m), h)

-- after a note it is the same
note_stays : (made : SourceCall) (s : ℕ) (who : Actor) (time : ℕ) (seen : EventNow) (stamp : Stamp) → step_number (of_source (record { stamp = stamp; entry = note_entry s made who time seen })) ≡ 0
note_stays call.Awake s who time seen stamp = refl
note_stays call.Relax s who time seen stamp = refl
note_stays (call.Event ms hard) s who time seen stamp = refl
note_stays call.Expire s who time seen stamp = refl

inside_note : (by : CallBy) (made : SourceCall) (seen : EventNow) (looked : Option (List EventNow)) (s : SourceView) → IsSettled s.source → latest (unstamped_source s.source.past) ≤ by.now → MayCall made (unstamped_source s.source.past) by.now → s.source.floor.pos ≤ position seen
    → IsInside by (makes made (since (unstamped_source s.source.past))) (after_note by made seen looked s)
inside_note by made seen looked s h t m p = record {
  owes = note_owed made s.source.id by.actor by.now seen (unstamped_source s.source.past);
  calls = note_caller made s.source.id by.actor by.now seen (unstamped_source s.source.past);
  legal = note_legal made s.source.id by.actor by.now seen (unstamped_source s.source.past) h.legal h.owes_none m;
  in_order = (
    omega (arith, note_stays made s.source.id by.actor by.now seen (record { pos = position seen; tick = note_tick by s.source })),
    omega arith,
    above s.source.floor _ s.source.past h.in_order p (omega arith) t,
  );
  time = refl;
  floor = omega arith;
}

-- ---- how many entries

short_tail : (h f : Bool) → length ((cond h (step.Hard ∷ []) []) ++ cond f (step.Finish ∷ []) []) ≤ 2
short_tail true true = omega arith
short_tail true false = omega arith
short_tail false true = omega arith
short_tail false false = omega arith

short_event : (o : Option ℕ) (h f : Bool) → length (starting o ++ cond h (step.Hard ∷ []) [] ++ cond f (step.Finish ∷ []) []) ≤ 3
short_event None true true = omega arith
short_event None true false = omega arith
short_event None false true = omega arith
short_event None false false = omega arith
short_event (Some at) true true = omega arith
short_event (Some at) true false = omega arith
short_event (Some at) false true = omega arith
short_event (Some at) false false = omega arith

short_call : (made : SourceCall) (o : Option ℕ) → length (makes made o) ≤ 3
short_call call.Awake None = omega arith
short_call call.Awake (Some at) = omega arith
short_call call.Relax None = omega arith
short_call call.Relax (Some at) = omega arith
short_call (call.Event ms hard) o = short_event o hard (ms == 0)
short_call call.Expire None = omega arith
short_call call.Expire (Some at) = omega arith

entries_of : (by : CallBy) (steps : List WordKind) (old new : SourceView) → Steps by steps old new → length new.source.past ≡ length old.source.past + length steps
entries_of by [] old new h = ap (λ (s : SourceView). length s.source.past) h ∙ omega arith
entries_of by (step ∷ rest) old new h = omega (arith, entries_of by rest (called.after_step by step h.0 old) new h.3)

-- a call makes at most four entries
pub call_short : (by : CallBy) (made : SourceCall) (old new : SourceView) → Calls by made old new → length new.source.past ≤ length old.source.past + 4
call_short by made old new h =
    omega (arith, entries_of by (makes made (since (unstamped_source old.source.past))) h.0 new h.2, ap (λ (s : SourceView). length s.source.past) h.1.6, short_call made (since (unstamped_source old.source.past)))

-- after a call a source is settled
pub settles : (by : CallBy) (made : SourceCall) (old new : SourceView) → IsSettled old.source → latest (unstamped_source old.source.past) ≤ by.now → MayCall made (unstamped_source old.source.past) by.now → length old.source.past + 4 ≤ most_entries → Calls by made old new
    → IsSettled new.source
settles by made old new s t m l h =
    let first = subst (IsInside by (makes made (since (unstamped_source old.source.past)))) (sym h.1.6) (inside_note by made h.1.0 h.0.looked old s t m h.1.5) in
    let end = inside_steps by (makes made (since (unstamped_source old.source.past))) h.0 new first h.2 in
    record {
      owes_none = end.owes;
      legal = end.legal;
      in_order = end.in_order;
      short = omega (arith, call_short by made old new h, l);
    }
