-- A whole call leaves the seat the source's, and can be made whenever the source has room for four entries.
use Rattle.std.proofs.Common.{◌≡◌, ◌≤◌, ◌<◌, ◌+◌, ◌==◌, ◌++◌, ◌&&◌, ◌∙◌, ℕ, suc, Bool, true, false, nat_lt, cond, List, [], ◌∷◌, length, Option, Some, None, Result, Ok, Err, OnOk, OnErr, is_some, refl, sym, ap, subst, arith}
use Rattle.std.proofs.lemmas.Bool.Decides.{nat_tests}
use Rattle.sleep_model.specs.declared.entry.Entry.{Entry}
use Rattle.sleep_model.specs.declared.entry.SourceEntry.{SourceEntry}
use Rattle.sleep_model.specs.declared.machine.SourceCall.{SourceCall}
use Rattle.sleep_model.specs.declared.machine.SourceCall.TheVariants as call
use Rattle.sleep_model.specs.declared.word.EventNow.{EventNow}
use Rattle.sleep_model.specs.declared.word.Stamp.{Stamp}
use Rattle.sleep_model.specs.declared.word.WordKind.{WordKind}
use Rattle.sleep_model.specs.declared.word.WordKind.TheVariants as step
use Rattle.sleep_model.specs.EntryClasses.{EntryClass, OfJournal, Notes, Moves, OfTime, class_of}
use Rattle.sleep_model.specs.Sources.{makes, most_entries, since, since_after, starting}
use Rattle.event_word.specs.Seats.{IsSourceSeat, WordToken, looked_of, made_of, number_of}
use Rattle.event_word.specs.Steps.{MadeStep, active_after, can_make, fits, is_active}
use Rattle.wakeup_source.specs.declared.call_by.CallBy.{CallBy}
use Rattle.wakeup_source.specs.declared.fault.SourceFault.{SourceFault}
use Rattle.wakeup_source.specs.Called.{Calls, SourceView, Steps, after_step}
use Rattle.wakeup_source.specs.SourceStates.{IsSettled, SourceState, unstamped_source}
use Rattle.wakeup_source.specs.Shown.{AreOwnSteps, step_by, steps_in}
use Rattle.run_laws.specs.Seated.{IsSeated}
use Rattle.run_laws.proofs.Seated.{call_fresh, seat_keeps}
use Rattle.run_objects.specs.Objects.{IsSeatedSource, SeatedSourceState, viewed_source_of}

-- ---- what a seat can do next

active_after_class : (p : EntryClass) (time : ℕ) (before : EventNow) (made : List MadeStep) (began : Option ℕ) → is_active made ≡ is_some began
    → is_active (step_by p before made) ≡ is_some (since_after p time began)
active_after_class OfJournal time before made began h = h
active_after_class (Notes s c) time before made began h = h
active_after_class (Moves s step.Start) time before made began h = refl
active_after_class (Moves s step.Finish) time before made began h = refl
active_after_class (Moves s step.Hard) time before made began h = h
active_after_class OfTime time before made began h = h

-- an event is in progress by the steps exactly if one is by the entries
active_is : (own : List Entry) → is_active (steps_in own) ≡ is_some (since own)
active_is [] = refl
active_is (e ∷ own) = active_after_class (class_of e.kind) e.time e.now (steps_in own) (since own) (active_is own)

few_after_class : (p : EntryClass) (before : EventNow) (made : List MadeStep) (n : ℕ) → length made ≤ n → length (step_by p before made) ≤ suc n
few_after_class OfJournal before made n h = omega arith
few_after_class (Notes s c) before made n h = omega arith
few_after_class (Moves s x) before made n h = omega (arith, h)
few_after_class OfTime before made n h = omega arith

few_steps : (past : List SourceEntry) → length (steps_in (unstamped_source past)) ≤ length past
few_steps [] = omega arith
few_steps (e ∷ past) = few_after_class (class_of e.entry.kind) e.entry.now (steps_in (unstamped_source past)) (length past) (few_steps past)

can_one : (k : WordKind) (n : ℕ) (active : Bool) (rest : List WordKind) → n < 60000 → fits k active ≡ true → can_make (suc n) (active_after k active) rest ≡ true
    → can_make n active (k ∷ rest) ≡ true
can_one k n active rest room fit can =
    let room_is : nat_lt n 60000 ≡ true = grind (arith, nat_tests) in
    ap (λ (b : Bool). b && fits k active && can_make (suc n) (active_after k active) rest) room_is
    ∙ ap (λ (b : Bool). b && can_make (suc n) (active_after k active) rest) fit ∙ can

can_event : (began : Option ℕ) (hard ends : Bool) (n : ℕ) → n + 4 ≤ 60000
    → can_make n (is_some began) (starting began ++ cond hard (step.Hard ∷ []) [] ++ cond ends (step.Finish ∷ []) []) ≡ true
can_event None true true n h =
    can_one step.Start n false (step.Hard ∷ step.Finish ∷ []) (omega arith) refl
    (can_one step.Hard (suc n) true (step.Finish ∷ []) (omega arith) refl (can_one step.Finish (suc (suc n)) true [] (omega arith) refl refl))
can_event None true false n h = can_one step.Start n false (step.Hard ∷ []) (omega arith) refl (can_one step.Hard (suc n) true [] (omega arith) refl refl)
can_event None false true n h = can_one step.Start n false (step.Finish ∷ []) (omega arith) refl (can_one step.Finish (suc n) true [] (omega arith) refl refl)
can_event None false false n h = can_one step.Start n false [] (omega arith) refl refl
can_event (Some s) true true n h = can_one step.Hard n true (step.Finish ∷ []) (omega arith) refl (can_one step.Finish (suc n) true [] (omega arith) refl refl)
can_event (Some s) true false n h = can_one step.Hard n true [] (omega arith) refl refl
can_event (Some s) false true n h = can_one step.Finish n true [] (omega arith) refl refl
can_event (Some s) false false n h = refl

can_all : (c : SourceCall) (began : Option ℕ) (n : ℕ) → n + 4 ≤ 60000 → can_make n (is_some began) (makes c began) ≡ true
can_all call.Awake None n h = can_one step.Start n false [] (omega arith) refl refl
can_all call.Awake (Some s) n h = refl
can_all call.Relax None n h = refl
can_all call.Relax (Some s) n h = can_one step.Finish n true [] (omega arith) refl refl
can_all (call.Event ms hard) began n h = can_event began hard (ms == 0) n h
can_all call.Expire None n h = refl
can_all call.Expire (Some s) n h = can_one step.Finish n true [] (omega arith) refl refl

-- a seat that made the steps of a history with room for four entries can make those of a call
pub can_call : (c : SourceCall) (made : List MadeStep) (past : List SourceEntry) → made ≡ steps_in (unstamped_source past) → length past + 4 ≤ most_entries
    → can_make (length made) (is_active made) (makes c (since (unstamped_source past))) ≡ true
can_call c made past is room =
    ap (λ (m : List MadeStep). can_make (length m) (is_active m) (makes c (since (unstamped_source past)))) is
    ∙ ap (λ (b : Bool). can_make (length (steps_in (unstamped_source past))) b (makes c (since (unstamped_source past)))) (active_is (unstamped_source past))
    ∙ can_all c (since (unstamped_source past)) (length (steps_in (unstamped_source past))) (omega (arith, few_steps past))

-- ---- a call

steps_number : (by : CallBy) (steps : List WordKind) (old new : SourceView) → Steps by steps old new → new.source.id ≡ old.source.id
steps_number by [] old new h = ap (λ (s : SourceView). s.source.id) h
steps_number by (x ∷ rest) old new h = steps_number by rest (after_step by x h.0 old) new h.3

-- a call leaves the source its number
pub call_number : (by : CallBy) (c : SourceCall) (old new : SourceView) → Calls by c old new → new.source.id ≡ old.source.id
call_number by c old new h =
    steps_number by (makes c (since (unstamped_source old.source.past))) h.0 new h.2
    ∙ ap (λ (s : SourceView). s.source.id) h.1.6

pub second : {A B : Type 0} {x y : A × B} → x ≡ y → x.1 ≡ y.1
second e = ap (λ p. p.1) e

pub on_err : {A E P Q : Type 0} (r : Result A E) → (P → Q) → OnErr r P → OnErr r Q
on_err (Ok answer) f h = tt
on_err (Err fault) f h = f h

-- what a call leaves of a source and its seat
pub record IsLeft (old new : SeatedSourceState) : Type 0 where
  pub kept : IsSeatedSource new
  pub number : new.source.id ≡ old.source.id

pub called : (result : Result Stamp SourceFault) (by : CallBy) (c : SourceCall) (old new : SeatedSourceState) → IsSeatedSource old → IsSourceSeat new.seat
    → number_of new.seat ≡ number_of old.seat → IsSettled new.source → OnOk result (Calls by c (viewed_source_of old) (viewed_source_of new))
    → OnOk result (AreOwnSteps (Some (made_of old.seat)) (Some (made_of new.seat)) old.source new.source)
    → OnErr result ((new.source ≡ old.source) × (new.seat ≡ old.seat)) → IsLeft old new
called (Ok stamp) by c old new kept seat number settled calls shows err =
    let id = call_number by c (viewed_source_of old) (viewed_source_of new) calls in
    let k = seat_keeps by c (viewed_source_of old) (viewed_source_of new) (made_of old.seat) (looked_of old.seat) refl refl kept.seated calls shows in
    let made_is : made_of new.seat ≡ k.made = let e = k.made_is in cc in
    let looked_is : looked_of new.seat ≡ k.looked = let e = k.looked_is in cc in
    let seated : IsSeated (made_of new.seat) (looked_of new.seat) new.source.past =
    subst (λ (m : List MadeStep). IsSeated m (looked_of new.seat) new.source.past) (sym made_is)
    (subst (λ (l : List EventNow). IsSeated k.made l new.source.past) (sym looked_is) k.seated) in record {
      kept = record { seat = seat; number = number ∙ kept.number ∙ ap (λ (n : ℕ). Some n) (sym id); seated = seated; settled = settled; fresh = call_fresh by c (viewed_source_of old) (viewed_source_of new) calls };
      number = id;
    }
called (Err fault) by c old new kept seat number settled calls shows err =
    let made : SourceState → WordToken → SeatedSourceState = λ s t. record { source = s; seat = t } in
    let same : new ≡ old = ap (λ (s : SourceState). made s new.seat) err.0 ∙ ap (λ (t : WordToken). made old.source t) err.1 in record { kept = subst IsSeatedSource (sym same) kept; number = ap (λ (s : SeatedSourceState). s.source.id) same }
