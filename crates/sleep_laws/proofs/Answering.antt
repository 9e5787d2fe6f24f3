-- Whether an attempt enters, fails, or is disturbed, by the side of the table that it is on.
use Rattle.std.proofs.Common.{◌≡◌, ◌∙◌, ℕ, pos, negsuc, Bool, true, false, ◌||◌, List, [], ◌∷◌, Option, Some, None, is_some, is_none, refl, sym, ap}
use Rattle.std.proofs.lemmas.Bool.{true≢false}
use Rattle.sleep_base.specs.declared.errno.Errno.{Errno}
use Rattle.sleep_model.specs.declared.entry.Actor.{Actor}
use Rattle.sleep_model.specs.declared.entry.Actor.TheVariants as actor
use Rattle.sleep_model.specs.declared.entry.Entry.{Entry}
use Rattle.sleep_model.specs.declared.entry.Kind.{Kind}
use Rattle.sleep_model.specs.declared.entry.Kind.TheVariants as kind
use Rattle.sleep_model.specs.declared.machine.Machine.{Machine}
use Rattle.sleep_model.specs.declared.progress.Sleep.{Sleep}
use Rattle.sleep_model.specs.declared.progress.Stage.{Stage}
use Rattle.sleep_model.specs.declared.progress.Stage.TheVariants as stage
use Rattle.sleep_model.specs.declared.word.EventNow.{EventNow}
use Rattle.sleep_model.specs.Attempt.{failed, failed_after, sleep_of}
use Rattle.sleep_model.specs.Devices.{is_device, phase_failed, phase_failed_after}
use Rattle.sleep_model.specs.Guard.{pending}
use Rattle.sleep_model.specs.Laws.{test_effect, disturbed, disturbed_after, entered, UndisturbedEnters, AnswersFailure}
use Rattle.sleep_model.specs.Legal.{JournalPart}
use Rattle.sleep_model.specs.Table.{stage_after}
use Rattle.sleep_laws.proofs.LockHolding.{Outside, Moved, Opens, Makes, Beside, Owns, StageInvariant, at_made, entry_of, moved, IsMaker}
use Rattle.sleep_laws.proofs.Made.{InSuspend, InLate, InNoirq, InResume, InEarly, InResumeNoirq, Made, Comes, DeviceMade, EntryMade, AtOnce, PastNotifiers, PastCpus, PastParts, PastPartsUp, PastCpusUp, PastPosts}
use Rattle.sleep_laws.proofs.Telling.{none≢some}

-- ---- by the side of the table

-- going down nothing failed or entered yet, and the machine is awake; at the entering it sleeps if it has entered; coming up it has entered
-- exactly if nothing failed
abbrev pub SideAt : Option Stage → Option Errno → Bool → Option Sleep → Type 0
SideAt None f n s = s ≡ None
SideAt (Some stage.Notifies) f n s = (f ≡ None) × (n ≡ false) × (s ≡ None)
SideAt (Some (stage.Freezes g)) f n s = (f ≡ None) × (n ≡ false) × (s ≡ None)
SideAt (Some (stage.PlatformDo step)) f n s = (f ≡ None) × (n ≡ false) × (s ≡ None)
SideAt (Some stage.Prepares) f n s = (f ≡ None) × (n ≡ false) × (s ≡ None)
SideAt (Some (stage.Downs p)) f n s = (f ≡ None) × (n ≡ false) × (s ≡ None)
SideAt (Some stage.StopsCpus) f n s = (f ≡ None) × (n ≡ false) × (s ≡ None)
SideAt (Some stage.StopsIrqs) f n s = (f ≡ None) × (n ≡ false) × (s ≡ None)
SideAt (Some stage.ChecksWakeup) f n s = (f ≡ None) × (n ≡ false) × (s ≡ None)
SideAt (Some stage.StopsSyscore) f n s = (f ≡ None) × (n ≡ false) × (s ≡ None)
SideAt (Some stage.Enters) f n s = (f ≡ None) × (n ≡ is_some s)
SideAt (Some _) f n s = (n ≡ is_none f) × (s ≡ None)

abbrev pub Side : Option Stage → List Entry → Type 0
Side s past = SideAt s (failed past) (entered past) (sleep_of past)

side_comes : (m : Machine) (past : List Entry) (here there : Stage) → Comes m past here there → Side (Some here) past → Side (Some there) past
side_comes m past _ _ (AtOnce here) h = h
side_comes m past _ _ (PastParts e) h = (h.0, h.1 ∙ sym (ap is_some h.2))
side_comes m past _ _ (PastNotifiers e) h = h
side_comes m past _ _ (PastCpus e) h = h
side_comes m past _ _ (PastPartsUp e) h = h
side_comes m past _ _ (PastCpusUp e) h = h
side_comes m past _ _ (PastPosts e) h = h

side_makes : (m : Machine) (past : List Entry) (time : ℕ) (now : EventNow) (who : Actor) (there : Stage) (k : Kind) → IsMaker past who → Made m past now there k → Side (Some there) past → Side (stage_after k (Some there)) (entry_of time now who k ∷ past)
side_makes m past time now who _ _ a (Made.NotifyFails x r e) h = (h.1, h.2)
side_makes m past time now who _ _ a (Made.UserTimesOut s n x e) h = (h.1, h.2)
side_makes m past time now who _ _ a (Made.KernelTimesOut s n x e) h = (h.1, h.2)
side_makes m past time now who _ _ a (Made.UserWakes s n x e f) h = (h.1, h.2)
side_makes m past time now who _ _ a (Made.KernelWakes s n x e f) h = (h.1, h.2)
side_makes m past time now who _ _ a (Made.BeginFails r) h = (h.1, h.2)
side_makes m past time now who _ _ a (Made.PrepareFails r) h = (h.1, h.2)
side_makes m past time now who _ _ a (Made.PrepareLateFails r) h = (h.1, h.2)
side_makes m past time now who _ _ a (Made.PreparesNot r e) h = (h.1, h.2)
side_makes m past time now who _ _ a (Made.SuspendFails r x) h = (h.1, h.2)
side_makes m past time now who _ _ a (Made.LateFails r x) h = (h.1, h.2)
side_makes m past time now who _ _ a (Made.NoirqFails r x) h = (h.1, h.2)
side_makes m past time now who _ _ a (Made.FindsCpu k e f) h = (h.1, h.2)
side_makes m past time now who _ _ a (Made.FindsCheck e) h = (h.1, h.2)
side_makes m past time now who _ _ a (Made.PartFails x r e) h = (h.1, h.2)
side_makes m past time now who _ _ a (Made.Enters e f) h = (h.0, refl)
side_makes m past time now who _ _ a (Made.EntersNot e f) h = (h.1 ∙ ap is_some e, e)
side_makes m past time now who _ _ a (Made.Wakes s b e) h = ((h.1 ∙ ap is_some e) ∙ sym (ap is_none h.0), refl)
side_makes m past time now who _ _ a Made.Ends h = h.1
side_makes m past time now who _ _ a _ h = h

side_beside : (m : Machine) (past : List Entry) (time : ℕ) (now : EventNow) (who : Actor) (k : Kind) (s : Option Stage) → EntryMade m past now who k → is_device who ≡ false → Outside s k → Side s past → Side s (entry_of time now who k ∷ past)
side_beside m past time now who _ s x a Outside.Frozen h = h
side_beside m past time now who _ s x a _ h = h

side_owns : (m : Machine) (past : List Entry) (time : ℕ) (now : EventNow) (d : ℕ) (k : Kind) (s : Option Stage) → DeviceMade m past now d k → Side s past → Side s (entry_of time now (actor.Dev d) k ∷ past)
side_owns m past time now d _ s (DeviceMade.OwnFails p r w g f) h = h
side_owns m past time now d _ s _ h = h

pub side_invariant : (m : Machine) → StageInvariant m Side
side_invariant m = record { starts = refl; opens = λ past time now who n guarded h. (refl, refl, h); comes = side_comes m; makes = side_makes m; beside = side_beside m; owns = side_owns m }

-- ---- what disturbs

-- without a disturbance nothing has failed
abbrev pub Quiescent : Bool → Option Errno → Option Errno → Type 0
Quiescent d f p = d ≡ false → (f ≡ None) × (p ≡ None)

-- the same after an entry
abbrev QuiescentAfter : List Entry → EventNow → Kind → Type 0
QuiescentAfter past now k = Quiescent (disturbed_after (test_effect k) (pending past now) (disturbed past)) (failed_after k (failed past)) (phase_failed_after k (phase_failed past))

abbrev IsQuiescent : List Entry → Type 0
IsQuiescent past = Quiescent (disturbed past) (failed past) (phase_failed past)

-- a test that found a wakeup disturbs
finds : (b c : Bool) → b ≡ true → (b || c) ≡ false → ⊥
finds true c e f = true≢false f
finds false c e f = true≢false (sym e)

or_second : (b c : Bool) → (b || c) ≡ false → c ≡ false
or_second true c e = absurd (true≢false e)
or_second false c e = e

-- the phase has no error if nothing disturbs
no_error : (past : List Entry) (r : Errno) → IsQuiescent past → disturbed past ≡ false → phase_failed past ≡ Some r → ⊥
no_error past r h e f = none≢some r (sym (h e).1 ∙ f)

quiescent_made : (m : Machine) (past : List Entry) (now : EventNow) (there : Stage) (k : Kind) → Made m past now there k → IsQuiescent past → QuiescentAfter past now k
quiescent_made m past now _ _ (Made.NotifyFails x r e) h = λ d. absurd (true≢false d)
quiescent_made m past now _ _ (Made.UserTimesOut s n x e) h = λ d. absurd (true≢false d)
quiescent_made m past now _ _ (Made.KernelTimesOut s n x e) h = λ d. absurd (true≢false d)
quiescent_made m past now _ _ (Made.UserWakes s n x e f) h = λ d. absurd (finds (pending past now) (disturbed past) f d)
quiescent_made m past now _ _ (Made.KernelWakes s n x e f) h = λ d. absurd (finds (pending past now) (disturbed past) f d)
quiescent_made m past now _ _ (Made.BeginFails r) h = λ d. absurd (true≢false d)
quiescent_made m past now _ _ (Made.PrepareFails r) h = λ d. absurd (true≢false d)
quiescent_made m past now _ _ (Made.PrepareLateFails r) h = λ d. absurd (true≢false d)
quiescent_made m past now _ _ (Made.Prepares x (pos n) e f) h = h
quiescent_made m past now _ _ (Made.Prepares x (negsuc n) e f) h = λ d. absurd (true≢false d)
quiescent_made m past now _ _ (Made.PreparesNot r e) h = λ d. absurd (no_error past r h d e)
quiescent_made m past now _ _ (Made.Prepared e f) h = λ d. ((h d).0, refl)
quiescent_made m past now _ _ (Made.EndsDown p q x None w c) h = h
quiescent_made m past now _ _ (Made.EndsDown _ q x (Some r) InSuspend c) h = λ d. absurd (true≢false d)
quiescent_made m past now _ _ (Made.EndsDown _ q x (Some r) InLate c) h = λ d. absurd (true≢false d)
quiescent_made m past now _ _ (Made.EndsDown _ q x (Some r) InNoirq c) h = λ d. absurd (true≢false d)
quiescent_made m past now _ _ (Made.FindsDown _ x InSuspend at t f) h = λ d. absurd (finds (pending past now) (disturbed past) f d)
quiescent_made m past now _ _ (Made.FindsDown _ x InLate at t f) h = λ d. absurd (finds (pending past now) (disturbed past) f d)
quiescent_made m past now _ _ (Made.FindsDown _ x InNoirq at t f) h = absurd (true≢false (sym t))
quiescent_made m past now _ _ (Made.LeavesDown _ x InSuspend at t f) h = λ d. h (or_second (pending past now) (disturbed past) d)
quiescent_made m past now _ _ (Made.LeavesDown _ x InLate at t f) h = λ d. h (or_second (pending past now) (disturbed past) d)
quiescent_made m past now _ _ (Made.LeavesDown _ x InNoirq at t f) h = h
quiescent_made m past now _ _ (Made.BeginsDown _ x InSuspend at t f) h = λ d. h (or_second (pending past now) (disturbed past) d)
quiescent_made m past now _ _ (Made.BeginsDown _ x InLate at t f) h = λ d. h (or_second (pending past now) (disturbed past) d)
quiescent_made m past now _ _ (Made.BeginsDown _ x InNoirq at t f) h = h
quiescent_made m past now _ _ (Made.SuspendFails r x) h = λ d. absurd (no_error past x.first h d x.fails)
quiescent_made m past now _ _ (Made.LateFails r x) h = λ d. absurd (no_error past x.first h d x.fails)
quiescent_made m past now _ _ (Made.NoirqFails r x) h = λ d. absurd (no_error past x.first h d x.fails)
quiescent_made m past now _ _ (Made.SuspendEnds x) h = λ d. ((h d).0, refl)
quiescent_made m past now _ _ (Made.LateEnds x) h = λ d. ((h d).0, refl)
quiescent_made m past now _ _ (Made.NoirqEnds x) h = λ d. ((h d).0, refl)
quiescent_made m past now _ _ (Made.StopsCpu k e f) h = λ d. h (or_second (pending past now) (disturbed past) d)
quiescent_made m past now _ _ (Made.FindsCpu k e f) h = λ d. absurd (finds (pending past now) (disturbed past) f d)
quiescent_made m past now _ _ (Made.Checks e) h = λ d. h (or_second (pending past now) (disturbed past) d)
quiescent_made m past now _ _ (Made.FindsCheck e) h = λ d. absurd (finds (pending past now) (disturbed past) e d)
quiescent_made m past now _ _ (Made.PartFails x r e) h = λ d. absurd (true≢false d)
quiescent_made m past now _ _ (Made.Enters e f) h = λ d. h (or_second (pending past now) (disturbed past) d)
quiescent_made m past now _ _ (Made.EntersNot e f) h = λ d. absurd (finds (pending past now) (disturbed past) f d)
quiescent_made m past now _ _ (Made.EndsUp p q x None w c) h = h
quiescent_made m past now _ _ (Made.EndsUp _ q x (Some r) InResume c) h = h
quiescent_made m past now _ _ (Made.EndsUp _ q x (Some r) InEarly c) h = h
quiescent_made m past now _ _ (Made.EndsUp _ q x (Some r) InResumeNoirq c) h = h
quiescent_made m past now _ _ (Made.BeginsUp _ x InResume c g n w) h = h
quiescent_made m past now _ _ (Made.BeginsUp _ x InEarly c g n w) h = h
quiescent_made m past now _ _ (Made.BeginsUp _ x InResumeNoirq c g n w) h = h
quiescent_made m past now _ _ (Made.ResumeNoirqEnds x) h = λ d. ((h d).0, refl)
quiescent_made m past now _ _ (Made.EarlyEnds x) h = λ d. ((h d).0, refl)
quiescent_made m past now _ _ (Made.ResumeEnds x) h = λ d. ((h d).0, refl)
quiescent_made m past now _ _ (Made.Completed e) h = λ d. ((h d).0, refl)
quiescent_made m past now _ _ _ h = h

quiescent_own : (m : Machine) (past : List Entry) (now : EventNow) (x : ℕ) (k : Kind) → DeviceMade m past now x k → IsQuiescent past → QuiescentAfter past now k
quiescent_own m past now x _ (DeviceMade.OwnFails p r w g f) h = h
quiescent_own m past now x _ (DeviceMade.OwnFinds _ InSuspend g f t e) h = λ d. absurd (finds (pending past now) (disturbed past) e d)
quiescent_own m past now x _ (DeviceMade.OwnFinds _ InLate g f t e) h = λ d. absurd (finds (pending past now) (disturbed past) e d)
quiescent_own m past now x _ (DeviceMade.OwnFinds _ InNoirq g f t e) h = absurd (true≢false (sym t))
quiescent_own m past now x _ (DeviceMade.OwnLeaves _ InSuspend g f t e) h = λ d. h (or_second (pending past now) (disturbed past) d)
quiescent_own m past now x _ (DeviceMade.OwnLeaves _ InLate g f t e) h = λ d. h (or_second (pending past now) (disturbed past) d)
quiescent_own m past now x _ (DeviceMade.OwnLeaves _ InNoirq g f t e) h = h
quiescent_own m past now x _ (DeviceMade.OwnBegins _ InSuspend g f t e) h = λ d. h (or_second (pending past now) (disturbed past) d)
quiescent_own m past now x _ (DeviceMade.OwnBegins _ InLate g f t e) h = λ d. h (or_second (pending past now) (disturbed past) d)
quiescent_own m past now x _ (DeviceMade.OwnBegins _ InNoirq g f t e) h = h
quiescent_own m past now x _ (DeviceMade.OwnRises _ InResume b w s e) h = h
quiescent_own m past now x _ (DeviceMade.OwnRises _ InEarly b w s e) h = h
quiescent_own m past now x _ (DeviceMade.OwnRises _ InResumeNoirq b w s e) h = h
quiescent_own m past now x _ (DeviceMade.OwnEnds p None w b a s) h = h
quiescent_own m past now x _ (DeviceMade.OwnEnds _ (Some r) InSuspend b a s) h = λ d. absurd (true≢false d)
quiescent_own m past now x _ (DeviceMade.OwnEnds _ (Some r) InLate b a s) h = λ d. absurd (true≢false d)
quiescent_own m past now x _ (DeviceMade.OwnEnds _ (Some r) InNoirq b a s) h = λ d. absurd (true≢false d)
quiescent_own m past now x _ (DeviceMade.OwnRose p None w b a s) h = h
quiescent_own m past now x _ (DeviceMade.OwnRose _ (Some r) InResume b a s) h = h
quiescent_own m past now x _ (DeviceMade.OwnRose _ (Some r) InEarly b a s) h = h
quiescent_own m past now x _ (DeviceMade.OwnRose _ (Some r) InResumeNoirq b a s) h = h

quiescent_aside : (past : List Entry) (now : EventNow) (k : Kind) {s : Option Stage} → Outside s k → IsQuiescent past → QuiescentAfter past now k
quiescent_aside past now _ Outside.Frozen h = h
quiescent_aside past now _ _ h = h

quiescent_moved : (m : Machine) (past : List Entry) (now : EventNow) (who : Actor) (k : Kind) → Moved m past now who k → IsQuiescent past → QuiescentAfter past now k
quiescent_moved m past now who _ (Opens _ n guarded f e) h = λ d. (refl, refl)
quiescent_moved m past now who k (Makes _ here there _ a e c d) h = quiescent_made m past now there k d h
quiescent_moved m past now who k (Beside _ _ a d) h = quiescent_aside past now k d h
quiescent_moved m past now _ k (Owns x _ d) h = quiescent_own m past now x k d h

-- an attempt that nothing disturbed has not failed
pub quiescent : (m : Machine) (past : List Entry) → JournalPart m past → disturbed past ≡ false → (failed past ≡ None) × (phase_failed past ≡ None)
quiescent m [] h = λ d. (refl, refl)
quiescent m (e ∷ past) h = quiescent_moved m past e.now e.actor e.kind (moved m past e h) (quiescent m past h.1)

-- ---- the laws at the end of an attempt

answers_made : (m : Machine) (past : List Entry) (now : EventNow) (there : Stage) (k : Kind) → Made m past now there k → Side (Some there) past → AnswersFailure past k
answers_made m past now _ _ Made.Ends h = (refl, h.0)
answers_made m past now _ _ (Made.Notifies x e) h = tt
answers_made m past now _ _ _ h = tt

answers_outside : (past : List Entry) (k : Kind) {s : Option Stage} → Outside s k → AnswersFailure past k
answers_outside past _ Outside.Frozen = tt
answers_outside past _ _ = tt

answers_own : (m : Machine) (past : List Entry) (now : EventNow) (d : ℕ) (k : Kind) → DeviceMade m past now d k → AnswersFailure past k
answers_own m past now d _ (DeviceMade.OwnFails p r w g f) = tt
answers_own m past now d _ _ = tt

answers_moved : (m : Machine) (past : List Entry) (now : EventNow) (who : Actor) (k : Kind) → JournalPart m past → Moved m past now who k → AnswersFailure past k
answers_moved m past now who _ h (Opens _ n guarded f e) = tt
answers_moved m past now who k h (Makes _ here there _ a e c d) = answers_made m past now there k d (at_made m Side (side_invariant m) past h here there e c)
answers_moved m past now who k h (Beside _ _ a d) = answers_outside past k d
answers_moved m past now _ k h (Owns x _ d) = answers_own m past now x k d

-- an attempt answers the error of the step that failed, and 0 exactly if it has entered
pub answers_failure : (m : Machine) (past : List Entry) (e : Entry) → JournalPart m (e ∷ past) → AnswersFailure past e.kind
answers_failure m past e h = answers_moved m past e.now e.actor e.kind h.1 (moved m past e h)

undisturbed : (m : Machine) (past : List Entry) (k : Kind) → JournalPart m past → AnswersFailure past k → UndisturbedEnters past k
undisturbed m past (kind.Over n r) h x = λ d.
    let well : failed past ≡ None = (quiescent m past h d).0 in
    (x.1 ∙ ap is_none (x.0 ∙ well), x.0 ∙ well)
undisturbed m past _ h x = tt

-- an attempt that nothing disturbed has entered, and answers 0
pub undisturbed_enters : (m : Machine) (past : List Entry) (e : Entry) → JournalPart m (e ∷ past) → UndisturbedEnters past e.kind
undisturbed_enters m past e h = undisturbed m past e.kind h.1 (answers_failure m past e h)
