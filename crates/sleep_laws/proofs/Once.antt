-- Each thing is taken down once before it is brought back.
use Rattle.std.proofs.Common.{◌≡◌, ◌∙◌, ℕ, Bool, true, false, not, List, ◌∷◌, length, Option, Some, is_some, refl, sym, ap}
use Rattle.std.proofs.lemmas.Bool.{true≢false}
use Rattle.sleep_model.specs.declared.entry.Actor.{Actor}
use Rattle.sleep_model.specs.declared.entry.Entry.{Entry}
use Rattle.sleep_model.specs.declared.entry.Kind.{Kind}
use Rattle.sleep_model.specs.declared.machine.Machine.{Machine}
use Rattle.sleep_model.specs.declared.progress.Stage.{Stage}
use Rattle.sleep_model.specs.declared.progress.PhaseState.{PhaseState}
use Rattle.sleep_model.specs.declared.progress.PhaseState.TheVariants as state
use Rattle.sleep_model.specs.declared.word.EventNow.{EventNow}
use Rattle.phase_table.specs.declared.phase.Phase.{Phase}
use Rattle.phase_table.specs.declared.phase.Phase.TheVariants as phase
use Rattle.sleep_model.specs.Devices.{callback, state_in, next_down}
use Rattle.sleep_model.specs.Laws.{TakenOnce, NotOwedAlready, may_go_down, is_suspending}
use Rattle.sleep_model.specs.Legal.{JournalPart}
use Rattle.sleep_model.specs.Notifiers.{notified_flags, stopped, cpus_off, call_order, syscore_steps, other_cpus}
use Rattle.sleep_model.specs.Order.{order}
use Rattle.sleep_model.specs.PhaseStates.{is_unprepared, is_ready}
use Rattle.sleep_model.specs.Walk.{is_so, first_where}
use Rattle.sleep_laws.proofs.Boards.{first_found, last_found}
use Rattle.sleep_laws.proofs.DeviceLaws.{inside_is, not_down}
use Rattle.sleep_laws.proofs.Flags.{first_passes}
use Rattle.sleep_laws.proofs.LockHolding.{Outside, Moved, Opens, Makes, Beside, Owns, at_made, moved}
use Rattle.sleep_laws.proofs.Levels.{Exact, exact_invariant}
use Rattle.sleep_laws.proofs.Made.{Made, DeviceMade}
use Rattle.sleep_laws.proofs.Passing.{device_phases_made}
use Rattle.sleep_laws.proofs.DevicePhases.{DevicePhases}
use Rattle.sleep_laws.proofs.Turning.{never}

-- ---- devices

-- a phase may take a device that it has not taken
ready_may : (s : PhaseState) → is_ready s ≡ true → may_go_down s ≡ true
ready_may state.Prepared h = refl
ready_may _ h = never h

next_may : (m : Machine) (past : List Entry) (p : Phase) (d : ℕ) → next_down m past p ≡ Some d → may_go_down (state_in m past p d) ≡ true
next_may m past p d n = ready_may (state_in m past p d) (last_found (λ y. is_ready (state_in m past p y)) (order m past) d n).passes

maker_once : (m : Machine) (past : List Entry) (now : EventNow) (there : Stage) (k : Kind) → Made m past now there k → DevicePhases m past (Some there) → TakenOnce m past k
maker_once m past now _ _ (Made.Prepares d r f n) h = (first_found (λ y. is_unprepared (state_in m past phase.Suspend y)) (order m past) d n).passes
maker_once m past now _ _ (Made.SchedulesDown p d i c f n a) h = λ q. (last_found (λ y. is_ready (state_in m past p y)) (order m past) d n).passes
maker_once m past now _ _ (Made.FindsDown p d i t e w) h = λ q. next_may m past p d t.next
maker_once m past now _ _ (Made.LeavesDown p d i t e a) h = λ q. next_may m past p d t.next
maker_once m past now _ _ (Made.BeginsDown p d i t e a) h = λ q. next_may m past p d t.next
maker_once m past now _ _ (Made.EndsDown p q d r i c) h = λ e. ap is_suspending (inside_is m past (callback past) q p d state.Suspending i c h.1)
maker_once m past now _ _ (Made.SchedulesUp p d u c n) h = λ q. never (sym (not_down p u) ∙ q)
maker_once m past now _ _ (Made.BeginsUp p d u c g n w) h = λ q. never (sym (not_down p u) ∙ q)
maker_once m past now _ _ (Made.EndsUp p q d r u c) h = λ e. never (sym (not_down p u) ∙ e)
maker_once m past now _ _ _ h = tt

own_once : (m : Machine) (past : List Entry) (now : EventNow) (d : ℕ) (k : Kind) → DeviceMade m past now d k → TakenOnce m past k
own_once m past now d _ (DeviceMade.OwnFails p r i g f) = λ q. ap may_go_down g.states
own_once m past now d _ (DeviceMade.OwnFinds p i g f t e) = λ q. ap may_go_down g.states
own_once m past now d _ (DeviceMade.OwnLeaves p i g f t a) = λ q. ap may_go_down g.states
own_once m past now d _ (DeviceMade.OwnBegins p i g f t a) = λ q. ap may_go_down g.states
own_once m past now d _ (DeviceMade.OwnEnds p r i a w s) = λ q. ap is_suspending s
own_once m past now d _ (DeviceMade.OwnRises p u a w s n) = λ q. never (sym (not_down p u) ∙ q)
own_once m past now d _ (DeviceMade.OwnRose p r u a w s) = λ q. never (sym (not_down p u) ∙ q)

outside_once : (m : Machine) (past : List Entry) (k : Kind) {s : Option Stage} → Outside s k → TakenOnce m past k
outside_once m past _ Outside.Frozen = tt
outside_once m past _ _ = tt

once_moved : (m : Machine) (past : List Entry) (now : EventNow) (who : Actor) (k : Kind) → JournalPart m past → Moved m past now who k → TakenOnce m past k
once_moved m past now _ _ h (Opens who n guarded f e) = tt
once_moved m past now _ _ h (Makes who here there k a e c x) = maker_once m past now there k x (device_phases_made m past h here there e c)
once_moved m past now _ _ h (Beside who k a x) = outside_once m past k x
once_moved m past now _ _ h (Owns d k x) = own_once m past now d k x

-- a device is prepared once, and each phase on the way down takes it once
pub taken_once : (m : Machine) (past : List Entry) (e : Entry) → JournalPart m (e ∷ past) → TakenOnce m past e.kind
taken_once m past e h = once_moved m past e.now e.actor e.kind h.1 (moved m past e h)

-- ---- the rest

not_true : (b : Bool) → not b ≡ true → b ≡ false
not_true true e = never e
not_true false e = refl

-- what is found among those that are not so is not so
found_not : (flags : List Bool) (xs : List ℕ) (x : ℕ) → first_where (λ y. not (is_so flags y)) xs ≡ Some x → is_so flags x ≡ false
found_not flags xs x e = not_true (is_so flags x) (first_passes (λ y. not (is_so flags y)) xs x e)

made_already : (m : Machine) (past : List Entry) (now : EventNow) (there : Stage) (k : Kind) → Made m past now there k → Exact (Some there) past → NotOwedAlready m past k
made_already m past now _ _ (Made.Notifies x e) h = found_not (notified_flags m past) (call_order m) x e
made_already m past now _ _ (Made.NotifyFails x r e) h = found_not (notified_flags m past) (call_order m) x e
made_already m past now _ _ Made.PlatformBegins h = h.1
made_already m past now _ _ (Made.BeginFails r) h = h.1
made_already m past now _ _ Made.PlatformPrepares h = h.2
made_already m past now _ _ (Made.PrepareFails r) h = h.2
made_already m past now _ _ Made.PlatformPreparesLate h = h.3
made_already m past now _ _ (Made.PrepareLateFails r) h = h.3
made_already m past now _ _ (Made.StopsCpu k e f) h = found_not (cpus_off m.cpus past) (other_cpus m) k e
made_already m past now _ _ (Made.FindsCpu k e f) h = found_not (cpus_off m.cpus past) (other_cpus m) k e
made_already m past now _ _ Made.StopsIrqs h = λ e. h.0
made_already m past now _ _ Made.StartsIrqs h = λ e. absurd (true≢false e)
made_already m past now _ _ (Made.StopsPart x e) h = not_true (is_so (stopped (length m.syscore) past) x) (last_found (λ y. not (is_so (stopped (length m.syscore) past) y)) (syscore_steps m) x e).passes
made_already m past now _ _ (Made.PartFails x r e) h = not_true (is_so (stopped (length m.syscore) past) x) (last_found (λ y. not (is_so (stopped (length m.syscore) past) y)) (syscore_steps m) x e).passes
made_already m past now _ _ (Made.Enters e f) h = ap is_some e
made_already m past now _ _ (Made.EntersNot e f) h = ap is_some e
made_already m past now _ _ _ h = tt

own_already : (m : Machine) (past : List Entry) (now : EventNow) (d : ℕ) (k : Kind) → DeviceMade m past now d k → NotOwedAlready m past k
own_already m past now d _ (DeviceMade.OwnFails p r i g f) = tt
own_already m past now d _ _ = tt

outside_already : (m : Machine) (past : List Entry) (k : Kind) {s : Option Stage} → Outside s k → NotOwedAlready m past k
outside_already m past _ Outside.Frozen = tt
outside_already m past _ _ = tt

already_moved : (m : Machine) (past : List Entry) (now : EventNow) (who : Actor) (k : Kind) → JournalPart m past → Moved m past now who k → NotOwedAlready m past k
already_moved m past now _ _ h (Opens who n guarded f e) = tt
already_moved m past now _ _ h (Makes who here there k a e c x) = made_already m past now there k x (at_made m Exact (exact_invariant m) past h here there e c)
already_moved m past now _ _ h (Beside who k a x) = outside_already m past k x
already_moved m past now _ _ h (Owns d k x) = own_already m past now d k x

-- what is owed its undo is not taken down again
pub not_owed_already : (m : Machine) (past : List Entry) (e : Entry) → JournalPart m (e ∷ past) → NotOwedAlready m past e.kind
not_owed_already m past e h = already_moved m past e.now e.actor e.kind h.1 (moved m past e h)
