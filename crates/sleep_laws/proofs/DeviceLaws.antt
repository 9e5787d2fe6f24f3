-- The laws of devices: dependents go down first, suppliers come up first, none is left, and each stage undoes what is owed.
use Rattle.std.proofs.Common.{◌≡◌, ◌∙◌, ℕ, zero, suc, Bool, true, false, not, ◌&&◌, ◌||◌, List, [], ◌∷◌, length, replicate, is_some, Option, Some, None, refl, sym, ap, subst, arith}
use Rattle.std.specs.List.{list_all}
use Rattle.std.proofs.lemmas.Bool.{true≢false}
use Rattle.sleep_base.specs.declared.errno.Errno.{Errno}
use Rattle.sleep_model.specs.declared.entry.Actor.{Actor}
use Rattle.sleep_model.specs.declared.entry.Entry.{Entry}
use Rattle.sleep_model.specs.declared.entry.Kind.{Kind}
use Rattle.sleep_model.specs.declared.machine.Machine.{Machine}
use Rattle.sleep_model.specs.declared.machine.PlatDo.{PlatDo}
use Rattle.sleep_model.specs.declared.machine.PlatDo.TheVariants as down
use Rattle.sleep_model.specs.declared.machine.PlatUndo.{PlatUndo}
use Rattle.sleep_model.specs.declared.machine.PlatUndo.TheVariants as undo
use Rattle.sleep_model.specs.declared.progress.Callback.{Callback}
use Rattle.sleep_model.specs.declared.progress.Stage.{Stage}
use Rattle.sleep_model.specs.declared.progress.Stage.TheVariants as stage
use Rattle.sleep_model.specs.declared.progress.PhaseState.{PhaseState}
use Rattle.sleep_model.specs.declared.progress.PhaseState.TheVariants as state
use Rattle.sleep_model.specs.declared.word.EventNow.{EventNow}
use Rattle.phase_table.specs.declared.phase.Phase.{Phase}
use Rattle.phase_table.specs.declared.phase.Phase.TheVariants as phase
use Rattle.phase_table.specs.Phases.{mirror, is_down, is_up}
use Rattle.sleep_model.specs.Devices.{callback, phase_failed, is_async_device, state_in, waits_for_subordinates, waits_above}
use Rattle.sleep_model.specs.Laws.{DependentsFirst, SuppliersFirst, Owed, Restored, EntersDown, NoneIsInPhase, may_come_up, is_resuming, is_back, is_back_in_all, is_asleep}
use Rattle.sleep_model.specs.Legal.{JournalPart}
use Rattle.sleep_model.specs.Order.{order, below, above, is_among}
use Rattle.sleep_model.specs.PhaseStates.{phase_states, state_at, is_prepared, is_not_down, is_down_or_direct, is_down_in, is_direct_complete, is_not_up}
use Rattle.sleep_model.specs.Table.{stage_of}
use Rattle.sleep_laws.proofs.Boards.{at, at_is, three, mirror_down, states_length, first_none, last_found, first_found}
use Rattle.sleep_laws.proofs.LockHolding.{Moved, Opens, Makes, Beside, Owns, Outside, moved}
use Rattle.sleep_laws.proofs.Made.{Down, InSuspend, InLate, InNoirq, Up, InResume, InEarly, InResumeNoirq, Made, DeviceMade}
use Rattle.sleep_laws.proofs.Moods.{Mood, Empty, Fresh, Going, Settled, Halted, Coming, Risen, mood, mood_if, in_down, in_up, allows, when_empty, when_going, when_settled, when_risen}
use Rattle.sleep_laws.proofs.Owing.{DeviceOwed, owed}
use Rattle.sleep_laws.proofs.Passing.{device_phases, device_phases_made}
use Rattle.sleep_laws.proofs.Entering.{DevicesAsleep, enters_down}
use Rattle.sleep_laws.proofs.Restoring.{StandsRestored, restored}
use Rattle.sleep_laws.proofs.DevicePhases.{errs, Fines, InsideIf, DevicePhases, down_is}
use Rattle.sleep_laws.proofs.Turning.{never}
use Rattle.sleep_model.proofs.Dependents.{among_first, among_rest}

-- ---- small facts

-- each of a list passes if each that is among it does
all_pass : (test : ℕ → Bool) (xs : List ℕ) → ((x : ℕ) → is_among xs x ≡ true → test x ≡ true) → list_all test xs ≡ true
all_pass test [] h = refl
all_pass test (x ∷ xs) h = rw (h x (among_first x xs)) (all_pass test xs (λ y m. h y (among_rest x xs y m)))

not_up : (p : Phase) → Down p → is_up p ≡ false
not_up _ InSuspend = refl
not_up _ InLate = refl
not_up _ InNoirq = refl

pub not_down : (p : Phase) → Up p → is_down p ≡ false
not_down _ InResume = refl
not_down _ InEarly = refl
not_down _ InResumeNoirq = refl

-- ---- dependents go down first

-- a device that goes down without an error, and is done, is down or direct-complete
through_well : (s : PhaseState) → when_going false s ≡ true → is_not_down s ≡ false → is_down_or_direct s ≡ true
through_well state.Direct h u = refl
through_well state.Suspended h u = refl
through_well state.Unprepared h u = absurd (true≢false u)
through_well state.Prepared h u = absurd (true≢false u)
through_well state.Scheduled h u = absurd (true≢false u)
through_well state.Suspending h u = absurd (true≢false u)
through_well _ h u = never h

below_well : (m : Machine) (past : List Entry) (moods : Phase → Mood) (full : Bool) (p : Phase) (d : ℕ) → Fines m past moods full → Down p → moods p ≡ Going → phase_failed past ≡ None → waits_for_subordinates m past p d ≡ None → list_all (λ e. is_down_or_direct (state_in m past p e)) (below m past d) ≡ true
below_well m past moods full p d h i g f w =
    all_pass (λ e. is_down_or_direct (state_in m past p e)) (below m past d) (λ x b.
    let goes : when_going (errs past) (at (three m past x) p) ≡ true = subst (λ (a : Mood). allows a (errs past) (at (three m past x) p) ≡ true) g ((h x).allowed p i) in
    let well : when_going false (state_in m past p x) ≡ true = subst (λ (s : PhaseState). when_going false s ≡ true) (at_is m past p x i) (subst (λ (r : Option Errno). when_going (is_some r) (at (three m past x) p) ≡ true) f goes) in
    through_well (state_in m past p x) well (first_none (λ e. is_not_down (state_in m past p e)) (below m past d) w x b))

down_goes : (p : Phase) → Down p → in_down p p ≡ Going
down_goes _ InSuspend = refl
down_goes _ InLate = refl
down_goes _ InNoirq = refl

-- a device may be scheduled on the way down only while devices go down
scheduled_going : (a : Mood) (e : Bool) → allows a e state.Scheduled ≡ true → a ≡ Going
scheduled_going Going e h = refl
scheduled_going Empty e h = never h
scheduled_going Fresh e h = never h
scheduled_going Settled e h = never h
scheduled_going Halted e h = never h
scheduled_going Coming e h = never h
scheduled_going Risen e h = never h

going_at : (m : Machine) (past : List Entry) → DevicePhases m past (stage_of past) → (p : Phase) (d : ℕ) → Down p → state_in m past p d ≡ state.Scheduled → mood_if (stage_of past) p ≡ Going
going_at m past h p d i e = scheduled_going (mood_if (stage_of past) p) (errs past) (subst (λ (s : PhaseState). allows (mood_if (stage_of past) p) (errs past) s ≡ true) (at_is m past p d i ∙ e) ((h.0 d).allowed p i))

maker_dependents : (m : Machine) (past : List Entry) (now : EventNow) (there : Stage) (k : Kind) → Made m past now there k → DevicePhases m past (Some there) → DependentsFirst m past k
maker_dependents m past now _ _ (Made.BeginsDown p d i t e a) h = λ q. below_well m past (in_down p) true p d h.0 i (down_goes p i) t.well t.waits
maker_dependents m past now _ _ (Made.BeginsUp p d u c g n w) h = λ q. never (sym (not_down p u) ∙ q)
maker_dependents m past now _ _ _ h = tt

own_dependents : (m : Machine) (past : List Entry) (now : EventNow) (d : ℕ) (k : Kind) → DeviceMade m past now d k → DevicePhases m past (stage_of past) → DependentsFirst m past k
own_dependents m past now d _ (DeviceMade.OwnBegins p i g f t a) h = λ q. below_well m past (λ r. mood_if (stage_of past) r) _ p d h.0 i (going_at m past h p d i g.states) f g.waits
own_dependents m past now d _ (DeviceMade.OwnRises p u a w s n) h = λ q. never (sym (not_down p u) ∙ q)
own_dependents m past now d _ _ h = tt

outside_dependents : (m : Machine) (past : List Entry) (k : Kind) {s : Option Stage} → Outside s k → DependentsFirst m past k
outside_dependents m past _ Outside.Frozen = tt
outside_dependents m past _ _ = tt

dependents_moved : (m : Machine) (past : List Entry) (now : EventNow) (who : Actor) (k : Kind) → JournalPart m past → Moved m past now who k → DependentsFirst m past k
dependents_moved m past now _ _ h (Opens who n guarded f e) = tt
dependents_moved m past now _ _ h (Makes who here there k a e c x) = maker_dependents m past now there k x (device_phases_made m past h here there e c)
dependents_moved m past now _ _ h (Beside who k a x) = outside_dependents m past k x
dependents_moved m past now _ _ h (Owns d k x) = own_dependents m past now d k x (device_phases m past h)

-- a device begins to go down only if all below it are down, or were direct-complete
pub dependents_first : (m : Machine) (past : List Entry) (e : Entry) → JournalPart m (e ∷ past) → DependentsFirst m past e.kind
dependents_first m past e h = dependents_moved m past e.now e.actor e.kind h.1 (moved m past e h)

-- ---- suppliers come up first

above_up : (m : Machine) (past : List Entry) (p : Phase) (d : ℕ) → waits_above m past p d ≡ None → list_all (λ e. not (is_not_up (state_in m past p e))) (above m past d) ≡ true
above_up m past p d w = all_pass (λ e. not (is_not_up (state_in m past p e))) (above m past d) (λ x a. ap not (first_none (λ e. is_not_up (state_in m past p e)) (above m past d) w x a))

maker_suppliers : (m : Machine) (past : List Entry) (now : EventNow) (there : Stage) (k : Kind) → Made m past now there k → SuppliersFirst m past k
maker_suppliers m past now _ _ (Made.BeginsUp p d u c g n w) = λ q. above_up m past (mirror p) d w
maker_suppliers m past now _ _ (Made.BeginsDown p d i t e a) = λ q. never (sym (not_up p i) ∙ q)
maker_suppliers m past now _ _ _ = tt

own_suppliers : (m : Machine) (past : List Entry) (now : EventNow) (d : ℕ) (k : Kind) → DeviceMade m past now d k → SuppliersFirst m past k
own_suppliers m past now d _ (DeviceMade.OwnRises p u a w s n) = λ q. above_up m past (mirror p) d n
own_suppliers m past now d _ (DeviceMade.OwnBegins p i g f t a) = λ q. never (sym (not_up p i) ∙ q)
own_suppliers m past now d _ _ = tt

outside_suppliers : (m : Machine) (past : List Entry) (k : Kind) {s : Option Stage} → Outside s k → SuppliersFirst m past k
outside_suppliers m past _ Outside.Frozen = tt
outside_suppliers m past _ _ = tt

suppliers_moved : (m : Machine) (past : List Entry) (now : EventNow) (who : Actor) (k : Kind) → Moved m past now who k → SuppliersFirst m past k
suppliers_moved m past now _ _ (Opens who n guarded f e) = tt
suppliers_moved m past now _ _ (Makes who here there k a e c x) = maker_suppliers m past now there k x
suppliers_moved m past now _ _ (Beside who k a x) = outside_suppliers m past k x
suppliers_moved m past now _ _ (Owns d k x) = own_suppliers m past now d k x

-- a device begins to come up only if none above it is still down
pub suppliers_first : (m : Machine) (past : List Entry) (e : Entry) → JournalPart m (e ∷ past) → SuppliersFirst m past e.kind
suppliers_first m past e h = suppliers_moved m past e.now e.actor e.kind (moved m past e h)

-- ---- what is owed of devices

-- what a callback of the maker says of its device
pub inside_is : (m : Machine) (past : List Entry) (o : Option Callback) (q p : Phase) (d : ℕ) (s : PhaseState) → Down p → o ≡ Some (record { phase = q; device = d }) → InsideIf m o s p (three m past) → state_in m past p d ≡ s
inside_is m past o q p d s i e h = sym (at_is m past p d i) ∙ (subst (λ (c : Option Callback). InsideIf m c s p (three m past)) e h).inside

-- a prepared device that has risen is back
risen_back : (s : PhaseState) → when_risen s ≡ true → is_prepared s ≡ true → is_back s ≡ true
risen_back state.Prepared h p = refl
risen_back state.Failed h p = refl
risen_back state.Direct h p = refl
risen_back state.Resumed h p = refl
risen_back state.Unprepared h p = never p
risen_back _ h p = never h

back_in : (m : Machine) (past : List Entry) → Fines m past (λ q. Risen) false → (d : ℕ) → is_prepared (state_in m past phase.Suspend d) ≡ true → (p : Phase) → Down p → is_back (state_in m past p d) ≡ true
back_in m past h d e p i = ap is_back (sym (at_is m past p d i)) ∙ risen_back (at (three m past d) p) ((h d).allowed p i) ((h d).alike p i ∙ e)

all_back : (a b c : Bool) → a ≡ true → b ≡ true → c ≡ true → (a && b && c) ≡ true
all_back true true true e f g = refl
all_back false b c e f g = never e
all_back true false c e f g = never f
all_back true true false e f g = never g

back_in_all : (m : Machine) (past : List Entry) → Fines m past (λ q. Risen) false → (d : ℕ) → is_prepared (state_in m past phase.Suspend d) ≡ true → is_back_in_all m past d ≡ true
back_in_all m past h d e =
    all_back (is_back (state_in m past phase.Suspend d)) (is_back (state_in m past phase.Late d)) (is_back (state_in m past phase.Noirq d))
    (back_in m past h d e phase.Suspend InSuspend) (back_in m past h d e phase.Late InLate) (back_in m past h d e phase.Noirq InNoirq)

and_left : (a b : Bool) → (a && b) ≡ true → a ≡ true
and_left true b e = refl
and_left false b e = never e

maker_owed : (m : Machine) (past : List Entry) (now : EventNow) (there : Stage) (k : Kind) → Made m past now there k → DevicePhases m past (Some there) → DeviceOwed m past k
maker_owed m past now _ _ (Made.BeginsUp p d u c g n w) h =
    λ q. ap may_come_up (down_is (state_in m past (mirror p) d) (and_left (is_down_in (state_in m past (mirror p) d)) (not (is_async_device m d)) (first_found (λ y. is_down_in (state_in m past (mirror p) y) && not (is_async_device m y)) (order m past) d n).passes))
maker_owed m past now _ _ (Made.SchedulesUp p d u c n) h =
    λ q. and_left (is_down_in (state_in m past (mirror p) d)) (is_async_device m d) (first_found (λ y. is_down_in (state_in m past (mirror p) y) && is_async_device m y) (order m past) d n).passes
maker_owed m past now _ _ (Made.EndsUp p q d r u c) h = λ e. ap is_resuming (inside_is m past (callback past) q (mirror p) d state.Resuming (mirror_down p u) c h.1)
maker_owed m past now _ _ (Made.BeginsDown p d i t e a) h = λ q. never (sym (not_up p i) ∙ q)
maker_owed m past now _ _ (Made.SchedulesDown p d i c f n a) h = λ q. never (sym (not_up p i) ∙ q)
maker_owed m past now _ _ (Made.EndsDown p q d r i c) h = λ e. never (sym (not_up p i) ∙ e)
maker_owed m past now _ _ (Made.Completes d n) h = back_in_all m past h.0 d (last_found (λ y. is_prepared (state_in m past phase.Suspend y)) (order m past) d n).passes
maker_owed m past now _ _ _ h = tt

own_owed : (m : Machine) (past : List Entry) (now : EventNow) (d : ℕ) (k : Kind) → DeviceMade m past now d k → DeviceOwed m past k
own_owed m past now d _ (DeviceMade.OwnRises p u a w s n) = λ q. ap may_come_up s
own_owed m past now d _ (DeviceMade.OwnRose p r u a w s) = λ q. ap is_resuming s
own_owed m past now d _ (DeviceMade.OwnBegins p i g f t a) = λ q. never (sym (not_up p i) ∙ q)
own_owed m past now d _ (DeviceMade.OwnEnds p r i a w s) = λ q. never (sym (not_up p i) ∙ q)
own_owed m past now d _ _ = tt

outside_owed : (m : Machine) (past : List Entry) (k : Kind) {s : Option Stage} → Outside s k → DeviceOwed m past k
outside_owed m past _ Outside.Frozen = tt
outside_owed m past _ _ = tt

owed_moved : (m : Machine) (past : List Entry) (now : EventNow) (who : Actor) (k : Kind) → JournalPart m past → Moved m past now who k → DeviceOwed m past k
owed_moved m past now _ _ h (Opens who n guarded f e) = tt
owed_moved m past now _ _ h (Makes who here there k a e c x) = maker_owed m past now there k x (device_phases_made m past h here there e c)
owed_moved m past now _ _ h (Beside who k a x) = outside_owed m past k x
owed_moved m past now _ _ h (Owns d k x) = own_owed m past now d k x

-- a device comes up, or is completed, only if that is owed
pub owed_device : (m : Machine) (past : List Entry) (e : Entry) → JournalPart m (e ∷ past) → DeviceOwed m past e.kind
owed_device m past e h = owed_moved m past e.now e.actor e.kind h.1 (moved m past e h)

-- ---- no device is in a phase once an attempt is over

empty_is : (s : PhaseState) → when_empty s ≡ true → s ≡ state.Unprepared
empty_is state.Unprepared h = refl
empty_is _ h = never h

all_unprepared : (n : ℕ) (xs : List PhaseState) → length xs ≡ n → ((d : ℕ) → state_at xs d ≡ state.Unprepared) → xs ≡ replicate n state.Unprepared
all_unprepared zero [] l h = refl
all_unprepared zero (x ∷ xs) l h = absurd (omega arith)
all_unprepared (suc n) [] l h = absurd (omega arith)
all_unprepared (suc n) (x ∷ xs) l h =
    let first : x ≡ state.Unprepared = h 0 in
    let rest : xs ≡ replicate n state.Unprepared = all_unprepared n xs (omega arith) (λ d. h (suc d)) in
    cc

pub none_stands : (m : Machine) (past : List Entry) → Fines m past (λ q. Empty) false → (p : Phase) → Down p → NoneIsInPhase m p past
none_stands m past h p i = all_unprepared (length m.devices) (phase_states (length m.devices) p past) (states_length (length m.devices) p past) (λ d. sym (at_is m past p d i) ∙ empty_is (at (three m past d) p) ((h d).allowed p i))

maker_restored : (m : Machine) (past : List Entry) (now : EventNow) (there : Stage) (k : Kind) → Made m past now there k → DevicePhases m past (Some there) → StandsRestored m past k
maker_restored m past now _ _ Made.Ends h = (none_stands m past h.0 phase.Suspend InSuspend, none_stands m past h.0 phase.Late InLate, none_stands m past h.0 phase.Noirq InNoirq)
maker_restored m past now _ _ _ h = tt

own_restored : (m : Machine) (past : List Entry) (now : EventNow) (d : ℕ) (k : Kind) → DeviceMade m past now d k → StandsRestored m past k
own_restored m past now d _ (DeviceMade.OwnRises p u a w s n) = tt
own_restored m past now d _ _ = tt

outside_restored : (m : Machine) (past : List Entry) (k : Kind) {s : Option Stage} → Outside s k → StandsRestored m past k
outside_restored m past _ Outside.Frozen = tt
outside_restored m past _ _ = tt

restored_moved : (m : Machine) (past : List Entry) (now : EventNow) (who : Actor) (k : Kind) → JournalPart m past → Moved m past now who k → StandsRestored m past k
restored_moved m past now _ _ h (Opens who n guarded f e) = tt
restored_moved m past now _ _ h (Makes who here there k a e c x) = maker_restored m past now there k x (device_phases_made m past h here there e c)
restored_moved m past now _ _ h (Beside who k a x) = outside_restored m past k x
restored_moved m past now _ _ h (Owns d k x) = own_restored m past now d k x

-- no device is in a phase once an attempt is over
pub stands_restored : (m : Machine) (past : List Entry) (e : Entry) → JournalPart m (e ∷ past) → StandsRestored m past e.kind
stands_restored m past e h = restored_moved m past e.now e.actor e.kind h.1 (moved m past e h)

-- ---- all are down when the machine enters

settled_down : (s t : PhaseState) → when_settled s ≡ true → is_prepared s ≡ true → (is_direct_complete s ≡ true → is_direct_complete t ≡ true) → (is_down_in s || is_direct_complete t) ≡ true
settled_down state.Suspended t h p a = refl
settled_down state.Direct t h p a = a refl
settled_down state.Unprepared t h p a = never p
settled_down _ t h p a = never h

down_in : (m : Machine) (past : List Entry) → Fines m past (λ q. Settled) true → (x : ℕ) → is_among (order m past) x ≡ true → (q : Phase) → Down q → (is_down_in (state_in m past q x) || is_direct_complete (state_in m past phase.Suspend x)) ≡ true
down_in m past h x o q i =
    subst (λ (s : PhaseState). (is_down_in s || is_direct_complete (state_in m past phase.Suspend x)) ≡ true) (at_is m past q x i)
    (settled_down (at (three m past x) q) (state_in m past phase.Suspend x) ((h x).allowed q i) ((h x).alike q i ∙ (h x).prepared o) ((h x).alone q i))

all_or : (a b c d : Bool) → (a || d) ≡ true → (b || d) ≡ true → (c || d) ≡ true → ((a && b && c) || d) ≡ true
all_or true true true d e f g = refl
all_or a b c true e f g = by_or (a && b && c)
  where
    by_or : (x : Bool) → (x || true) ≡ true
    by_or true = refl
    by_or false = refl
all_or false b c false e f g = never e
all_or true false c false e f g = never f
all_or true true false false e f g = never g

all_asleep : (m : Machine) (past : List Entry) → Fines m past (λ q. Settled) true → list_all (is_asleep m past) (order m past) ≡ true
all_asleep m past h = all_pass (is_asleep m past) (order m past) (λ x o.
    all_or (is_down_in (state_in m past phase.Suspend x)) (is_down_in (state_in m past phase.Late x)) (is_down_in (state_in m past phase.Noirq x)) (is_direct_complete (state_in m past phase.Suspend x))
    (down_in m past h x o phase.Suspend InSuspend) (down_in m past h x o phase.Late InLate) (down_in m past h x o phase.Noirq InNoirq))

maker_enters : (m : Machine) (past : List Entry) (now : EventNow) (there : Stage) (k : Kind) → Made m past now there k → DevicePhases m past (Some there) → DevicesAsleep m past k
maker_enters m past now _ _ (Made.Enters s w) h = all_asleep m past h.0
maker_enters m past now _ _ (Made.EntersNot s w) h = tt
maker_enters m past now _ _ _ h = tt

own_enters : (m : Machine) (past : List Entry) (now : EventNow) (d : ℕ) (k : Kind) → DeviceMade m past now d k → DevicesAsleep m past k
own_enters m past now d _ (DeviceMade.OwnRises p u a w s n) = tt
own_enters m past now d _ _ = tt

outside_enters : (m : Machine) (past : List Entry) (k : Kind) {s : Option Stage} → Outside s k → DevicesAsleep m past k
outside_enters m past _ Outside.Frozen = tt
outside_enters m past _ _ = tt

enters_moved : (m : Machine) (past : List Entry) (now : EventNow) (who : Actor) (k : Kind) → JournalPart m past → Moved m past now who k → DevicesAsleep m past k
enters_moved m past now _ _ h (Opens who n guarded f e) = tt
enters_moved m past now _ _ h (Makes who here there k a e c x) = maker_enters m past now there k x (device_phases_made m past h here there e c)
enters_moved m past now _ _ h (Beside who k a x) = outside_enters m past k x
enters_moved m past now _ _ h (Owns d k x) = own_enters m past now d k x

-- each device of the order is down, or was direct-complete, when the machine enters
pub devices_down : (m : Machine) (past : List Entry) (e : Entry) → JournalPart m (e ∷ past) → DevicesAsleep m past e.kind
devices_down m past e h = enters_moved m past e.now e.actor e.kind h.1 (moved m past e h)

-- ---- the whole laws

-- only what is owed is undone
pub all_owed : (m : Machine) (past : List Entry) (e : Entry) → JournalPart m (e ∷ past) → Owed m past e.kind
all_owed m past e h = owed m past e h (owed_device m past e h)

-- nothing is owed once an attempt is over
pub all_restored : (m : Machine) (past : List Entry) (e : Entry) → JournalPart m (e ∷ past) → Restored m past e.kind
all_restored m past e h = restored m past e h (stands_restored m past e h)

-- the machine enters only if all is down
pub all_down : (m : Machine) (past : List Entry) (e : Entry) → JournalPart m (e ∷ past) → EntersDown m past e.kind
all_down m past e h = enters_down m past e h (devices_down m past e h)

-- ---- the stage of a device that is scheduled

in_downs : (p q : Phase) (e : Bool) → Down q → allows (in_down p q) e state.Scheduled ≡ true → stage.Downs p ≡ stage.Downs q
in_downs phase.Suspend _ e InSuspend h = refl
in_downs phase.Late _ e InLate h = refl
in_downs phase.Noirq _ e InNoirq h = refl
in_downs _ _ e InSuspend h = never h
in_downs _ _ e InLate h = never h
in_downs _ _ e InNoirq h = never h

in_ups : (p q : Phase) (e : Bool) → Down q → allows (in_up p q) e state.Scheduled ≡ true → ⊥
in_ups phase.Resume _ e InSuspend h = never h
in_ups phase.Resume _ e InLate h = never h
in_ups phase.Resume _ e InNoirq h = never h
in_ups _ _ e InSuspend h = never h
in_ups _ _ e InLate h = never h
in_ups _ _ e InNoirq h = never h

in_platform_down : (a : PlatDo) (q : Phase) (e : Bool) → Down q → allows (mood (stage.PlatformDo a) q) e state.Scheduled ≡ true → ⊥
in_platform_down down.Begin _ e i h = never h
in_platform_down down.Prepare _ e InSuspend h = never h
in_platform_down down.Prepare _ e InLate h = never h
in_platform_down down.Prepare _ e InNoirq h = never h
in_platform_down down.PrepareLate _ e i h = never h

in_platform_up : (a : PlatUndo) (q : Phase) (e : Bool) → Down q → allows (mood (stage.PlatformUndo a) q) e state.Scheduled ≡ true → ⊥
in_platform_up undo.Recover _ e InSuspend h = never h
in_platform_up undo.Recover _ e InLate h = never h
in_platform_up undo.Recover _ e InNoirq h = never h
in_platform_up undo.Finish _ e InSuspend h = never h
in_platform_up undo.Finish _ e InLate h = never h
in_platform_up undo.Finish _ e InNoirq h = never h
in_platform_up undo.Wake _ e i h = never h
in_platform_up undo.End _ e i h = never h

scheduled_at : (st : Option Stage) (q : Phase) (e : Bool) → Down q → allows (mood_if st q) e state.Scheduled ≡ true → st ≡ Some (stage.Downs q)
scheduled_at (Some (stage.Downs p)) q e i h = ap Some (in_downs p q e i h)
scheduled_at (Some (stage.Ups p)) q e i h = absurd (in_ups p q e i h)
scheduled_at (Some (stage.PlatformDo a)) q e i h = absurd (in_platform_down a q e i h)
scheduled_at (Some (stage.PlatformUndo a)) q e i h = absurd (in_platform_up a q e i h)
scheduled_at None q e i h = never h
scheduled_at (Some _) q e i h = never h

-- the phase under way is that of a device which was scheduled on the way down
pub scheduled_stage : (m : Machine) (past : List Entry) → JournalPart m past → (p : Phase) (d : ℕ) → Down p → state_in m past p d ≡ state.Scheduled → stage_of past ≡ Some (stage.Downs p)
scheduled_stage m past h p d i e =
    let s : DevicePhases m past (stage_of past) = device_phases m past h in
    scheduled_at (stage_of past) p (errs past) i (subst (λ (x : PhaseState). allows (mood_if (stage_of past) p) (errs past) x ≡ true) (at_is m past p d i ∙ e) ((s.0 d).allowed p i))
