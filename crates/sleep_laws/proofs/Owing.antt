-- Only what is owed is undone, and a test that found a wakeup only if one is pending.
use Rattle.std.proofs.Common.{◌≡◌, ℕ, true, List, ◌∷◌, Option, Some, is_some, length, refl, sym, ap}
use Rattle.std.proofs.lemmas.Bool.{true≢false}
use Rattle.sleep_base.specs.declared.errno.Errno.TheVariants.{EINVAL}
use Rattle.sleep_model.specs.declared.entry.Actor.{Actor}
use Rattle.sleep_model.specs.declared.entry.Entry.{Entry}
use Rattle.sleep_model.specs.declared.entry.Kind.{Kind}
use Rattle.sleep_model.specs.declared.entry.Kind.TheVariants as kind
use Rattle.sleep_model.specs.declared.machine.Machine.{Machine}
use Rattle.sleep_model.specs.declared.progress.Stage.{Stage}
use Rattle.sleep_model.specs.declared.word.EventNow.{EventNow}
use Rattle.phase_table.specs.Phases.{is_up, mirror}
use Rattle.sleep_model.specs.Devices.{state_in}
use Rattle.sleep_model.specs.Guard.{count_effect}
use Rattle.sleep_model.specs.Laws.{Owed, FoundPending, may_come_up, is_resuming, is_back_in_all}
use Rattle.sleep_model.specs.Legal.{JournalPart}
use Rattle.sleep_model.specs.Notifiers.{notified_flags, stopped, cpus_off, call_order, syscore_steps, other_cpus}
use Rattle.sleep_model.specs.PhaseStates.{is_down_in}
use Rattle.sleep_model.specs.Walk.{is_so}
use Rattle.sleep_laws.proofs.Flags.{first_passes}
use Rattle.sleep_laws.proofs.LockHolding.{Outside, Moved, Opens, Makes, Beside, Owns, at_made, moved}
use Rattle.sleep_laws.proofs.Levels.{Exact, exact_invariant}
use Rattle.sleep_laws.proofs.Made.{Made, DeviceMade}

-- the part of the law that is on devices: one comes up only if it may, and is completed only if no other undo is owed to it
abbrev pub DeviceOwed : Machine → List Entry → Kind → Type 0
DeviceOwed m past (kind.Schedule p d) = is_up p ≡ true → is_down_in (state_in m past (mirror p) d) ≡ true
DeviceOwed m past (kind.Begin p d) = is_up p ≡ true → may_come_up (state_in m past (mirror p) d) ≡ true
DeviceOwed m past (kind.End p d r) = is_up p ≡ true → is_resuming (state_in m past (mirror p) d) ≡ true
DeviceOwed m past (kind.Complete d) = is_back_in_all m past d ≡ true
DeviceOwed m past _ = Unit {0}

owed_made : (m : Machine) (past : List Entry) (now : EventNow) (there : Stage) (k : Kind) → Made m past now there k → Exact (Some there) past → DeviceOwed m past k → Owed m past k
owed_made m past now _ _ (Made.SchedulesDown p x w c f n a) h d = d
owed_made m past now _ _ (Made.SchedulesUp p x w c n) h d = d
owed_made m past now _ _ (Made.EndsDown p q x r w c) h d = d
owed_made m past now _ _ (Made.EndsUp p q x r w c) h d = d
owed_made m past now _ _ (Made.BeginsDown p x w at t f) h d = d
owed_made m past now _ _ (Made.BeginsUp p x w c g n a) h d = d
owed_made m past now _ _ (Made.Completes x e) h d = d
owed_made m past now _ _ Made.StopsIrqs h d = λ e. absurd (true≢false (sym e))
owed_made m past now _ _ Made.StartsIrqs h d = λ e. h.0
owed_made m past now _ _ (Made.StartsPart x e) h d = first_passes (is_so (stopped (length m.syscore) past)) (syscore_steps m) x e
owed_made m past now _ _ (Made.StartsCpu k e) h d = first_passes (is_so (cpus_off m.cpus past)) (other_cpus m) k e
owed_made m past now _ _ (Made.Posts x e) h d = first_passes (is_so (notified_flags m past)) (call_order m) x e
owed_made m past now _ _ Made.PlatformWakes h d = h.3
owed_made m past now _ _ Made.PlatformFinishes h d = h.2
owed_made m past now _ _ Made.PlatformRecovers h d = refl
owed_made m past now _ _ Made.PlatformEnds h d = h.1
owed_made m past now _ _ (Made.Wakes s by_event e) h d = ap is_some e
owed_made m past now _ _ _ h d = tt

owed_own : (m : Machine) (past : List Entry) (now : EventNow) (x : ℕ) (k : Kind) → DeviceMade m past now x k → DeviceOwed m past k → Owed m past k
owed_own m past now x _ (DeviceMade.OwnBegins p w g f t e) d = d
owed_own m past now x _ (DeviceMade.OwnRises p w b a s e) d = d
owed_own m past now x _ (DeviceMade.OwnEnds p r w b a s) d = d
owed_own m past now x _ (DeviceMade.OwnRose p r w b a s) d = d
owed_own m past now x _ _ d = tt

owed_outside : (m : Machine) (past : List Entry) (k : Kind) {s : Option Stage} → Outside s k → Owed m past k
owed_outside m past _ Outside.Frozen = tt
owed_outside m past _ _ = tt

owed_moved : (m : Machine) (past : List Entry) (now : EventNow) (who : Actor) (k : Kind) → JournalPart m past → Moved m past now who k → DeviceOwed m past k → Owed m past k
owed_moved m past now who _ h (Opens _ n guarded f e) d = tt
owed_moved m past now who k h (Makes _ here there _ a e c x) d = owed_made m past now there k x (at_made m Exact (exact_invariant m) past h here there e c) d
owed_moved m past now who k h (Beside _ _ a x) d = owed_outside m past k x
owed_moved m past now _ k h (Owns y _ x) d = owed_own m past now y k x d

-- only what is owed is undone, if that holds of devices
pub owed : (m : Machine) (past : List Entry) (e : Entry) → JournalPart m (e ∷ past) → DeviceOwed m past e.kind → Owed m past e.kind
owed m past e h d = owed_moved m past e.now e.actor e.kind h.1 (moved m past e h) d

-- ---- tests

found_made : (m : Machine) (past : List Entry) (now : EventNow) (there : Stage) (k : Kind) → Made m past now there k → FoundPending past now (count_effect k)
found_made m past now _ _ (Made.UserWakes s n x e f) = f
found_made m past now _ _ (Made.KernelWakes s n x e f) = f
found_made m past now _ _ (Made.FindsDown p x w at t f) = f
found_made m past now _ _ (Made.FindsCpu k e f) = f
found_made m past now _ _ (Made.FindsCheck e) = e
found_made m past now _ _ (Made.EntersNot e f) = f
found_made m past now _ _ _ = tt

found_own : (m : Machine) (past : List Entry) (now : EventNow) (x : ℕ) (k : Kind) → DeviceMade m past now x k → FoundPending past now (count_effect k)
found_own m past now x _ (DeviceMade.OwnFinds p w g f t e) = e
found_own m past now x _ _ = tt

found_outside : (past : List Entry) (now : EventNow) (k : Kind) {s : Option Stage} → Outside s k → FoundPending past now (count_effect k)
found_outside past now _ (Outside.SaveErr c EINVAL) = tt
found_outside past now _ _ = tt

found_moved : (m : Machine) (past : List Entry) (now : EventNow) (who : Actor) (k : Kind) → Moved m past now who k → FoundPending past now (count_effect k)
found_moved m past now who _ (Opens _ n guarded f e) = tt
found_moved m past now who k (Makes _ here there _ a e c x) = found_made m past now there k x
found_moved m past now who k (Beside _ _ a x) = found_outside past now k x
found_moved m past now _ k (Owns y _ x) = found_own m past now y k x

-- a test that found a wakeup is made only if one is pending at the word that it saw
pub found_pending : (m : Machine) (past : List Entry) (e : Entry) → JournalPart m (e ∷ past) → FoundPending past e.now (count_effect e.kind)
found_pending m past e h = found_moved m past e.now e.actor e.kind (moved m past e h)
