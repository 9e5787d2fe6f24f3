-- What an attempt needs falls with each entry of its own.
use Rattle.std.proofs.Common.{◌≡◌, ◌≤◌, ◌<◌, ◌+◌, ◌∙◌, ℕ, Bool, true, false, List, ◌∷◌, length, Option, Some, None, is_some, refl, sym, ap, arith}
use Rattle.std.proofs.lemmas.Bool.{true≢false}
use Rattle.sleep_model.specs.declared.entry.Actor.{Actor}
use Rattle.sleep_model.specs.declared.entry.Actor.TheVariants as actor
use Rattle.sleep_model.specs.declared.entry.Entry.{Entry}
use Rattle.sleep_model.specs.declared.entry.Kind.{Kind}
use Rattle.sleep_model.specs.declared.entry.SkipCause.TheVariants as skip
use Rattle.sleep_model.specs.declared.machine.Machine.{Machine}
use Rattle.sleep_model.specs.declared.machine.PlatDo.TheVariants as down
use Rattle.sleep_model.specs.declared.progress.Stage.{Stage}
use Rattle.sleep_model.specs.declared.progress.Stage.TheVariants as stage
use Rattle.sleep_model.specs.declared.progress.PhaseState.{PhaseState}
use Rattle.sleep_model.specs.declared.progress.PhaseState.TheVariants as state
use Rattle.sleep_model.specs.declared.word.EventNow.{EventNow}
use Rattle.phase_table.specs.declared.phase.Phase.{Phase}
use Rattle.phase_table.specs.Phases.{mirror}
use Rattle.sleep_model.specs.Attempt.{freeze_since, sleep_of}
use Rattle.sleep_model.specs.Devices.{phase_failed, state_in}
use Rattle.sleep_model.specs.Notifiers.{notified_flags, cpus_off, stopped}
use Rattle.sleep_model.specs.Order.{order, is_among}
use Rattle.sleep_model.specs.Table.{stage_after}
use Rattle.sleep_laws.proofs.Boards.{at_is, mirror_down}
use Rattle.sleep_laws.proofs.LockHolding.{entry_of}
use Rattle.sleep_laws.proofs.Made.{Down, Made, Comes, AtOnce, PastNotifiers, PastCpus, PastParts, PastPartsUp, PastCpusUp, PastPosts, DeviceMade}
use Rattle.sleep_laws.proofs.Moods.{when_empty}
use Rattle.sleep_laws.proofs.DevicePhases.{DevicePhases, errs, error_stays}
use Rattle.room_laws.specs.AttemptRoom.{one_unless, rows_from, things_need, notifies_ahead, cpus_ahead, syscore_ahead, devices_need, prepares_ahead, needed_at}
use Rattle.room_laws.proofs.Things.{leads, things_less}
use Rattle.room_laws.proofs.Falling.{Payer, Row, Call, Cpu, EntryClass, Device, payer, is_row, is_call, is_cpu, is_part, is_of_device, Falls, FitsKind, ahead_if, prepares_if, rows_if, rows_fall, calls_fall, cpus_fall, parts_fall, devices_fall, skips_down, begins_down, ends_down, begins_up, ends_up}

-- ---- the maker

abbrev pay : Bool → ℕ
pay true = 1
pay false = 0

fall_of : (b : Bool) (after before : ℕ) → Falls b after before → after + pay b ≤ before
fall_of true after before h = h
fall_of false after before h = omega (arith, h)

-- one pays
one_pays : (p : Payer) → 1 ≤ pay (is_row p) + (pay (is_call p) + (pay (is_cpu p) + (pay (is_part p) + pay (is_of_device p))))
one_pays Row = omega arith
one_pays Call = omega arith
one_pays Cpu = omega arith
one_pays EntryClass = omega arith
one_pays Device = omega arith

one_most : (b : Bool) → one_unless b ≤ 1
one_most true = omega arith
one_most false = omega arith

-- what is needed at a stage, if one is under way, by parts
at_most : (m : Machine) (past : List Entry) (s : Option Stage) → needed_at m past s ≤ rows_if s (is_some (freeze_since past)) (is_some (sleep_of past)) + (things_need (length m.notifiers) (ahead_if notifies_ahead s) (notified_flags m past) + (things_need m.cpus (ahead_if cpus_ahead s) (cpus_off m.cpus past) + (things_need (length m.syscore) (ahead_if syscore_ahead s) (stopped (length m.syscore) past) + devices_need m (prepares_if s (is_some (phase_failed past))) past)))
at_most m past None = omega arith
at_most m past (Some here) = omega arith

-- a stage that has nothing left needs no less
pub comes_less : (m : Machine) (past : List Entry) (here there : Stage) → Comes m past here there → needed_at m past (Some there) ≤ needed_at m past (Some here)
comes_less m past _ _ (AtOnce here) = omega arith
comes_less m past _ _ (PastNotifiers e) = omega (arith, one_most (is_some (freeze_since past)), things_less (length m.notifiers) (notified_flags m past) true false refl)
comes_less m past _ _ (PastCpus e) = omega (arith, things_less m.cpus (cpus_off m.cpus past) true false refl)
comes_less m past _ _ (PastParts e) = omega (arith, one_most (is_some (sleep_of past)), things_less (length m.syscore) (stopped (length m.syscore) past) true false refl)
comes_less m past _ _ (PastPartsUp e) = omega arith
comes_less m past _ _ (PastCpusUp e) = omega arith
comes_less m past _ _ (PastPosts e) = omega arith

module _ (m : Machine) (past : List Entry) (time : ℕ) (now : EventNow) where
  -- what the maker makes needs one entry less after it
  pub maker_spends : (who : Actor) → ((d : ℕ) → is_among (order m past) d ≡ true → d < length m.devices) → (there : Stage) (k : Kind) → Made m past now there k → FitsKind k → DevicePhases m past (Some there) → needed_at m (entry_of time now who k ∷ past) (stage_after k (Some there)) + 1 ≤ needed_at m past (Some there)
  maker_spends who inside there k x f h =
      let p : Payer = payer k in
      let most = at_most m (entry_of time now who k ∷ past) (stage_after k (Some there)) in
      let rows = fall_of (is_row p) _ _ (rows_fall m past time now who there k x) in
      let calls = fall_of (is_call p) _ _ (calls_fall m past time now who there k x) in
      let cpus = fall_of (is_cpu p) _ _ (cpus_fall m past time now who there k x) in
      let parts = fall_of (is_part p) _ _ (parts_fall m past time now who there k x) in
      let devices = fall_of (is_of_device p) _ _ (devices_fall m past time now who inside there k x f h) in
      omega (arith, most, rows, calls, cpus, parts, devices, one_pays p)

  -- ---- a device

  own_devices : (d : ℕ) (k : Kind) → DeviceMade m past now d k → (a b : Bool) → leads b a ≡ true → devices_need m b (entry_of time now (actor.Dev d) k ∷ past) + 1 ≤ devices_need m a past
  own_devices d _ (DeviceMade.OwnFails p r i g f) a b l = skips_down m past time now (actor.Dev d) p d skip.Error state.Scheduled a b i l g.states refl (omega arith)
  own_devices d _ (DeviceMade.OwnFinds p i g f e x) a b l = skips_down m past time now (actor.Dev d) p d skip.Pending state.Scheduled a b i l g.states refl (omega arith)
  own_devices d _ (DeviceMade.OwnLeaves p i g f e x) a b l = skips_down m past time now (actor.Dev d) p d skip.Direct state.Scheduled a b i l g.states refl (omega arith)
  own_devices d _ (DeviceMade.OwnBegins p i g f e x) a b l = begins_down m past time now (actor.Dev d) p d state.Scheduled a b i l g.states refl (omega arith)
  own_devices d _ (DeviceMade.OwnRises p i y w s x) a b l = begins_up m past time now (actor.Dev d) p d state.Rescheduled a b i l s refl (omega arith)
  own_devices d _ (DeviceMade.OwnEnds p r i y w s) a b l = ends_down m past time now (actor.Dev d) p d r a b i l s
  own_devices d _ (DeviceMade.OwnRose p r i y w s) a b l = ends_up m past time now (actor.Dev d) p d r a b i l s

  -- an error stays
  own_errs : (d : ℕ) (k : Kind) → DeviceMade m past now d k → errs past ≡ true → errs (entry_of time now (actor.Dev d) k ∷ past) ≡ true
  own_errs d _ (DeviceMade.OwnEnds p r i y w s) h = error_stays p r (phase_failed past) h
  own_errs d _ (DeviceMade.OwnRose p r i y w s) h = error_stays p r (phase_failed past) h
  own_errs d _ (DeviceMade.OwnFinds p i g f e x) h = refl
  own_errs d _ _ h = h

  -- fewer may be prepared once an error comes
  ahead_less : (here : Stage) (x y : Bool) → (x ≡ true → y ≡ true) → leads (prepares_ahead here y) (prepares_ahead here x) ≡ true
  ahead_less stage.Prepares x true h = refl
  ahead_less stage.Prepares true false h = absurd (true≢false (sym (h refl)))
  ahead_less stage.Prepares false false h = refl
  ahead_less (stage.PlatformDo down.Begin) x y h = refl
  ahead_less (stage.PlatformDo _) x y h = refl
  ahead_less _ x y h = refl

  -- a device's own entry leaves all but the devices
  own_rest : (d : ℕ) (k : Kind) (here : Stage) → DeviceMade m past now d k → needed_at m (entry_of time now (actor.Dev d) k ∷ past) (stage_after k (Some here)) ≡ rows_from here (is_some (freeze_since past)) (is_some (sleep_of past)) + (things_need (length m.notifiers) (notifies_ahead here) (notified_flags m past) + (things_need m.cpus (cpus_ahead here) (cpus_off m.cpus past) + (things_need (length m.syscore) (syscore_ahead here) (stopped (length m.syscore) past) + devices_need m (prepares_ahead here (errs (entry_of time now (actor.Dev d) k ∷ past))) (entry_of time now (actor.Dev d) k ∷ past))))
  own_rest d _ here (DeviceMade.OwnFails p r i g f) = refl
  own_rest d _ here _ = refl

  -- a device that is in a phase is so in an attempt
  closed : (p : Phase) (s : PhaseState) (d : ℕ) → Down p → when_empty s ≡ false → state_in m past p d ≡ s → DevicePhases m past None → ⊥
  closed p s d i e x h = true≢false (sym ((h.0 d).allowed p i) ∙ (ap when_empty (at_is m past p d i ∙ x) ∙ e))

  own_open : (d : ℕ) (k : Kind) → DeviceMade m past now d k → DevicePhases m past None → ⊥
  own_open d _ (DeviceMade.OwnFails p r i g f) h = closed p state.Scheduled d i refl g.states h
  own_open d _ (DeviceMade.OwnFinds p i g f e x) h = closed p state.Scheduled d i refl g.states h
  own_open d _ (DeviceMade.OwnLeaves p i g f e x) h = closed p state.Scheduled d i refl g.states h
  own_open d _ (DeviceMade.OwnBegins p i g f e x) h = closed p state.Scheduled d i refl g.states h
  own_open d _ (DeviceMade.OwnRises p i y w s x) h = closed (mirror p) state.Rescheduled d (mirror_down p i) refl s h
  own_open d _ (DeviceMade.OwnEnds p r i y w s) h = closed p state.Suspending d i refl s h
  own_open d _ (DeviceMade.OwnRose p r i y w s) h = closed (mirror p) state.Resuming d (mirror_down p i) refl s h

  -- what a device makes of its own needs one entry less after it
  pub own_spends : (d : ℕ) (k : Kind) (s : Option Stage) → DeviceMade m past now d k → DevicePhases m past s → needed_at m (entry_of time now (actor.Dev d) k ∷ past) (stage_after k s) + 1 ≤ needed_at m past s
  own_spends d k None x h = absurd (own_open d k x h)
  own_spends d k (Some here) x h =
      let less : leads (prepares_ahead here (errs (entry_of time now (actor.Dev d) k ∷ past))) (prepares_ahead here (errs past)) ≡ true = ahead_less here (errs past) (errs (entry_of time now (actor.Dev d) k ∷ past)) (own_errs d k x) in
      let falls = own_devices d k x (prepares_ahead here (errs past)) (prepares_ahead here (errs (entry_of time now (actor.Dev d) k ∷ past))) less in
      omega (arith, own_rest d k here x, falls)
