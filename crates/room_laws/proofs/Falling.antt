-- What the maker of an attempt makes, and what it spends: of the table's rows, of notifiers, processors, syscore operations, or devices.
use Rattle.std.proofs.Common.{◌≡◌, ◌≤◌, ◌<◌, ◌+◌, ◌-◌, ◌∙◌, ℕ, ℤ, suc, pos, negsuc, Bool, true, false, not, ◌&&◌, List, ◌∷◌, length, Option, Some, None, is_some, refl, sym, ap, subst, arith}
use Rattle.std.proofs.lemmas.Bool.{true≢false}
use Rattle.sleep_base.specs.declared.errno.Errno.{Errno}
use Rattle.sleep_model.specs.declared.entry.Actor.{Actor}
use Rattle.sleep_model.specs.declared.entry.Entry.{Entry}
use Rattle.sleep_model.specs.declared.entry.Kind.{Kind}
use Rattle.sleep_model.specs.declared.entry.Kind.TheVariants as kind
use Rattle.sleep_model.specs.declared.entry.SkipCause.{SkipCause}
use Rattle.sleep_model.specs.declared.entry.SkipCause.TheVariants as skip
use Rattle.sleep_model.specs.declared.machine.Machine.{Machine}
use Rattle.sleep_model.specs.declared.progress.Callback.{Callback}
use Rattle.sleep_model.specs.declared.progress.Stage.{Stage}
use Rattle.sleep_model.specs.declared.progress.PhaseState.{PhaseState}
use Rattle.sleep_model.specs.declared.progress.PhaseState.TheVariants as state
use Rattle.sleep_model.specs.declared.word.EventNow.{EventNow}
use Rattle.phase_table.specs.declared.phase.Phase.{Phase}
use Rattle.phase_table.specs.declared.phase.Phase.TheVariants as phase
use Rattle.phase_table.specs.Phases.{mirror}
use Rattle.sleep_base.specs.Errno.{errno_with, errors, error_of_number}
use Rattle.sleep_model.specs.Attempt.{freeze_since, sleep_of}
use Rattle.sleep_model.specs.Devices.{callback, phase_failed, is_async_device, state_in}
use Rattle.sleep_model.specs.Notifiers.{notified_flags, cpus_off, stopped, call_order, other_cpus, syscore_steps}
use Rattle.sleep_model.specs.Order.{order, is_among}
use Rattle.sleep_model.specs.PhaseStates.{is_unprepared, is_prepared, is_ready, is_down_in, ended_by, skipped_for}
use Rattle.sleep_model.specs.Table.{stage_after}
use Rattle.sleep_model.specs.Walk.{is_so, or_else}
use Rattle.sleep_laws.proofs.Boards.{at, at_is, three, all_three, first_found, last_found, mirror_down}
use Rattle.sleep_laws.proofs.Flags.{notified_flags_length, off_length, stopped_length, run_least}
use Rattle.sleep_laws.proofs.LockHolding.{entry_of}
use Rattle.sleep_laws.proofs.Made.{Down, Up, Made}
use Rattle.sleep_laws.proofs.DevicePhases.{InsideIf, DevicePhases, ready_is, down_is, ended_prepared}
use Rattle.room_laws.specs.AttemptRoom.{one_unless, rows_from, things_need, notifies_ahead, cpus_ahead, syscore_ahead, state_needs, prepared_needs, devices_need, prepares_ahead}
use Rattle.room_laws.proofs.Things.{leads, things_less, thing_done, thing_undone, within_run, within_ranked}
use Rattle.room_laws.proofs.Weights.{prepared_one, devices_less, down_falls, up_falls, device_spends, busy_within}

-- ---- who pays

-- what an entry of the maker's spends
pub data Payer : Type 0 where
  Row : Payer
  Call : Payer
  Cpu : Payer
  EntryClass : Payer
  Device : Payer

-- a call that fails ends its row
abbrev pub by_answer : Option Errno → Payer → Payer
by_answer None p = p
by_answer (Some r) p = Row

abbrev pub payer : Kind → Payer
payer (kind.NotifyPrepare x r) = by_answer r Call
payer (kind.NotifyPost x) = Call
payer (kind.CpuOff k) = Cpu
payer (kind.CpuOn k) = Cpu
payer (kind.SyscoreSuspend x r) = by_answer r EntryClass
payer (kind.SyscoreResume x) = EntryClass
payer (kind.Prepare d r) = Device
payer (kind.Complete d) = Device
payer (kind.Schedule p d) = Device
payer (kind.Begin p d) = Device
payer (kind.End p d r) = Device
payer (kind.Skip p d cause) = Device
payer _ = Row

abbrev pub is_row : Payer → Bool
is_row Row = true
is_row _ = false

abbrev pub is_call : Payer → Bool
is_call Call = true
is_call _ = false

abbrev pub is_cpu : Payer → Bool
is_cpu Cpu = true
is_cpu _ = false

abbrev pub is_part : Payer → Bool
is_part EntryClass = true
is_part _ = false

abbrev pub is_of_device : Payer → Bool
is_of_device Device = true
is_of_device _ = false

-- what is needed falls if the entry pays, and else does not rise
abbrev pub Falls : Bool → ℕ → ℕ → Type 0
Falls true after before = after + 1 ≤ before
Falls false after before = after ≤ before

-- ---- what is ahead, if an attempt is open

abbrev pub ahead_if : (Stage → Bool) → Option Stage → Bool
ahead_if ahead None = false
ahead_if ahead (Some here) = ahead here

abbrev pub prepares_if : Option Stage → Bool → Bool
prepares_if None error = false
prepares_if (Some here) error = prepares_ahead here error

abbrev pub rows_if : Option Stage → Bool → Bool → ℕ
rows_if None freezes sleeps = 0
rows_if (Some here) freezes sleeps = rows_from here freezes sleeps

not_true : (b : Bool) → not b ≡ true → b ≡ false
not_true true e = absurd (true≢false (sym e))
not_true false e = refl

and_first : (a b : Bool) → (a && b) ≡ true → a ≡ true
and_first true b e = refl
and_first false b e = absurd (true≢false (sym e))

leads_true : (b : Bool) → leads b true ≡ true
leads_true true = refl
leads_true false = refl

unprepared_is : (s : PhaseState) → is_unprepared s ≡ true → s ≡ state.Unprepared
unprepared_is state.Unprepared e = refl
unprepared_is _ e = absurd (true≢false (sym e))

-- ---- answers

-- 0, 1 or any other number that is no error, or an error of ours
abbrev pub is_fit : ℤ → Bool
is_fit (pos n) = true
is_fit (negsuc n) = is_some (errno_with (suc n) errors)

-- a prepare answers so
abbrev pub FitsKind : Kind → Type 0
FitsKind (kind.Prepare d r) = is_fit r ≡ true
FitsKind _ = Unit {0}

module _ (m : Machine) (past : List Entry) (time : ℕ) (now : EventNow) (who : Actor) where
  -- that entry before the others
  abbrev pub with : Kind → List Entry
  with k = entry_of time now who k ∷ past

  -- ---- rows

  pub rows_fall : (there : Stage) (k : Kind) → Made m past now there k → Falls (is_row (payer k)) (rows_if (stage_after k (Some there)) (is_some (freeze_since (with k))) (is_some (sleep_of (with k)))) (rows_from there (is_some (freeze_since past)) (is_some (sleep_of past)))
  rows_fall _ _ (Made.FreezesUser e) = let one : one_unless (is_some (freeze_since past)) ≡ 1 = ap (λ o. one_unless (is_some o)) e in omega (arith, one)
  rows_fall _ _ (Made.FreezesKernel e) = let one : one_unless (is_some (freeze_since past)) ≡ 1 = ap (λ o. one_unless (is_some o)) e in omega (arith, one)
  rows_fall _ _ (Made.Enters e f) = let one : one_unless (is_some (sleep_of past)) ≡ 1 = ap (λ o. one_unless (is_some o)) e in omega (arith, one)
  rows_fall _ _ _ = omega arith

  -- ---- notifiers, processors and syscore operations

  pub calls_fall : (there : Stage) (k : Kind) → Made m past now there k → Falls (is_call (payer k)) (things_need (length m.notifiers) (ahead_if notifies_ahead (stage_after k (Some there))) (notified_flags m (with k))) (things_need (length m.notifiers) (notifies_ahead there) (notified_flags m past))
  calls_fall _ _ (Made.Notifies x e) =
      let f = first_found (λ y. not (is_so (notified_flags m past) y)) (call_order m) x e in
      thing_done (length m.notifiers) x (notified_flags m past) (notified_flags_length (length m.notifiers) past) (let l = within_ranked 0 m.notifiers x f.among in omega (arith, l)) (not_true (is_so (notified_flags m past) x) f.passes)
  calls_fall _ _ (Made.Posts x e) =
      let f = first_found (is_so (notified_flags m past)) (call_order m) x e in
      thing_undone (length m.notifiers) x (notified_flags m past) (notified_flags_length (length m.notifiers) past) f.passes
  calls_fall there k _ = things_less (length m.notifiers) (notified_flags m past) (notifies_ahead there) (ahead_if notifies_ahead (stage_after k (Some there))) refl

  pub cpus_fall : (there : Stage) (k : Kind) → Made m past now there k → Falls (is_cpu (payer k)) (things_need m.cpus (ahead_if cpus_ahead (stage_after k (Some there))) (cpus_off m.cpus (with k))) (things_need m.cpus (cpus_ahead there) (cpus_off m.cpus past))
  cpus_fall _ _ (Made.StopsCpu k e f) =
      let g = first_found (λ y. not (is_so (cpus_off m.cpus past) y)) (other_cpus m) k e in
      let least : 1 ≤ k = run_least 1 (m.cpus - 1) k g.among in
      let most : k < 1 + (m.cpus - 1) = within_run 1 (m.cpus - 1) k g.among in
      thing_done m.cpus k (cpus_off m.cpus past) (off_length m.cpus past) (omega (arith, least, most)) (not_true (is_so (cpus_off m.cpus past) k) g.passes)
  cpus_fall _ _ (Made.StartsCpu k e) =
      let g = first_found (is_so (cpus_off m.cpus past)) (other_cpus m) k e in
      thing_undone m.cpus k (cpus_off m.cpus past) (off_length m.cpus past) g.passes
  cpus_fall there k _ = things_less m.cpus (cpus_off m.cpus past) (cpus_ahead there) (ahead_if cpus_ahead (stage_after k (Some there))) refl

  pub parts_fall : (there : Stage) (k : Kind) → Made m past now there k → Falls (is_part (payer k)) (things_need (length m.syscore) (ahead_if syscore_ahead (stage_after k (Some there))) (stopped (length m.syscore) (with k))) (things_need (length m.syscore) (syscore_ahead there) (stopped (length m.syscore) past))
  parts_fall _ _ (Made.StopsPart x e) =
      let f = last_found (λ y. not (is_so (stopped (length m.syscore) past) y)) (syscore_steps m) x e in
      thing_done (length m.syscore) x (stopped (length m.syscore) past) (stopped_length (length m.syscore) past) (let l = within_run 0 (length m.syscore) x f.among in omega (arith, l)) (not_true (is_so (stopped (length m.syscore) past) x) f.passes)
  parts_fall _ _ (Made.StartsPart x e) =
      let f = first_found (is_so (stopped (length m.syscore) past)) (syscore_steps m) x e in
      thing_undone (length m.syscore) x (stopped (length m.syscore) past) (stopped_length (length m.syscore) past) f.passes
  parts_fall there k _ = things_less (length m.syscore) (stopped (length m.syscore) past) (syscore_ahead there) (ahead_if syscore_ahead (stage_after k (Some there))) refl

  -- ---- devices

  -- a device of the machine in that state of a phase
  within : (p : Phase) (d : ℕ) (s : PhaseState) → state_in m past p d ≡ s → is_prepared s ≡ true → d < length m.devices
  within p d s e was = busy_within m past p d (ap is_prepared e ∙ was)

  lighter : (p : Phase) (d : ℕ) (b s : PhaseState) → Down p → state_in m past p d ≡ b → state_needs s + 1 ≤ state_needs b → state_needs s + 1 ≤ state_needs (at (three m past d) p)
  lighter p d b s i e less =
      let here : state_needs (at (three m past d) p) ≡ state_needs b = ap state_needs (at_is m past p d i ∙ e) in
      omega (arith, here, less)

  pub schedules_down : (p : Phase) (d : ℕ) (a c : Bool) → Down p → leads c a ≡ true → state_in m past p d ≡ state.Prepared → devices_need m c (with (kind.Schedule p d)) + 1 ≤ devices_need m a past
  schedules_down p d a c i l e = device_spends m past (entry_of time now who (kind.Schedule p d)) d refl (within p d state.Prepared e refl) a c l (down_falls p i a c l (three m past d) (all_three state.Rescheduled) state.Scheduled refl (lighter p d state.Prepared state.Scheduled i e (omega arith)))

  pub skips_down : (p : Phase) (d : ℕ) (cause : SkipCause) (b : PhaseState) (a c : Bool) → Down p → leads c a ≡ true → state_in m past p d ≡ b → is_prepared b ≡ true → 1 ≤ state_needs b → devices_need m c (with (kind.Skip p d cause)) + 1 ≤ devices_need m a past
  skips_down p d cause b a c i l e was busy = device_spends m past (entry_of time now who (kind.Skip p d cause)) d refl (within p d b e was) a c l (down_falls p i a c l (three m past d) (three m past d) (skipped_for cause) (skipped_prepared cause) (lighter p d b (skipped_for cause) i e (skipped_less cause busy)))
    where
      skipped_prepared : (x : SkipCause) → is_prepared (skipped_for x) ≡ true
      skipped_prepared skip.Direct = refl
      skipped_prepared _ = refl

      skipped_less : (x : SkipCause) → 1 ≤ state_needs b → state_needs (skipped_for x) + 1 ≤ state_needs b
      skipped_less skip.Direct h = omega (arith, h)
      skipped_less _ h = omega (arith, h)

  pub begins_down : (p : Phase) (d : ℕ) (b : PhaseState) (a c : Bool) → Down p → leads c a ≡ true → state_in m past p d ≡ b → is_prepared b ≡ true → 5 ≤ state_needs b → devices_need m c (with (kind.Begin p d)) + 1 ≤ devices_need m a past
  begins_down p d b a c i l e was busy = device_spends m past (entry_of time now who (kind.Begin p d)) d refl (within p d b e was) a c l (down_falls p i a c l (three m past d) (all_three state.Resuming) state.Suspending refl (lighter p d b state.Suspending i e (omega (arith, busy))))

  pub ends_down : (p : Phase) (d : ℕ) (r : Option Errno) (a c : Bool) → Down p → leads c a ≡ true → state_in m past p d ≡ state.Suspending → devices_need m c (with (kind.End p d r)) + 1 ≤ devices_need m a past
  ends_down p d r a c i l e = device_spends m past (entry_of time now who (kind.End p d r)) d refl (within p d state.Suspending e refl) a c l (down_falls p i a c l (three m past d) (all_three state.Resumed) (ended_by r) (ended_prepared r) (lighter p d state.Suspending (ended_by r) i e (ended_less r)))
    where
      ended_less : (x : Option Errno) → state_needs (ended_by x) + 1 ≤ 4
      ended_less None = omega arith
      ended_less (Some x) = omega arith

  pub schedules_up : (p : Phase) (d : ℕ) (a c : Bool) → Up p → leads c a ≡ true → state_in m past (mirror p) d ≡ state.Suspended → devices_need m c (with (kind.Schedule p d)) + 1 ≤ devices_need m a past
  schedules_up p d a c i l e = device_spends m past (entry_of time now who (kind.Schedule p d)) d refl (within (mirror p) d state.Suspended e refl) a c l (up_falls p i a c l (three m past d) state.Scheduled state.Rescheduled refl (lighter (mirror p) d state.Suspended state.Rescheduled (mirror_down p i) e (omega arith)))

  pub begins_up : (p : Phase) (d : ℕ) (b : PhaseState) (a c : Bool) → Up p → leads c a ≡ true → state_in m past (mirror p) d ≡ b → is_prepared b ≡ true → 2 ≤ state_needs b → devices_need m c (with (kind.Begin p d)) + 1 ≤ devices_need m a past
  begins_up p d b a c i l e was busy = device_spends m past (entry_of time now who (kind.Begin p d)) d refl (within (mirror p) d b e was) a c l (up_falls p i a c l (three m past d) state.Suspending state.Resuming refl (lighter (mirror p) d b state.Resuming (mirror_down p i) e (omega (arith, busy))))

  pub ends_up : (p : Phase) (d : ℕ) (r : Option Errno) (a c : Bool) → Up p → leads c a ≡ true → state_in m past (mirror p) d ≡ state.Resuming → devices_need m c (with (kind.End p d r)) + 1 ≤ devices_need m a past
  ends_up p d r a c i l e = device_spends m past (entry_of time now who (kind.End p d r)) d refl (within (mirror p) d state.Resuming e refl) a c l (up_falls p i a c l (three m past d) (ended_by r) state.Resumed refl (lighter (mirror p) d state.Resuming state.Resumed (mirror_down p i) e (omega arith)))

  completes : (d : ℕ) → is_prepared (state_in m past phase.Suspend d) ≡ true → devices_need m false (with (kind.Complete d)) + 1 ≤ devices_need m false past
  completes d e =
      let one : prepared_needs (state_in m past phase.Suspend d) false ≡ 1 = prepared_one (state_in m past phase.Suspend d) false e in
      device_spends m past (entry_of time now who (kind.Complete d)) d refl (busy_within m past phase.Suspend d e) false false refl (omega (arith, one))

  prepares : (d : ℕ) (r : ℤ) → is_fit r ≡ true → d < length m.devices → state_in m past phase.Suspend d ≡ state.Unprepared → devices_need m (not (is_some (or_else (error_of_number r) (phase_failed past)))) (with (kind.Prepare d r)) + 1 ≤ devices_need m true past
  prepares d (pos n) f l e =
      let twenty : prepared_needs (state_in m past phase.Suspend d) true ≡ 20 = ap (λ s. prepared_needs s true) e in
      let c : Bool = not (is_some (phase_failed past)) in
      device_spends m past (entry_of time now who (kind.Prepare d (pos n))) d refl l true c (leads_true c) (omega (arith, twenty))
  prepares d (negsuc n) f l e =
      let twenty : prepared_needs (state_in m past phase.Suspend d) true ≡ 20 = ap (λ s. prepared_needs s true) e in
      let c : Bool = not (is_some (or_else (errno_with (suc n) errors) (phase_failed past))) in
      let none : prepared_needs (state_in m past phase.Suspend d) c ≡ 0 = ap (λ s. prepared_needs s c) e ∙ ap (prepared_needs state.Unprepared) (no_more (errno_with (suc n) errors) (phase_failed past) f) in
      device_spends m past (entry_of time now who (kind.Prepare d (negsuc n))) d refl l true c (leads_true c) (omega (arith, twenty, none))
    where
      no_more : (o before : Option Errno) → is_some o ≡ true → not (is_some (or_else o before)) ≡ false
      no_more None before h = absurd (true≢false (sym h))
      no_more (Some x) before h = refl

  -- the callback that the maker is inside
  inside : (p q : Phase) (d : ℕ) (s : PhaseState) → callback past ≡ Some (record { phase = q; device = d }) → InsideIf m (callback past) s p (three m past) → at (three m past d) p ≡ s
  inside p q d s c h = (subst (λ (o : Option Callback). InsideIf m o s p (three m past)) c h).inside

  pub devices_fall : ((d : ℕ) → is_among (order m past) d ≡ true → d < length m.devices) → (there : Stage) (k : Kind) → Made m past now there k → FitsKind k → DevicePhases m past (Some there) → Falls (is_of_device (payer k)) (devices_need m (prepares_if (stage_after k (Some there)) (is_some (phase_failed (with k)))) (with k)) (devices_need m (prepares_ahead there (is_some (phase_failed past))) past)
  devices_fall w _ _ (Made.Prepares d r f n) t h =
      let g = first_found (λ x. is_unprepared (state_in m past phase.Suspend x)) (order m past) d n in
      let all : not (is_some (phase_failed past)) ≡ true = ap (λ o. not (is_some o)) f in
      subst (λ (a : Bool). devices_need m (not (is_some (or_else (error_of_number r) (phase_failed past)))) (with (kind.Prepare d r)) + 1 ≤ devices_need m a past) (sym all)
      (prepares d r t (w d g.among) (unprepared_is (state_in m past phase.Suspend d) g.passes))
  devices_fall w _ _ (Made.EndsDown p q d r i c) t h = ends_down p d r false false i refl (sym (at_is m past p d i) ∙ inside p q d state.Suspending c h.1)
  devices_fall w _ _ (Made.SchedulesDown p d i c f n a) t h =
      let g = last_found (λ x. is_ready (state_in m past p x)) (order m past) d n in
      schedules_down p d false false i refl (ready_is (state_in m past p d) g.passes)
  devices_fall w _ _ (Made.FindsDown p d i x e y) t h =
      let g = last_found (λ z. is_ready (state_in m past p z)) (order m past) d x.next in
      skips_down p d skip.Pending state.Prepared false false i refl (ready_is (state_in m past p d) g.passes) refl (omega arith)
  devices_fall w _ _ (Made.LeavesDown p d i x e y) t h =
      let g = last_found (λ z. is_ready (state_in m past p z)) (order m past) d x.next in
      skips_down p d skip.Direct state.Prepared false false i refl (ready_is (state_in m past p d) g.passes) refl (omega arith)
  devices_fall w _ _ (Made.BeginsDown p d i x e y) t h =
      let g = last_found (λ z. is_ready (state_in m past p z)) (order m past) d x.next in
      begins_down p d state.Prepared false false i refl (ready_is (state_in m past p d) g.passes) refl (omega arith)
  devices_fall w _ _ (Made.EndsUp p q d r i c) t h = ends_up p d r false false i refl (sym (at_is m past (mirror p) d (mirror_down p i)) ∙ inside (mirror p) q d state.Resuming c h.1)
  devices_fall w _ _ (Made.SchedulesUp p d i c n) t h =
      let g = first_found (λ x. is_down_in (state_in m past (mirror p) x) && is_async_device m x) (order m past) d n in
      schedules_up p d false false i refl (down_is (state_in m past (mirror p) d) (and_first (is_down_in (state_in m past (mirror p) d)) (is_async_device m d) g.passes))
  devices_fall w _ _ (Made.BeginsUp p d i c x n y) t h =
      let g = first_found (λ z. is_down_in (state_in m past (mirror p) z) && not (is_async_device m z)) (order m past) d n in
      begins_up p d state.Suspended false false i refl (down_is (state_in m past (mirror p) d) (and_first (is_down_in (state_in m past (mirror p) d)) (not (is_async_device m d)) g.passes)) refl (omega arith)
  devices_fall w _ _ (Made.Completes d n) t h = completes d (last_found (λ x. is_prepared (state_in m past phase.Suspend x)) (order m past) d n).passes
  devices_fall w _ _ Made.PlatformBegins t h = devices_less m past true (not (is_some (phase_failed past))) (leads_true (not (is_some (phase_failed past))))
  devices_fall w there k _ t h = devices_less m past (prepares_ahead there (is_some (phase_failed past))) (prepares_if (stage_after k (Some there)) (is_some (phase_failed (with k)))) refl
