-- What the open attempt needs, at each entry of a legal journal: by what is due, and by the entry itself.
use Rattle.std.proofs.Common.{◌≡◌, ◌≤◌, ◌+◌, ◌*◌, ◌∙◌, ℕ, Bool, true, false, List, ◌∷◌, length, Option, Some, None, refl, sym, ap, subst, arith, ◌||◌, ◌⊎◌, inl, inr}
use Rattle.std.proofs.lemmas.Bool.{true≢false, or_cases}
use Rattle.sleep_model.specs.declared.entry.Actor.{Actor}
use Rattle.sleep_model.specs.declared.entry.Actor.TheVariants as actor
use Rattle.sleep_model.specs.declared.entry.Entry.{Entry}
use Rattle.sleep_model.specs.declared.entry.Kind.{Kind}
use Rattle.sleep_model.specs.declared.entry.Kind.TheVariants as kind
use Rattle.sleep_model.specs.declared.machine.Machine.{Machine}
use Rattle.sleep_model.specs.declared.machine.Op.{Op}
use Rattle.sleep_model.specs.declared.progress.Due.TheVariants.{Makes}
use Rattle.sleep_model.specs.declared.progress.ScriptPosition.{ScriptPosition}
use Rattle.sleep_model.specs.declared.progress.Stage.{Stage}
use Rattle.sleep_model.specs.declared.progress.PhaseState.{PhaseState}
use Rattle.sleep_model.specs.declared.progress.PhaseState.TheVariants as state
use Rattle.sleep_model.specs.declared.progress.Work.{Work}
use Rattle.sleep_model.specs.declared.word.EventNow.{EventNow}
use Rattle.phase_table.specs.declared.phase.Phase.TheVariants as phase
use Rattle.sleep_model.specs.Accepted.{IsAccepted}
use Rattle.sleep_model.specs.Devices.{is_device}
use Rattle.sleep_model.specs.Due.{due}
use Rattle.sleep_model.specs.Legal.{JournalPart, JournalStep}
use Rattle.sleep_model.specs.Notifiers.{notified_flags, cpus_off, stopped}
use Rattle.sleep_model.specs.EntryClasses.{EntryClass, OfJournal, Notes, Moves, OfTime, class_of}
use Rattle.sleep_model.specs.Path.{maker, is_actor}
use Rattle.sleep_model.specs.Table.{stage_of, stage_after}
use Rattle.sleep_laws.proofs.Boards.{Three, all_three, three}
use Rattle.sleep_laws.proofs.LockHolding.{StageMaker, lock_agrees, stage_none, entry_of, Outside, Moved, Opens, Makes, Beside, Owns, entry_moved}
use Rattle.sleep_laws.proofs.Made.{InSuspend, InLate, InNoirq, Made, Comes, TaskMade, StepMade, WorkMade, DeviceMade, EntryMade, ByMaker, ByTask, ByWork, ByDevice, ByTime}
use Rattle.sleep_laws.proofs.MakingOwn.{made, entry_made, by_maker}
use Rattle.sleep_laws.proofs.Moods.{when_empty}
use Rattle.sleep_laws.proofs.Passing.{device_phases, device_phases_made}
use Rattle.sleep_laws.proofs.DevicePhases.{DevicePhases}
use Rattle.room_laws.specs.AttemptRoom.{needed, needed_at, enough, is_attempt, devices_need, NoneNeededOutside, AttemptNeedsFew, OwnEntrySpends, DeviceEntrySpends, OthersNeedNothing}
use Rattle.room_laws.proofs.Falling.{FitsKind}
use Rattle.room_laws.proofs.Fitting.{order_inside, due_fits}
use Rattle.room_laws.proofs.Spending.{comes_less, maker_spends, own_spends}
use Rattle.room_laws.proofs.Things.{things_most}
use Rattle.room_laws.proofs.Weights.{devices_most}

-- ---- who makes attempts

-- a task or the work
abbrev makes_attempts : Actor → Bool
makes_attempts (actor.Script i) = true
makes_attempts actor.Auto = true
makes_attempts _ = false

maker_task : (who : Actor) (o : Option Actor) (s : Option Stage) → is_actor who o ≡ true → StageMaker o s → makes_attempts who ≡ true
maker_task (actor.Script i) o s a h = refl
maker_task actor.Auto o s a h = refl
maker_task (actor.Dev d) None s a h = absurd (true≢false (sym a))
maker_task (actor.Dev d) (Some (actor.Dev e)) (Some s) a h = absurd h
maker_task (actor.Dev d) (Some (actor.Dev e)) None a h = absurd h
maker_task (actor.Dev d) (Some _) s a h = absurd (true≢false (sym a))
maker_task (actor.Timer i) None s a h = absurd (true≢false (sym a))
maker_task (actor.Timer i) (Some (actor.Timer j)) (Some s) a h = absurd h
maker_task (actor.Timer i) (Some (actor.Timer j)) None a h = absurd h
maker_task (actor.Timer i) (Some _) s a h = absurd (true≢false (sym a))
maker_task actor.Time None s a h = absurd (true≢false (sym a))
maker_task actor.Time (Some actor.Time) (Some s) a h = absurd h
maker_task actor.Time (Some actor.Time) None a h = absurd h
maker_task actor.Time (Some _) s a h = absurd (true≢false (sym a))

makes_no_device : (who : Actor) → is_device who ≡ true → makes_attempts who ≡ false
makes_no_device (actor.Dev d) h = refl
makes_no_device _ h = absurd (true≢false (sym h))

module _ (m : Machine) (past : List Entry) (h : JournalPart m past) where
  maker_is : (who : Actor) → is_actor who (maker past) ≡ true → makes_attempts who ≡ true
  maker_is who a = maker_task who (maker past) (stage_of past) a (lock_agrees m past h).2

  -- ---- if none is open

  pub none_needed : maker past ≡ None → needed m past ≡ 0
  unfolding needed
  none_needed e = ap (needed_at m past) (stage_none m past h e)

  module _ (time : ℕ) (now : EventNow) where
    -- ---- the maker

    by_the_maker : IsAccepted m → (who : Actor) (here there : Stage) (k : Kind) → is_actor who (maker past) ≡ true → stage_of past ≡ Some here → Comes m past here there → Made m past now there k → FitsKind k → needed m (entry_of time now who k ∷ past) + 1 ≤ needed m past
    unfolding needed
    by_the_maker acc who here there k a e c x f =
        by_maker m past now k here there (λ s. needed_at m past s ≤ needed_at m past (stage_of past)) (λ s. needed_at m (entry_of time now who k ∷ past) s + 1 ≤ needed_at m past (stage_of past)) e c x
        (λ before. let less = comes_less m past here there c in omega (arith, before, less))
        (λ before. let falls = maker_spends m past time now who (order_inside m acc past h) there k x f (device_phases_made m past h here there e c) in omega (arith, before, falls))
        (omega arith)

    spends_made : IsAccepted m → (who : Actor) (k : Kind) → due m past who now ≡ Makes k → is_actor who (maker past) ≡ true → EntryMade m past now who k → needed m (entry_of time now who k ∷ past) + 1 ≤ needed m past
    spends_made acc who k d a (ByMaker _ here there _ b e c x) = by_the_maker acc who here there k a e c x (due_fits m acc past now who here there k d a e c x)
    spends_made acc _ k d a (ByTask i _ b x) = absurd (true≢false (sym a ∙ b))
    spends_made acc _ k d a (ByWork w _ b s o e x) = absurd (true≢false (sym a ∙ b))
    spends_made acc _ k d a (ByDevice y _ b x) = absurd (true≢false (sym a ∙ b))
    spends_made acc _ _ d a ByTime = absurd (true≢false (sym (maker_is actor.Time a)))

    -- what is due of the attempt's maker needs one entry less after it
    pub due_spends : IsAccepted m → (who : Actor) (k : Kind) → due m past who now ≡ Makes k → is_actor who (maker past) ≡ true → needed m (entry_of time now who k ∷ past) + 1 ≤ needed m past
    due_spends acc who k d a = spends_made acc who k d a (made m past now who k d)

    -- ---- a device

    device_spends_made : (who : Actor) (k : Kind) → is_device who ≡ true → EntryMade m past now who k → needed m (entry_of time now who k ∷ past) + 1 ≤ needed m past
    unfolding needed
    device_spends_made who k a (ByMaker _ here there _ b e c x) = absurd (true≢false (sym (maker_is who b) ∙ makes_no_device who a))
    device_spends_made _ k a (ByTask i _ b x) = absurd (true≢false (sym a))
    device_spends_made _ k a (ByWork w _ b s o e x) = absurd (true≢false (sym a))
    device_spends_made _ k a (ByDevice d _ b x) = own_spends m past time now d k (stage_of past) x (device_phases m past h)
    device_spends_made _ _ a ByTime = absurd (true≢false (sym a))

    -- what is due of a device needs one entry less after it
    pub due_device_spends : (who : Actor) (k : Kind) → due m past who now ≡ Makes k → is_device who ≡ true → needed m (entry_of time now who k ∷ past) + 1 ≤ needed m past
    due_device_spends who k d a = device_spends_made who k a (made m past now who k d)

    -- what is due of the attempt's maker, or of a device, needs one entry less after it
    pub due_own_spends : IsAccepted m → (who : Actor) (k : Kind) → due m past who now ≡ Makes k → (is_actor who (maker past) || is_device who) ≡ true → needed m (entry_of time now who k ∷ past) + 1 ≤ needed m past
    due_own_spends acc who k d a = by_part (or_cases (is_actor who (maker past)) (is_device who) a)
      where
        by_part : (is_actor who (maker past) ≡ true) ⊎ (is_device who ≡ true) → needed m (entry_of time now who k ∷ past) + 1 ≤ needed m past
        by_part (inl b) = due_spends acc who k d b
        by_part (inr b) = due_device_spends who k d b

    -- ---- anybody else

    step_needs : (i : ℕ) (position : ScriptPosition) (asked : Bool) (o : Option Op) (k : Kind) (s : Option Stage) → StepMade m past now position asked o k → is_attempt k ≡ false → needed_at m (entry_of time now (actor.Script i) k ∷ past) (stage_after k s) ≡ needed_at m past s
    step_needs i position asked _ _ s (StepMade.Attempts text if_saved f o) n = absurd (true≢false n)
    step_needs i position asked _ _ None StepMade.Exits n = refl
    step_needs i position asked _ _ None _ n = refl
    step_needs i position asked _ _ (Some here) _ n = refl

    work_needs : (w : Work) (k : Kind) (s : Option Stage) → WorkMade m past now w k → is_attempt k ≡ false → needed_at m (entry_of time now actor.Auto k ∷ past) (stage_after k s) ≡ needed_at m past s
    work_needs _ _ s (WorkMade.Attempts c o) n = absurd (true≢false n)
    work_needs _ _ None _ n = refl
    work_needs _ _ (Some here) _ n = refl

    task_needs : (i : ℕ) (k : Kind) (s : Option Stage) → TaskMade m past now i k → is_attempt k ≡ false → needed_at m (entry_of time now (actor.Script i) k ∷ past) (stage_after k s) ≡ needed_at m past s
    task_needs i _ None (TaskMade.Freezes x go f) n = refl
    task_needs i _ (Some here) (TaskMade.Freezes x go f) n = refl
    task_needs i k s (TaskMade.Steps x _ o go e step) n = step_needs i _ _ o k s step n

    jump_needs : (s : Option Stage) → needed_at m (entry_of time now actor.Time kind.Jump ∷ past) s ≡ needed_at m past s
    jump_needs None = refl
    jump_needs (Some here) = refl

    others_made : (who : Actor) (k : Kind) → is_actor who (maker past) ≡ false → is_device who ≡ false → is_attempt k ≡ false → EntryMade m past now who k → needed m (entry_of time now who k ∷ past) ≡ needed m past
    unfolding needed
    others_made who k a b n (ByMaker _ here there _ c e x y) = absurd (true≢false (sym c ∙ a))
    others_made _ k a b n (ByTask i _ c x) = task_needs i k (stage_of past) x n
    others_made _ k a b n (ByWork w _ c s o e x) = work_needs w k (stage_of past) x n
    others_made _ k a b n (ByDevice d _ c x) = absurd (true≢false b)
    others_made _ _ a b n ByTime = jump_needs (stage_of past)

    -- what is due of anybody else, and begins no attempt, leaves what is needed
    pub due_needs_nothing : (who : Actor) (k : Kind) → due m past who now ≡ Makes k → is_actor who (maker past) ≡ false → is_device who ≡ false → is_attempt k ≡ false → needed m (entry_of time now who k ∷ past) ≡ needed m past
    due_needs_nothing who k d a b n = others_made who k a b n (made m past now who k d)

    -- a jump of time leaves it too
    pub jump_needs_nothing : needed m (entry_of time now actor.Time kind.Jump ∷ past) ≡ needed m past
    unfolding needed
    jump_needs_nothing = jump_needs (stage_of past)

    -- ---- an attempt that begins

    made_none : (there : Stage) (k : Kind) → Made m past now there k → is_attempt k ≡ true → ⊥
    made_none _ _ (Made.Notifies x e) n = true≢false (sym n)
    made_none _ _ _ n = true≢false (sym n)

    outside_none : (k : Kind) {s : Option Stage} → Outside s k → is_attempt k ≡ true → ⊥
    outside_none _ Outside.Frozen n = true≢false (sym n)
    outside_none _ _ n = true≢false (sym n)

    own_none : (d : ℕ) (k : Kind) → DeviceMade m past now d k → is_attempt k ≡ true → ⊥
    own_none d _ (DeviceMade.OwnFails p r i g f) n = true≢false (sym n)
    own_none d _ _ n = true≢false (sym n)

    -- no stage is under way if an attempt begins
    opens_outside : (who : Actor) (k : Kind) → Moved m past now who k → is_attempt k ≡ true → stage_of past ≡ None
    opens_outside who _ (Opens _ n guarded f e) a = e
    opens_outside who k (Makes _ here there _ b e c x) a = absurd (made_none there k x a)
    opens_outside who k (Beside _ _ b x) a = absurd (outside_none k x a)
    opens_outside _ k (Owns d _ x) a = absurd (own_none d k x a)

    unprepared : (s : PhaseState) → when_empty s ≡ true → s ≡ state.Unprepared
    unprepared state.Unprepared e = refl
    unprepared _ e = absurd (true≢false (sym e))

    all_unprepared : DevicePhases m past None → (d : ℕ) → three m past d ≡ all_three state.Unprepared
    all_unprepared s d = same (unprepared _ ((s.0 d).allowed phase.Suspend InSuspend)) (unprepared _ ((s.0 d).allowed phase.Late InLate)) (unprepared _ ((s.0 d).allowed phase.Noirq InNoirq))
      where
        same : {a b c x y z : PhaseState} → a ≡ x → b ≡ y → c ≡ z → ◌≡◌ {A = Three} (record { suspend = a; late = b; noirq = c }) (record { suspend = x; late = y; noirq = z })
        same f g i = cc

    opens_few : (who : Actor) (k : Kind) (s : Option Stage) → is_attempt k ≡ true → DevicePhases m past None → needed_at m (entry_of time now who k ∷ past) (stage_after k s) + 1 ≤ enough m
    opens_few who (kind.Attempt n guarded) s a x =
        let tells = things_most (length m.notifiers) (notified_flags m past) true in
        let cpus = things_most m.cpus (cpus_off m.cpus past) true in
        let parts = things_most (length m.syscore) (stopped (length m.syscore) past) true in
        let devices : devices_need m true past ≤ 20 * length m.devices = devices_most m past true (all_unprepared x) in
        omega (arith, tells, cpus, parts, devices)
    opens_few who _ s a x = absurd (true≢false (sym a))

    few_made : (who : Actor) (k : Kind) → is_attempt k ≡ true → EntryMade m past now who k → needed m (entry_of time now who k ∷ past) + 1 ≤ enough m
    unfolding needed
    few_made who k a x = opens_few who k (stage_of past) a (subst (DevicePhases m past) (opens_outside who k (entry_moved m past now who k x (lock_agrees m past h)) a) (device_phases m past h))

    -- an attempt that is due finds enough
    pub due_attempt_needs : (who : Actor) (k : Kind) → due m past who now ≡ Makes k → is_attempt k ≡ true → needed m (entry_of time now who k ∷ past) + 1 ≤ enough m
    due_attempt_needs who k d a = few_made who k a (made m past now who k d)

-- ---- the laws

-- an entry of the journal that is no jump is due of its actor
step_due : (m : Machine) (past : List Entry) (e : Entry) (p : EntryClass) → JournalStep m past e p → (e.actor ≡ actor.Time → ⊥) → due m past e.actor e.now ≡ Makes e.kind
step_due m past e OfJournal h n = h.0
step_due m past e OfTime h n = absurd (n h.0)
step_due m past e (Notes s call) h n = absurd h
step_due m past e (Moves s step) h n = absurd h

pub none_needed_outside : NoneNeededOutside
none_needed_outside m past h e = none_needed m past h e

pub attempt_needs_few : AttemptNeedsFew
attempt_needs_few m past e h a = few_made m past h.1 e.time e.now e.actor e.kind a (entry_made m past e h)

pub own_entry_spends : OwnEntrySpends
own_entry_spends m past e acc h a =
    due_spends m past h.1 e.time e.now acc e.actor e.kind
    (step_due m past e (class_of e.kind) h.0 (λ t. true≢false (sym (maker_is m past h.1 e.actor a) ∙ ap makes_attempts t))) a

pub device_entry_spends : DeviceEntrySpends
device_entry_spends m past e h a = device_spends_made m past h.1 e.time e.now e.actor e.kind a (entry_made m past e h)

pub others_need_nothing : OthersNeedNothing
others_need_nothing m past e h a b n = others_made m past h.1 e.time e.now e.actor e.kind a b n (entry_made m past e h)
