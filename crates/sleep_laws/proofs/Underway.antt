-- A walk on the way down takes the devices from the order's end, and the maker is inside each synchronous device's callback.
use Rattle.std.proofs.Common.{◌≡◌, ◌∙◌, ℕ, Bool, true, false, ◌==◌, List, ◌∷◌, Option, Some, None, refl, sym, ap, subst}
use Rattle.std.proofs.lemmas.Bool.{eqb-true, true≢false}
use Rattle.sleep_base.specs.declared.errno.Errno.{Errno}
use Rattle.sleep_model.specs.declared.entry.Actor.{Actor}
use Rattle.sleep_model.specs.declared.entry.Actor.TheVariants as actor
use Rattle.sleep_model.specs.declared.entry.Entry.{Entry}
use Rattle.sleep_model.specs.declared.entry.Kind.{Kind}
use Rattle.sleep_model.specs.declared.entry.Kind.TheVariants as kind
use Rattle.sleep_model.specs.declared.machine.Link.{Link}
use Rattle.sleep_model.specs.declared.machine.Machine.{Machine}
use Rattle.sleep_model.specs.declared.progress.Callback.{Callback}
use Rattle.sleep_model.specs.declared.progress.Stage.{Stage}
use Rattle.sleep_model.specs.declared.progress.Stage.TheVariants as stage
use Rattle.sleep_model.specs.declared.progress.PhaseState.{PhaseState}
use Rattle.sleep_model.specs.declared.progress.PhaseState.TheVariants as state
use Rattle.sleep_model.specs.declared.word.EventNow.{EventNow}
use Rattle.phase_table.specs.declared.phase.Phase.{Phase}
use Rattle.phase_table.specs.declared.phase.Phase.TheVariants as phase
use Rattle.phase_table.specs.Phases.{mirror}
use Rattle.sleep_model.specs.Devices.{callback, unless_own, is_device, is_async_device, state_in, next_down, next_to_schedule}
use Rattle.sleep_model.specs.Legal.{JournalPart}
use Rattle.sleep_model.specs.Order.{order, order_by, links_after, links_at, parents_of, is_among}
use Rattle.sleep_model.specs.PhaseStates.{is_prepared, is_ready, ended_by, device_of}
use Rattle.sleep_model.specs.Table.{stage_of, stage_after}
use Rattle.sleep_model.proofs.Ordering.{order_different}
use Rattle.sleep_laws.proofs.Activity.{different}
use Rattle.sleep_laws.proofs.Boards.{order_stays, Three, at, at_is, three, three_after, moved, moved_other, moved_own, Change, Here, Elsewhere, turned, turned_down, turned_up, all_three, mirror_down}
use Rattle.sleep_laws.proofs.LockHolding.{StageInvariant, Outside, at_stage}
use Rattle.sleep_laws.proofs.Made.{Down, InSuspend, InLate, InNoirq, Up, Made, Comes, AtOnce, PastNotifiers, PastCpus, PastParts, PastPartsUp, PastCpusUp, PastPosts, AtTurn, DeviceMade}
use Rattle.sleep_laws.proofs.Moods.{Mood, Fresh, Going, Settled, Halted, Risen, in_down, in_up, in_suspend, allows}
use Rattle.sleep_laws.proofs.Passing.{maker_stands, device_phases_invariant}
use Rattle.sleep_laws.proofs.Ranks.{After, steps_after_first, last_after}
use Rattle.sleep_laws.proofs.DevicePhases.{errs, Fines, Inside, DevicePhases}
use Rattle.sleep_laws.proofs.Telling.{some≢none}
use Rattle.sleep_laws.proofs.Turning.{never, turned_at, turned_mirror, ready_stands, prepared_all, called, scheduled_stands}

-- inside a callback on the way down, or up (dpm_run_callback)
abbrev pub is_suspending : PhaseState → Bool
is_suspending state.Suspending = true
is_suspending _ = false

abbrev pub is_resuming : PhaseState → Bool
is_resuming state.Resuming = true
is_resuming _ = false

-- the callback is of that device
abbrev pub IsCalled : Option Callback → ℕ → Type 0
IsCalled None x = ⊥
IsCalled (Some c) x = c.device ≡ x

-- after a device that phase p has taken each is taken
abbrev pub TakesLast : Machine → List Entry → Phase → Type 0
TakesLast m past p = (x e : ℕ) → After (order m past) x e → is_ready (at (three m past x) p) ≡ false → is_ready (at (three m past e) p) ≡ false

-- a synchronous device that has such a state is the one whose callback the maker runs
abbrev pub Calls : Machine → List Entry → Phase → (PhaseState → Bool) → Type 0
Calls m past p test = (x : ℕ) → test (at (three m past x) p) ≡ true → is_async_device m x ≡ false → IsCalled (callback past) x

abbrev pub WalksAt : Machine → List Entry → Stage → Type 0
WalksAt m past (stage.Downs p) = Down p → TakesLast m past p × Calls m past p is_suspending
WalksAt m past (stage.Ups p) = Up p → Calls m past (mirror p) is_resuming
WalksAt m past _ = Unit {0}

abbrev pub WalksIf : Machine → List Entry → Option Stage → Type 0
WalksIf m past None = Unit {0}
WalksIf m past (Some s) = WalksAt m past s

-- ---- at the beginning of a phase

fresh_apart : (s : PhaseState) (e : Bool) → allows Fresh e s ≡ true → is_suspending s ≡ false
fresh_apart state.Suspending e h = never h
fresh_apart _ e h = refl

fresh_ready : (s : PhaseState) (e : Bool) → allows Fresh e s ≡ true → is_prepared s ≡ true → is_ready s ≡ true
fresh_ready state.Prepared e h p = refl
fresh_ready state.Unprepared e h p = never p
fresh_ready _ e h p = never h

settled_apart : (s : PhaseState) (e : Bool) → allows Settled e s ≡ true → is_resuming s ≡ false
settled_apart state.Resuming e h = never h
settled_apart _ e h = refl

halted_apart : (s : PhaseState) (e : Bool) → allows Halted e s ≡ true → is_resuming s ≡ false
halted_apart state.Resuming e h = never h
halted_apart _ e h = refl

going_apart : (s : PhaseState) (e : Bool) → allows Going e s ≡ true → is_resuming s ≡ false
going_apart state.Resuming e h = never h
going_apart _ e h = refl

-- no device has such a state
none_called : (m : Machine) (past : List Entry) (p : Phase) (test : PhaseState → Bool) → ((x : ℕ) → test (at (three m past x) p) ≡ false) → (after : List Entry) → ((x : ℕ) → at (three m after x) p ≡ at (three m past x) p) → Calls m after p test
none_called m past p test none after same x t a = absurd (true≢false (sym t ∙ (ap test (same x) ∙ none x)))

-- all are fresh and prepared
begins : (m : Machine) (past : List Entry) (moods : Phase → Mood) (full : Bool) → Fines m past moods full → ((x : ℕ) → is_among (order m past) x ≡ true → is_prepared (state_in m past phase.Suspend x) ≡ true) → (p : Phase) → Down p → moods p ≡ Fresh → TakesLast m past p
begins m past moods full h every p i f x e b r =
    let fresh : allows Fresh (errs past) (at (three m past x) p) ≡ true = subst (λ (a : Mood). allows a (errs past) (at (three m past x) p) ≡ true) f ((h x).allowed p i) in
    absurd (true≢false (sym (fresh_ready (at (three m past x) p) (errs past) fresh ((h x).alike p i ∙ every x (steps_after_first (order m past) x e b))) ∙ r))

begins_apart : (m : Machine) (past : List Entry) (moods : Phase → Mood) (full : Bool) → Fines m past moods full → (p : Phase) → Down p → moods p ≡ Fresh → (x : ℕ) → is_suspending (at (three m past x) p) ≡ false
begins_apart m past moods full h p i f x = fresh_apart (at (three m past x) p) (errs past) (subst (λ (a : Mood). allows a (errs past) (at (three m past x) p) ≡ true) f ((h x).allowed p i))

rises_apart : (m : Machine) (past : List Entry) (moods : Phase → Mood) (full : Bool) → Fines m past moods full → (p : Phase) → Down p → (a : Mood) → ((s : PhaseState) (e : Bool) → allows a e s ≡ true → is_resuming s ≡ false) → moods p ≡ a → (x : ℕ) → is_resuming (at (three m past x) p) ≡ false
rises_apart m past moods full h p i a apart f x = apart (at (three m past x) p) (errs past) (subst (λ (b : Mood). allows b (errs past) (at (three m past x) p) ≡ true) f ((h x).allowed p i))

-- ---- an entry of a device

module _ (m : Machine) (past : List Entry) (e : Entry) (d : ℕ) (is : device_of e.kind ≡ Some d) where
  -- the others keep their states
  others : (x : ℕ) → (x == d) ≡ false → three m (e ∷ past) x ≡ three m past x
  others x apart = moved_other m past e d is x (different x d apart)

  -- a device that is taken, or goes on, keeps what is after it taken
  module _ (p : Phase) (h : TakesLast m past p) where
    takes : next_down m past p ≡ Some d → Down p → is_ready (at (three m (e ∷ past) d) p) ≡ false → TakesLast m (e ∷ past) p
    takes n i gone x y c r = by_second (y == d) refl
      where
        b : After (order m past) x y
        b = subst (λ (o : List ℕ). After o x y) (order_stays m past e d is) c

        by_first : (y == d) ≡ false → (t : Bool) → (x == d) ≡ t → is_ready (at (three m past y) p) ≡ false
        by_first a true s =
            let same : x ≡ d = eqb-true x d s in
            ap is_ready (at_is m past p y i) ∙ last_after (λ z. is_ready (state_in m past p z)) (order m past) (order_different m past) d y n (subst (λ (z : ℕ). After (order m past) z y) same b)
        by_first a false s = h x y b (ap (λ (t : Three). is_ready (at t p)) (sym (others x s)) ∙ r)

        by_second : (t : Bool) → (y == d) ≡ t → is_ready (at (three m (e ∷ past) y) p) ≡ false
        by_second true s = ap (λ z. is_ready (at (three m (e ∷ past) z) p)) (eqb-true y d s) ∙ gone
        by_second false s = ap (λ (t : Three). is_ready (at t p)) (others y s) ∙ by_first s (x == d) refl

    goes_on : ((x : ℕ) → is_ready (at (three m (e ∷ past) x) p) ≡ is_ready (at (three m past x) p)) → TakesLast m (e ∷ past) p
    goes_on same x y b r = same y ∙ h x y (subst (λ (o : List ℕ). After o x y) (order_stays m past e d is) b) (sym (same x) ∙ r)

  -- a device that moves in phase q between states that are both taken leaves each as ready as it was
  same_ready : (q : Phase) (b s : PhaseState) → at (three m past d) q ≡ b → is_ready b ≡ false → is_ready s ≡ false → (p : Phase) → Change q s (three m past d) (three_after e.kind (three m past d)) p → (x : ℕ) → is_ready (at (three m (e ∷ past) x) p) ≡ is_ready (at (three m past x) p)
  same_ready q b s was rb rs p change x =
      moved m past e d is (λ (t : Three). is_ready (at t p) ≡ is_ready (at (three m past x) p)) x refl (λ same. by_change same change)
    where
      by_change : x ≡ d → Change q s (three m past d) (three_after e.kind (three m past d)) p → is_ready (at (three_after e.kind (three m past d)) p) ≡ is_ready (at (three m past x) p)
      by_change same (Here f g) =
          let after : is_ready (at (three_after e.kind (three m past d)) p) ≡ false = ap is_ready g ∙ rs in
          let before : is_ready (at (three m past d) p) ≡ false = ap (λ (r : Phase). is_ready (at (three m past d) r)) f ∙ (ap is_ready was ∙ rb) in
          after ∙ (sym before ∙ ap (λ z. is_ready (at (three m past z) p)) (sym same))
      by_change same (Elsewhere g) = ap is_ready g ∙ ap (λ z. is_ready (at (three m past z) p)) (sym same)

  -- ---- callbacks

  module _ (p : Phase) (test : PhaseState → Bool) (h : Calls m past p test) where
    -- the device comes to another state, and the callback is as before
    calls_on : callback (e ∷ past) ≡ callback past → test (at (three m (e ∷ past) d) p) ≡ false → Calls m (e ∷ past) p test
    calls_on same out x t a = by_test (x == d) refl
      where
        by_test : (b : Bool) → (x == d) ≡ b → IsCalled (callback (e ∷ past)) x
        by_test true s = absurd (true≢false (sym t ∙ (ap (λ z. test (at (three m (e ∷ past) z) p)) (eqb-true x d s) ∙ out)))
        by_test false s = subst (λ (o : Option Callback). IsCalled o x) (sym same) (h x (ap (λ (u : Three). test (at u p)) (sym (others x s)) ∙ t) a)

    -- an asynchronous device moves by itself
    calls_beside : callback (e ∷ past) ≡ callback past → is_async_device m d ≡ true → Calls m (e ∷ past) p test
    calls_beside same async x t a = by_test (x == d) refl
      where
        by_test : (b : Bool) → (x == d) ≡ b → IsCalled (callback (e ∷ past)) x
        by_test true s = absurd (true≢false (sym async ∙ (ap (is_async_device m) (sym (eqb-true x d s)) ∙ a)))
        by_test false s = subst (λ (o : Option Callback). IsCalled o x) (sym same) (h x (ap (λ (u : Three). test (at u p)) (sym (others x s)) ∙ t) a)

    -- the maker begins its callback, and was in none
    calls_begin : (c : Callback) → c.device ≡ d → callback past ≡ None → callback (e ∷ past) ≡ Some c → Calls m (e ∷ past) p test
    calls_begin c of free runs x t a = by_test (x == d) refl
      where
        by_test : (b : Bool) → (x == d) ≡ b → IsCalled (callback (e ∷ past)) x
        by_test true s = subst (λ (o : Option Callback). IsCalled o x) (sym runs) (of ∙ sym (eqb-true x d s))
        by_test false s = absurd (subst (λ (o : Option Callback). IsCalled o x) free (h x (ap (λ (u : Three). test (at u p)) (sym (others x s)) ∙ t) a))

    -- the maker ends its callback
    calls_end : (c : Callback) → c.device ≡ d → callback past ≡ Some c → test (at (three m (e ∷ past) d) p) ≡ false → Calls m (e ∷ past) p test
    calls_end c of runs out x t a = by_test (x == d) refl
      where
        by_test : (b : Bool) → (x == d) ≡ b → IsCalled (callback (e ∷ past)) x
        by_test true s = absurd (true≢false (sym t ∙ (ap (λ z. test (at (three m (e ∷ past) z) p)) (eqb-true x d s) ∙ out)))
        by_test false s =
            let same : c.device ≡ x = subst (λ (o : Option Callback). IsCalled o x) runs (h x (ap (λ (u : Three). test (at u p)) (sym (others x s)) ∙ t) a) in
            absurd (different x d s (sym same ∙ of))

-- ---- what the maker makes

module _ (m : Machine) (past : List Entry) (time : ℕ) (now : EventNow) (who : Actor) (task : is_device who ≡ false) where
  abbrev by : Kind → Entry
  by k = record { time = time; now = now; actor = who; kind = k }

  -- the states of the device that a walk down takes, or that ends its callback
  stood_down : (p : Phase) (d : ℕ) (i : Down p) (k : Kind) (b s : PhaseState) (up : Three) → device_of k ≡ Some d → three_after k (three m past d) ≡ turned p s up (three m past d) → state_in m past p d ≡ b → is_prepared b ≡ true → DevicePhases m past (Some (stage.Downs p)) → at (three m (by k ∷ past) d) p ≡ s
  stood_down p d i k b s up is turns was ready h =
      ap (λ (t : Three). at t p) (moved_own m past (by k) d is (prepared_all m past time now who task (in_down p) true h.0 p d b i was ready) ∙ turns)
      ∙ turned_at p s up (three m past d) i

  stood_up : (p : Phase) (d : ℕ) (u : Up p) (k : Kind) (b s other : PhaseState) → device_of k ≡ Some d → three_after k (three m past d) ≡ turned p other (all_three s) (three m past d) → state_in m past (mirror p) d ≡ b → is_prepared b ≡ true → DevicePhases m past (Some (stage.Ups p)) → at (three m (by k ∷ past) d) (mirror p) ≡ s
  stood_up p d u k b s other is turns was ready h =
      ap (λ (t : Three). at t (mirror p)) (moved_own m past (by k) d is (prepared_all m past time now who task (in_up p) false h.0 (mirror p) d b (mirror_down p u) was ready) ∙ turns)
      ∙ turned_mirror p other s (three m past d) u

  runs : (c : Callback) → unless_own (is_device who) (callback past) (Some c) ≡ Some c
  runs c = ap (λ b. unless_own b (callback past) (Some c)) task

  -- a walk down takes its device
  takes_down : (p : Phase) (d : ℕ) (k : Kind) (s : PhaseState) (up : Three) → device_of k ≡ Some d → three_after k (three m past d) ≡ turned p s up (three m past d) → is_ready s ≡ false → next_down m past p ≡ Some d → DevicePhases m past (Some (stage.Downs p)) → WalksAt m past (stage.Downs p) → Down p → TakesLast m (by k ∷ past) p
  takes_down p d k s up is turns gone n h w i =
      takes m past (by k) d is p (w i).0 n i (ap is_ready (stood_down p d i k state.Prepared s up is turns (ready_stands m past time now who task p d n) refl h) ∙ gone)

  skips_down : (p : Phase) (d : ℕ) (k : Kind) (s : PhaseState) (up : Three) → device_of k ≡ Some d → three_after k (three m past d) ≡ turned p s up (three m past d) → callback (by k ∷ past) ≡ callback past → is_ready s ≡ false → is_suspending s ≡ false → next_down m past p ≡ Some d → DevicePhases m past (Some (stage.Downs p)) → WalksAt m past (stage.Downs p) → WalksAt m (by k ∷ past) (stage.Downs p)
  skips_down p d k s up is turns same gone out n h w = λ i. (
    takes_down p d k s up is turns gone n h w i,
    calls_on m past (by k) d is p is_suspending (w i).1 same (ap is_suspending (stood_down p d i k state.Prepared s up is turns (ready_stands m past time now who task p d n) refl h) ∙ out),
  )

  begins_down : (p : Phase) (d : ℕ) → AtTurn m past p d → DevicePhases m past (Some (stage.Downs p)) → WalksAt m past (stage.Downs p) → WalksAt m (by (kind.Begin p d) ∷ past) (stage.Downs p)
  begins_down p d t h w = λ i. (
    takes_down p d (kind.Begin p d) state.Suspending (all_three state.Resuming) refl refl refl t.next h w i,
    calls_begin m past (by (kind.Begin p d)) d refl p is_suspending (w i).1 (record { phase = p; device = d }) refl t.free (runs (record { phase = p; device = d })),
  )

  ends_down : (p q : Phase) (d : ℕ) (r : Option Errno) → callback past ≡ Some (record { phase = q; device = d }) → DevicePhases m past (Some (stage.Downs p)) → WalksAt m past (stage.Downs p) → WalksAt m (by (kind.End p d r) ∷ past) (stage.Downs p)
  ends_down p q d r c h w = λ i.
      let x : Inside m (record { phase = q; device = d }) state.Suspending p (three m past) = called m past time now who task (callback past) (record { phase = q; device = d }) state.Suspending p (three m past) c h.1 in (
        goes_on m past (by (kind.End p d r)) d refl p (w i).0 (same_ready m past (by (kind.End p d r)) d refl p state.Suspending (ended_by r) x.inside refl (ended_taken r) p (turned_down p p (ended_by r) (all_three state.Resumed) (three m past d) i i)),
        calls_end m past (by (kind.End p d r)) d refl p is_suspending (w i).1 (record { phase = q; device = d }) refl c (ap is_suspending (stood_down p d i (kind.End p d r) state.Suspending (ended_by r) (all_three state.Resumed) refl refl (sym (at_is m past p d i) ∙ x.inside) refl h) ∙ ended_out r),
      )
    where
      ended_taken : (r : Option Errno) → is_ready (ended_by r) ≡ false
      ended_taken None = refl
      ended_taken (Some x) = refl

      ended_out : (r : Option Errno) → is_suspending (ended_by r) ≡ false
      ended_out None = refl
      ended_out (Some x) = refl

  schedules_up : (p : Phase) (d : ℕ) → next_to_schedule m past (mirror p) ≡ Some d → DevicePhases m past (Some (stage.Ups p)) → WalksAt m past (stage.Ups p) → WalksAt m (by (kind.Schedule p d) ∷ past) (stage.Ups p)
  schedules_up p d n h w = λ u.
      calls_on m past (by (kind.Schedule p d)) d refl (mirror p) is_resuming (w u) refl
      (ap is_resuming (stood_up p d u (kind.Schedule p d) state.Suspended state.Rescheduled state.Scheduled refl refl (scheduled_stands m past time now who task (mirror p) d n).0 refl h))

  begins_up : (p : Phase) (d : ℕ) → callback past ≡ None → DevicePhases m past (Some (stage.Ups p)) → WalksAt m past (stage.Ups p) → WalksAt m (by (kind.Begin p d) ∷ past) (stage.Ups p)
  begins_up p d c h w = λ u.
      calls_begin m past (by (kind.Begin p d)) d refl (mirror p) is_resuming (w u) (record { phase = p; device = d }) refl c (runs (record { phase = p; device = d }))

  ends_up : (p q : Phase) (d : ℕ) (r : Option Errno) → callback past ≡ Some (record { phase = q; device = d }) → DevicePhases m past (Some (stage.Ups p)) → WalksAt m past (stage.Ups p) → WalksAt m (by (kind.End p d r) ∷ past) (stage.Ups p)
  ends_up p q d r c h w = λ u.
      let x : Inside m (record { phase = q; device = d }) state.Resuming (mirror p) (three m past) = called m past time now who task (callback past) (record { phase = q; device = d }) state.Resuming (mirror p) (three m past) c h.1 in
      calls_end m past (by (kind.End p d r)) d refl (mirror p) is_resuming (w u) (record { phase = q; device = d }) refl c
      (ap is_resuming (stood_up p d u (kind.End p d r) state.Resuming state.Resumed (ended_by r) refl refl (sym (at_is m past (mirror p) d (mirror_down p u)) ∙ x.inside) refl h))

  -- a phase on the way down begins with all of the order fresh
  starts_down : (k : Kind) → ((ls : List Link) → links_after k ls ≡ ls) → (p : Phase) (i : Down p) (moods : Phase → Mood) (full : Bool) → Fines m past moods full → moods p ≡ Fresh → ((x : ℕ) → is_among (order m past) x ≡ true → is_prepared (state_in m past phase.Suspend x) ≡ true) → ((x : ℕ) → three m (by k ∷ past) x ≡ three m past x) → TakesLast m (by k ∷ past) p × Calls m (by k ∷ past) p is_suspending
  starts_down k links p i moods full h f every same = (
    λ x e c r.
        let b : After (order m past) x e = subst (λ (ls : List Link). After (order_by (parents_of m.devices) ls) x e) (links (links_at m past)) c in
        ap (λ (t : Three). is_ready (at t p)) (same e) ∙ begins m past moods full h every p i f x e b (ap (λ (t : Three). is_ready (at t p)) (sym (same x)) ∙ r),
    none_called m past p is_suspending (begins_apart m past moods full h p i f) (by k ∷ past) (λ x. ap (λ (t : Three). at t p) (same x)),
  )

  starts_up : (k : Kind) (p : Phase) (i : Down p) (moods : Phase → Mood) (full : Bool) (a : Mood) → ((s : PhaseState) (e : Bool) → allows a e s ≡ true → is_resuming s ≡ false) → Fines m past moods full → moods p ≡ a → ((x : ℕ) → three m (by k ∷ past) x ≡ three m past x) → Calls m (by k ∷ past) p is_resuming
  starts_up k p i moods full a apart h f same = none_called m past p is_resuming (rises_apart m past moods full h p i a apart f) (by k ∷ past) (λ x. ap (λ (t : Three). at t p) (same x))

  maker_walks : (there : Stage) (k : Kind) → Made m past now there k → DevicePhases m past (Some there) → WalksAt m past there → WalksIf m (by k ∷ past) (stage_after k (Some there))
  maker_walks _ k (Made.Prepared f n) h w =
      let after : DevicePhases m (by k ∷ past) (Some (stage.Downs phase.Suspend)) = maker_stands m past time now who task stage.Prepares k (Made.Prepared f n) h in
      λ i. starts_down k (λ ls. refl) phase.Suspend InSuspend (λ q. Fresh) false h.0 refl (λ x. (after.0 x).prepared) (λ x. refl)
  maker_walks _ k Made.PlatformPrepares h w = λ i. starts_down k (λ ls. refl) phase.Late InLate (in_suspend Settled Fresh) true h.0 refl (λ x. (h.0 x).prepared) (λ x. refl)
  maker_walks _ k (Made.LateEnds s) h w = λ i. starts_down k (λ ls. refl) phase.Noirq InNoirq (in_down phase.Late) true h.0 refl (λ x. (h.0 x).prepared) (λ x. refl)
  maker_walks _ k Made.PlatformWakes h w = λ u. starts_up k phase.Noirq InNoirq (λ q. Settled) false Settled settled_apart h.0 refl (λ x. refl)
  maker_walks _ k Made.PlatformFinishes h w = λ u. starts_up k phase.Suspend InSuspend (in_suspend Settled Risen) false Settled settled_apart h.0 refl (λ x. refl)
  maker_walks _ k Made.PlatformRecovers h w = λ u. starts_up k phase.Suspend InSuspend (in_suspend Halted Risen) false Halted halted_apart h.0 refl (λ x. refl)
  maker_walks _ k (Made.LateFails r b) h w = λ u. starts_up k phase.Late InLate (in_down phase.Late) true Going going_apart h.0 refl (λ x. refl)
  maker_walks _ k (Made.NoirqFails r b) h w = λ u. starts_up k phase.Noirq InNoirq (in_down phase.Noirq) true Going going_apart h.0 refl (λ x. refl)
  maker_walks _ k (Made.ResumeNoirqEnds r) h w = λ u. starts_up k phase.Late InLate (in_up phase.ResumeNoirq) false Settled settled_apart h.0 refl (λ x. refl)
  maker_walks _ k (Made.EndsDown p q d r i c) h w = ends_down p q d r c h w
  maker_walks _ k (Made.SchedulesDown p d i c f n a) h w = skips_down p d k state.Scheduled (all_three state.Rescheduled) refl refl refl refl refl n h w
  maker_walks _ k (Made.FindsDown p d i t e b) h w = skips_down p d k state.Failed (three m past d) refl refl refl refl refl t.next h w
  maker_walks _ k (Made.LeavesDown p d i t e a) h w = skips_down p d k state.Direct (three m past d) refl refl refl refl refl t.next h w
  maker_walks _ k (Made.BeginsDown p d i t e a) h w = begins_down p d t h w
  maker_walks _ k (Made.EndsUp p q d r u c) h w = ends_up p q d r c h w
  maker_walks _ k (Made.SchedulesUp p d u c n) h w = schedules_up p d n h w
  maker_walks _ k (Made.BeginsUp p d u c g n a) h w = begins_up p d c h w
  maker_walks _ k _ h w = tt

-- ---- a device's own entries

module _ (m : Machine) (past : List Entry) (e : Entry) (d : ℕ) (is : device_of e.kind ≡ Some d) (same : callback (e ∷ past) ≡ callback past) (async : is_async_device m d ≡ true) (q : Phase) (b s : PhaseState) (was : at (three m past d) q ≡ b) (rb : is_ready b ≡ false) (rs : is_ready s ≡ false) (changes : (p : Phase) → Down p → Change q s (three m past d) (three_after e.kind (three m past d)) p) where
  own_walks : (st : Option Stage) → WalksIf m past st → WalksIf m (e ∷ past) st
  own_walks (Some (stage.Downs p)) w = λ i. (
    goes_on m past e d is p (w i).0 (same_ready m past e d is q b s was rb rs p (changes p i)),
    calls_beside m past e d is p is_suspending (w i).1 same async,
  )
  own_walks (Some (stage.Ups p)) w = λ u. calls_beside m past e d is (mirror p) is_resuming (w u) same async
  own_walks None w = tt
  own_walks (Some stage.Notifies) w = tt
  own_walks (Some _) w = tt

device_walks : (m : Machine) (past : List Entry) (time : ℕ) (now : EventNow) (d : ℕ) (k : Kind) (st : Option Stage) → DeviceMade m past now d k → WalksIf m past st → WalksIf m (record { time = time; now = now; actor = actor.Dev d; kind = k } ∷ past) st
device_walks m past time now d k st (DeviceMade.OwnFails p r i g f) w =
    own_walks m past (record { time = time; now = now; actor = actor.Dev d; kind = k }) d refl refl g.beside p state.Scheduled state.Failed (at_is m past p d i ∙ g.states) refl refl (λ q j. turned_down p q state.Failed (three m past d) (three m past d) i j) st w
device_walks m past time now d k st (DeviceMade.OwnFinds p i g f t b) w =
    own_walks m past (record { time = time; now = now; actor = actor.Dev d; kind = k }) d refl refl g.beside p state.Scheduled state.Failed (at_is m past p d i ∙ g.states) refl refl (λ q j. turned_down p q state.Failed (three m past d) (three m past d) i j) st w
device_walks m past time now d k st (DeviceMade.OwnLeaves p i g f t a) w =
    own_walks m past (record { time = time; now = now; actor = actor.Dev d; kind = k }) d refl refl g.beside p state.Scheduled state.Direct (at_is m past p d i ∙ g.states) refl refl (λ q j. turned_down p q state.Direct (three m past d) (three m past d) i j) st w
device_walks m past time now d k st (DeviceMade.OwnBegins p i g f t a) w =
    own_walks m past (record { time = time; now = now; actor = actor.Dev d; kind = k }) d refl refl g.beside p state.Scheduled state.Suspending (at_is m past p d i ∙ g.states) refl refl (λ q j. turned_down p q state.Suspending (all_three state.Resuming) (three m past d) i j) st w
device_walks m past time now d k st (DeviceMade.OwnRises p u a x s n) w =
    own_walks m past (record { time = time; now = now; actor = actor.Dev d; kind = k }) d refl refl a (mirror p) state.Rescheduled state.Resuming (at_is m past (mirror p) d (mirror_down p u) ∙ s) refl refl (λ q j. turned_up p q state.Resuming state.Suspending (three m past d) u j) st w
device_walks m past time now d k st (DeviceMade.OwnEnds p r i a x s) w =
    own_walks m past (record { time = time; now = now; actor = actor.Dev d; kind = k }) d refl refl a p state.Suspending (ended_by r) (at_is m past p d i ∙ s) refl (taken r) (λ q j. turned_down p q (ended_by r) (all_three state.Resumed) (three m past d) i j) st w
  where
    taken : (r : Option Errno) → is_ready (ended_by r) ≡ false
    taken None = refl
    taken (Some y) = refl
device_walks m past time now d k st (DeviceMade.OwnRose p r u a x s) w =
    own_walks m past (record { time = time; now = now; actor = actor.Dev d; kind = k }) d refl refl a (mirror p) state.Resuming state.Resumed (at_is m past (mirror p) d (mirror_down p u) ∙ s) refl refl (λ q j. turned_up p q state.Resumed (ended_by r) (three m past d) u j) st w

-- ---- at each point

-- the states of devices, and how their walk goes on
abbrev pub Underway : Machine → Option Stage → List Entry → Type 0
Underway m st past = DevicePhases m past st × WalksIf m past st

walks_comes : (m : Machine) (past : List Entry) (here there : Stage) → Comes m past here there → WalksAt m past here → WalksAt m past there
walks_comes m past _ _ (AtOnce s) w = w
walks_comes m past _ _ (PastNotifiers e) w = tt
walks_comes m past _ _ (PastCpus e) w = tt
walks_comes m past _ _ (PastParts e) w = tt
walks_comes m past _ _ (PastPartsUp e) w = tt
walks_comes m past _ _ (PastCpusUp e) w = tt
walks_comes m past _ _ (PastPosts e) w = tt

walks_beside : (m : Machine) (past : List Entry) (time : ℕ) (now : EventNow) (who : Actor) (k : Kind) (st : Option Stage) → Outside st k → WalksIf m past st → WalksIf m (record { time = time; now = now; actor = who; kind = k } ∷ past) st
walks_beside m past time now who _ (Some (stage.Downs p)) Outside.Frozen w = w
walks_beside m past time now who _ (Some (stage.Ups p)) Outside.Frozen w = w
walks_beside m past time now who _ None Outside.Frozen w = tt
walks_beside m past time now who _ (Some (stage.Downs p)) (Outside.LinkAdded supplier consumer e) w = absurd (some≢none _ e)
walks_beside m past time now who _ (Some (stage.Downs p)) (Outside.LinkSet supplier consumer active e) w = absurd (some≢none _ e)
walks_beside m past time now who _ (Some (stage.Downs p)) _ w = w
walks_beside m past time now who _ (Some (stage.Ups p)) _ w = w
walks_beside m past time now who k None a w = tt
walks_beside m past time now who k (Some _) a w = tt

underway_invariant : (m : Machine) → StageInvariant m (Underway m)
underway_invariant m =
    let s : StageInvariant m (λ (st : Option Stage) (past : List Entry). DevicePhases m past st) = device_phases_invariant m in
    record {
      starts = (s.starts, tt);
      opens = λ past time now who n guarded h. (s.opens past time now who n guarded h.0, tt);
      comes = λ past here there c h. (s.comes past here there c h.0, walks_comes m past here there c h.1);
      makes = λ past time now who there k task x h. (s.makes past time now who there k task x h.0, maker_walks m past time now who task.no_device there k x h.0 h.1);
      beside = λ past time now who k st x task a h. (s.beside past time now who k st x task a h.0, walks_beside m past time now who k st a h.1);
      owns = λ past time now d k st x h. (s.owns past time now d k st x h.0, device_walks m past time now d k st x h.1);
    }

-- so at each point of a legal journal
pub underway : (m : Machine) (past : List Entry) → JournalPart m past → Underway m (stage_of past) past
underway m past h = at_stage m (Underway m) (underway_invariant m) past h
