-- Inside an attempt: what is due at the row keeps all rules.
use Rattle.std.proofs.Common.{◌≡◌, ◌+◌, ◌∙◌, ℕ, Bool, true, false, not, ◌&&◌, nat_le, nat_lt, List, [], ◌∷◌, length, Option, Some, None, is_some, cond, refl, sym, ap, subst}
use Rattle.sleep_base.specs.declared.errno.Errno.{Errno}
use Rattle.sleep_model.specs.declared.entry.Entry.{Entry}
use Rattle.sleep_model.specs.declared.entry.FrozeEnd.{FrozeEnd}
use Rattle.sleep_model.specs.declared.entry.FrozeEnd.TheVariants as froze
use Rattle.sleep_model.specs.declared.entry.Group.{Group}
use Rattle.sleep_model.specs.declared.entry.Kind.{Kind}
use Rattle.sleep_model.specs.declared.entry.Kind.TheVariants as kind
use Rattle.sleep_model.specs.declared.entry.SkipCause.{SkipCause}
use Rattle.sleep_model.specs.declared.entry.SkipCause.TheVariants as skip
use Rattle.sleep_model.specs.declared.machine.Machine.{Machine}
use Rattle.sleep_model.specs.declared.machine.What.TheVariants as what
use Rattle.sleep_model.specs.declared.progress.Callback.{Callback}
use Rattle.sleep_model.specs.declared.progress.Due.{Due}
use Rattle.sleep_model.specs.declared.progress.Due.TheVariants.{Makes}
use Rattle.sleep_model.specs.declared.progress.Sleep.{Sleep}
use Rattle.sleep_model.specs.declared.progress.Stage.{Stage}
use Rattle.sleep_model.specs.declared.progress.Stage.TheVariants as stage
use Rattle.sleep_model.specs.declared.progress.PhaseState.TheVariants as state
use Rattle.sleep_model.specs.declared.word.EventNow.{EventNow}
use Rattle.phase_table.specs.declared.phase.Phase.{Phase}
use Rattle.phase_table.specs.declared.phase.Phase.TheVariants as phase
use Rattle.phase_table.specs.Phases.{mirror, tests_wakeup}
use Rattle.sleep_model.specs.Attempt.{answered, busy_error, cpu_kind, enter_due, failed, freeze_due, freeze_since, froze_due, gives_up_at, if_left, sleep_of, stage_due, wakes_due}
use Rattle.sleep_model.specs.Devices.{after_device, callback, complete_due, device_error, down_due, is_async_device, is_direct, next_completed, next_down, next_prepared, next_to_schedule, next_up, phase_error, phase_failed, prepare_due, state_in, take_down, up_due, waits_above, waits_for_subordinates, waits_down, waits_up, walk_down, walk_up}
use Rattle.sleep_model.specs.Freezer.{left}
use Rattle.sleep_model.specs.Guard.{pending}
use Rattle.sleep_model.specs.Notifiers.{next_notified, next_post_notified, next_cpu_off, next_cpu_on, next_syscore_suspended, next_syscore_resumed}
use Rattle.sleep_model.specs.Numbers.{time_of}
use Rattle.sleep_model.specs.Path.{attempts, maker}
use Rattle.sleep_model.specs.PhaseStates.{is_down_in}
use Rattle.sleep_model.specs.Order.{order}
use Rattle.sleep_model.specs.Word.{position}
use Rattle.sleep_laws.proofs.Boards.{three, first_found}
use Rattle.sleep_laws.proofs.Made.{Down, Up}
use Rattle.sleep_laws.proofs.Making.{OnlyMade, Proper}
use Rattle.sleep_laws.proofs.DevicePhases.{InsideIf, CallAt}
use Rattle.rule_definitions.specs.Answers.{phase_answer}
use Rattle.rule_definitions.specs.Attempts.{KeepsAttempts}
use Rattle.rule_definitions.specs.Enabled.{WakesBy}
use Rattle.rule_definitions.specs.Freezer.{FreezeEnds}
use Rattle.rule_definitions.specs.Links.{KeepsLinks}
use Rattle.rule_definitions.specs.Path.{IsOfRow}
use Rattle.rule_definitions.specs.Questions.{row_now, turn_of}
use Rattle.rule_definitions.specs.Runtime.{KeepsRuntime}
use Rattle.rule_definitions.specs.Skip.{KeepsSkip, IsTurn, IsNextDown}
use Rattle.rule_definitions.specs.Steps.{IsMakerStep}
use Rattle.rule_definitions.specs.Walk.{KeepsWalk, PreparesAt, CompletesAt, SchedulesAt, BeginsAt, BeginsBy, IsNextUp, EndsAt, EndsBy, is_done, DoneAt}
use Rattle.log_rules.proofs.Facts.{never, only_if, NoFroze, NoWake, freeze_else, wake_else}
use Rattle.log_rules.proofs.RulesAtRows.{down_answer, up_answer}
use Rattle.log_rules.proofs.Devices.{up_is}

-- what a phase answers
abbrev pub PhaseAnswers : List Entry → Kind → Type 0
PhaseAnswers past (kind.Done p r) = r ≡ phase_answer past p
PhaseAnswers past _ = Unit {0}

-- what the maker keeps at a row; what is owed, restored and answered in the end are laws of legal journals
pub record RowKeepsRules (m : Machine) (past : List Entry) (now : EventNow) (s : Stage) (k : Kind) : Type 0 where
  pub of_row : IsOfRow m past now s k
  pub attempts : KeepsAttempts past k
  pub walk : KeepsWalk m past now k
  pub skip : KeepsSkip m past now k
  pub freeze : FreezeEnds m past now (freeze_since past) k
  pub wakes : WakesBy m past now (sleep_of past) k
  pub answers : PhaseAnswers past k
  pub beside : IsMakerStep m k
  pub runtime : KeepsRuntime m past k
  pub links : KeepsLinks m past k

module _ (m : Machine) (past : List Entry) (now : EventNow) where
  -- a row of which only the table speaks
  row : (s : Stage) (k : Kind) → IsOfRow m past now s k → KeepsAttempts past k → KeepsWalk m past now k → KeepsSkip m past now k → NoFroze k → NoWake k → PhaseAnswers past k → IsMakerStep m k → KeepsRuntime m past k → KeepsLinks m past k → RowKeepsRules m past now s k
  row s k o a w q f z n b u l = record {
    of_row = o;
    attempts = a;
    walk = w;
    skip = q;
    freeze = freeze_else m past now (freeze_since past) k f;
    wakes = wake_else m past now (sleep_of past) k z;
    answers = n;
    beside = b;
    runtime = u;
    links = l;
  }

  only_after : (P : Kind → Type 0) (o : Option ℕ) (x : Due) → (o ≡ None → OnlyMade P x) → OnlyMade P (after_device o x)
  only_after P None x f = f refl
  only_after P (Some d) x f = tt

  only_left : (P : Kind → Type 0) (k : ℕ → Kind) (o : Option ℕ) → ((x : ℕ) → o ≡ Some x → P (k x)) → OnlyMade P (if_left k o)
  only_left P k None f = tt
  only_left P k (Some x) f = f x refl

  -- ---- a freeze

  froze_row : (g : Group) (end : FrozeEnd) (since : ℕ) → freeze_since past ≡ Some since → froze_due past now g since (left m g past) ≡ Makes (kind.Froze g end) → RowKeepsRules m past now (stage.Freezes g) (kind.Froze g end)
  froze_row g end since e h = record {
    of_row = (refl, ap is_some e);
    attempts = tt;
    walk = tt;
    skip = tt;
    freeze = subst (λ (o : Option ℕ). FreezeEnds m past now o (kind.Froze g end)) (sym e) h;
    wakes = wake_else m past now (sleep_of past) (kind.Froze g end) tt;
    answers = tt;
    beside = tt;
    runtime = tt;
    links = tt;
  }

  froze_made : (g : Group) (since : ℕ) → freeze_since past ≡ Some since → (l : List ℕ) → left m g past ≡ l → OnlyMade (RowKeepsRules m past now (stage.Freezes g)) (froze_due past now g since l)
  froze_made g since e [] f = froze_row g froze.AllFrozen since e (rw f refl)
  froze_made g since e (x ∷ rest) f =
      let P : Kind → Type 0 = RowKeepsRules m past now (stage.Freezes g) in
      only_if P (nat_le (gives_up_at since) (time_of past)) _ _
      (λ t. froze_row g (froze.Timeout (length (x ∷ rest)) x) since e (rw f (rw t refl)))
      (λ t. only_if P (pending past now) _ _ (λ b. froze_row g (froze.Wakeup (length (x ∷ rest)) x) since e (rw f (rw t (rw b refl)))) (λ b. tt))

  freeze_made : (g : Group) (o : Option ℕ) → freeze_since past ≡ o → OnlyMade (RowKeepsRules m past now (stage.Freezes g)) (freeze_due m past now g o)
  freeze_made g None e = row (stage.Freezes g) (kind.Freeze g) (refl, e) tt tt tt tt tt tt tt tt tt
  freeze_made g (Some since) e = froze_made g since e (left m g past) refl

  -- ---- prepare and complete

  prepare_made : row_now m past ≡ Some stage.Prepares → (error : Option Errno) (next : Option ℕ) → phase_failed past ≡ error → next_prepared m past ≡ next → OnlyMade (RowKeepsRules m past now stage.Prepares) (prepare_due m past error next)
  prepare_made e None (Some d) f n = row stage.Prepares (kind.Prepare d _) tt tt (subst (PreparesAt m past d _) (sym e) (f, n, refl)) tt tt tt tt tt tt tt
  prepare_made e None None f n = row stage.Prepares (kind.Done phase.Prepare None) refl tt (subst (DoneAt m past phase.Prepare) (sym e) (refl, rw (f, n) refl)) tt tt tt (sym f) tt tt tt
  prepare_made e (Some r) next f n = row stage.Prepares (kind.Done phase.Prepare (Some r)) refl tt (subst (DoneAt m past phase.Prepare) (sym e) (refl, rw f refl)) tt tt tt (sym f) tt tt tt

  complete_made : row_now m past ≡ Some stage.Completes → (next : Option ℕ) → next_completed m past ≡ next → OnlyMade (RowKeepsRules m past now stage.Completes) (complete_due next)
  complete_made e None n = row stage.Completes (kind.Done phase.Complete None) refl tt (subst (DoneAt m past phase.Complete) (sym e) (refl, n)) tt tt tt refl tt tt tt
  complete_made e (Some d) n = row stage.Completes (kind.Complete d) tt tt (subst (CompletesAt m past d) (sym e) n) tt tt tt tt tt tt tt

  -- ---- a phase on the way down

  module _ (p : Phase) (i : Down p) (e : row_now m past ≡ Some (stage.Downs p)) where
    down_begins : (d : ℕ) → is_async_device m d ≡ false → IsNextDown m past p d → turn_of m past now p d ≡ kind.Begin p d → RowKeepsRules m past now (stage.Downs p) (kind.Begin p d)
    down_begins d b h t =
        row (stage.Downs p) (kind.Begin p d) refl tt
        (subst (λ (x : Bool). BeginsBy m past now p d x (row_now m past)) (sym b) (subst (BeginsAt m past now p d) (sym e) (refl, h, t)))
        (λ q. t) tt tt tt b tt tt

    down_skips : (d : ℕ) (cause : SkipCause) → is_async_device m d ≡ false → IsNextDown m past p d → turn_of m past now p d ≡ kind.Skip p d cause → RowKeepsRules m past now (stage.Downs p) (kind.Skip p d cause)
    down_skips d cause b h t =
        row (stage.Downs p) (kind.Skip p d cause) refl tt tt
        (subst (λ (x : Bool). IsTurn m past p d x (row_now m past)) (sym b) (subst (IsTurn m past p d false) (sym e) (refl, h)), t)
        tt tt tt b tt tt

    taken_made : (d : ℕ) → is_async_device m d ≡ false → IsNextDown m past p d → (f a : Bool) → (tests_wakeup p && pending past now) ≡ f → is_direct m past p d ≡ a → RowKeepsRules m past now (stage.Downs p) (cond f (kind.Skip p d skip.Pending) (cond a (kind.Skip p d skip.Direct) (kind.Begin p d)))
    taken_made d b h true a x y = down_skips d skip.Pending b h (rw (h.well, x) refl)
    taken_made d b h false true x y = down_skips d skip.Direct b h (rw (h.well, x, y) refl)
    taken_made d b h false false x y = down_begins d b h (rw (h.well, x, y) refl)

    take_made : (d : ℕ) → callback past ≡ None → phase_failed past ≡ None → next_down m past p ≡ Some d → OnlyMade (RowKeepsRules m past now (stage.Downs p)) (take_down m past now p d)
    take_made d c f n =
        let P : Kind → Type 0 = RowKeepsRules m past now (stage.Downs p) in
        only_if P (is_async_device m d) _ _
        (λ b. row (stage.Downs p) (kind.Schedule p d) refl tt (subst (SchedulesAt m past p d) (sym e) (refl, c, f, n, b)) tt tt tt tt tt tt tt)
        (λ b. only_after P (waits_for_subordinates m past p d) _ (λ w. taken_made d b (record { free = c; well = f; next = n; waits = w }) (tests_wakeup p && pending past now) (is_direct m past p d) refl refl))

    close_made : callback past ≡ None → is_done (phase_failed past) (next_down m past p) ≡ true → OnlyMade (RowKeepsRules m past now (stage.Downs p)) (after_device (waits_down m past p) (Makes (kind.Done p (phase_error past))))
    close_made c t =
        only_after (RowKeepsRules m past now (stage.Downs p)) (waits_down m past p) _
        (λ w. row (stage.Downs p) (kind.Done p (phase_error past)) refl tt (subst (DoneAt m past p) (sym e) (refl, record { free = c; waits = w; through = t })) tt tt tt (sym (down_answer past p i)) tt tt tt)

    walk_made : callback past ≡ None → (error : Option Errno) (next : Option ℕ) → phase_failed past ≡ error → next_down m past p ≡ next → OnlyMade (RowKeepsRules m past now (stage.Downs p)) (walk_down m past now p error next)
    walk_made c None (Some d) f n = take_made d c f n
    walk_made c None None f n = close_made c (rw (f, n) refl)
    walk_made c (Some r) next f n = close_made c (rw f refl)

    down_made : (o : Option Callback) → callback past ≡ o → InsideIf m o state.Suspending p (three m past) → OnlyMade (RowKeepsRules m past now (stage.Downs p)) (down_due m past now p o)
    down_made None c h = walk_made c (phase_failed past) (next_down m past p) refl refl
    down_made (Some x) c h =
        row (stage.Downs p) (kind.End p x.device (device_error m past p x.device)) refl tt
        (subst (λ (b : Bool). EndsBy m past p x.device b (row_now m past)) (sym h.beside) (subst (EndsAt past p x.device) (sym e) (refl, rw c refl)), refl)
        tt tt tt tt h.beside tt tt

  -- ---- a phase on the way up

  module _ (p : Phase) (i : Up p) (e : row_now m past ≡ Some (stage.Ups p)) where
    up_begins : (d : ℕ) → is_async_device m d ≡ false → IsNextUp m past (mirror p) d → RowKeepsRules m past now (stage.Ups p) (kind.Begin p d)
    up_begins d b h =
        row (stage.Ups p) (kind.Begin p d) refl tt
        (subst (λ (x : Bool). BeginsBy m past now p d x (row_now m past)) (sym b) (subst (BeginsAt m past now p d) (sym e) (refl, h)))
        (λ q. never (sym (up_is p i) ∙ q)) tt tt tt b tt tt

    beside_not : (a b : Bool) → (a && not b) ≡ true → b ≡ false
    beside_not a false h = refl
    beside_not true true h = never h
    beside_not false true h = never h

    rise_made : callback past ≡ None → (first next : Option ℕ) → next_to_schedule m past (mirror p) ≡ first → next_up m past (mirror p) ≡ next → OnlyMade (RowKeepsRules m past now (stage.Ups p)) (walk_up m past p first next)
    rise_made c (Some d) next f n = row (stage.Ups p) (kind.Schedule p d) refl tt (subst (SchedulesAt m past p d) (sym e) (refl, c, f)) tt tt tt tt tt tt tt
    rise_made c None (Some d) f n =
        only_after (RowKeepsRules m past now (stage.Ups p)) (waits_above m past (mirror p) d) _
        (λ w. up_begins d (beside_not (is_down_in (state_in m past (mirror p) d)) (is_async_device m d) (first_found (λ y. is_down_in (state_in m past (mirror p) y) && not (is_async_device m y)) (order m past) d n).passes) (record { free = c; scheduled = f; next = n; waits = w }))
    rise_made c None None f n =
        only_after (RowKeepsRules m past now (stage.Ups p)) (waits_up m past (mirror p)) _
        (λ w. row (stage.Ups p) (kind.Done p None) refl tt (subst (DoneAt m past p) (sym e) (refl, record { free = c; scheduled = f; next = n; waits = w })) tt tt tt (sym (up_answer past p i)) tt tt tt)

    up_made : (o : Option Callback) → callback past ≡ o → InsideIf m o state.Resuming (mirror p) (three m past) → OnlyMade (RowKeepsRules m past now (stage.Ups p)) (up_due m past p o)
    up_made None c h = rise_made c (next_to_schedule m past (mirror p)) (next_up m past (mirror p)) refl refl
    up_made (Some x) c h =
        row (stage.Ups p) (kind.End p x.device (device_error m past p x.device)) refl tt
        (subst (λ (b : Bool). EndsBy m past p x.device b (row_now m past)) (sym h.beside) (subst (EndsAt past p x.device) (sym e) (refl, rw c refl)), refl)
        tt tt tt tt h.beside tt tt

  -- ---- single rows

  cpus_made : (b : Bool) → pending past now ≡ b → (o : Option ℕ) → next_cpu_off m past ≡ o → OnlyMade (RowKeepsRules m past now stage.StopsCpus) (if_left (cpu_kind b) o)
  cpus_made b f None e = tt
  cpus_made true f (Some x) e = row stage.StopsCpus (kind.CpuBusy x) (e, f) tt tt tt tt tt tt tt tt tt
  cpus_made false f (Some x) e = row stage.StopsCpus (kind.CpuOff x) (e, f) tt tt tt tt tt tt tt tt tt

  wake_row : (s : Sleep) (by_event : Bool) → sleep_of past ≡ Some s → wakes_due m past now s ≡ Makes (kind.Wake by_event) → RowKeepsRules m past now stage.Enters (kind.Wake by_event)
  wake_row s b e h = record {
    of_row = ap is_some e;
    attempts = tt;
    walk = tt;
    skip = tt;
    freeze = freeze_else m past now (freeze_since past) (kind.Wake b) tt;
    wakes = subst (λ (o : Option Sleep). WakesBy m past now o (kind.Wake b)) (sym e) h;
    answers = tt;
    beside = tt;
    runtime = tt;
    links = tt;
  }

  enter_made : (o : Option Sleep) → sleep_of past ≡ o → OnlyMade (RowKeepsRules m past now stage.Enters) (enter_due m past now o)
  enter_made None e = row stage.Enters (kind.Enter (pending past now)) (e, refl) tt tt tt tt tt tt tt tt tt
  enter_made (Some s) e =
      let P : Kind → Type 0 = RowKeepsRules m past now stage.Enters in
      only_if P (nat_lt s.pos (position now)) _ _ (λ t. wake_row s true e (rw t refl))
      (λ t. only_if P (nat_le (s.since + m.alarm_ms) (time_of past)) _ _ (λ u. wake_row s false e (rw t (rw u refl))) (λ u. tt))

  -- ---- all rows

  pub row_made : (s : Stage) → Proper s → row_now m past ≡ Some s → is_some (maker past) ≡ true → CallAt m s (callback past) (three m past) → OnlyMade (RowKeepsRules m past now s) (stage_due m past now s)
  row_made stage.Notifies i e o c = only_left (RowKeepsRules m past now stage.Notifies) _ (next_notified m past) (λ x f. row stage.Notifies (kind.NotifyPrepare x (answered m past (what.Notifier x))) (f, refl) tt tt tt tt tt tt tt tt tt)
  row_made (stage.Freezes g) i e o c = freeze_made g (freeze_since past) refl
  row_made (stage.PlatformDo step) i e o c = row (stage.PlatformDo step) (kind.PlatformDo step (answered m past (what.Platform step))) (refl, refl) tt tt tt tt tt tt tt tt tt
  row_made stage.Prepares i e o c = prepare_made e (phase_failed past) (next_prepared m past) refl refl
  row_made (stage.Downs p) i e o c = down_made p i e (callback past) refl c
  row_made stage.StopsCpus i e o c = cpus_made (pending past now) refl (next_cpu_off m past) refl
  row_made stage.StopsIrqs i e o c = row stage.StopsIrqs (kind.Irqs false) refl tt tt tt tt tt tt tt tt tt
  row_made stage.ChecksWakeup i e o c = row stage.ChecksWakeup (kind.SyscoreCheck (busy_error (pending past now))) refl tt tt tt tt tt tt tt tt tt
  row_made stage.StopsSyscore i e o c = only_left (RowKeepsRules m past now stage.StopsSyscore) _ (next_syscore_suspended m past) (λ x f. row stage.StopsSyscore (kind.SyscoreSuspend x (answered m past (what.Syscore x))) (f, refl) tt tt tt tt tt tt tt tt tt)
  row_made stage.Enters i e o c = enter_made (sleep_of past) refl
  row_made stage.StartsSyscore i e o c = only_left (RowKeepsRules m past now stage.StartsSyscore) kind.SyscoreResume (next_syscore_resumed m past) (λ x f. row stage.StartsSyscore (kind.SyscoreResume x) f tt tt tt tt tt tt tt tt tt)
  row_made stage.StartsIrqs i e o c = row stage.StartsIrqs (kind.Irqs true) refl tt tt tt tt tt tt tt tt tt
  row_made stage.StartsCpus i e o c = only_left (RowKeepsRules m past now stage.StartsCpus) kind.CpuOn (next_cpu_on m past) (λ x f. row stage.StartsCpus (kind.CpuOn x) f tt tt tt tt tt tt tt tt tt)
  row_made (stage.PlatformUndo step) i e o c = row (stage.PlatformUndo step) (kind.PlatformUndo step) refl tt tt tt tt tt tt tt tt tt
  row_made (stage.Ups p) i e o c = up_made p i e (callback past) refl c
  row_made stage.Completes i e o c = complete_made e (next_completed m past) refl
  row_made stage.ClearsEventsCheck i e o c = row stage.ClearsEventsCheck kind.Clear tt tt tt tt tt tt tt tt tt tt
  row_made (stage.Thaws those) i e o c = row (stage.Thaws those) (kind.Thaw those) refl tt tt tt tt tt tt tt tt tt
  row_made stage.NotifiesPost i e o c = only_left (RowKeepsRules m past now stage.NotifiesPost) kind.NotifyPost (next_post_notified m past) (λ x f. row stage.NotifiesPost (kind.NotifyPost x) f tt tt tt tt tt tt tt tt tt)
  row_made stage.Ends i e o c = row stage.Ends (kind.Over (attempts past) (failed past)) tt (refl, o) tt tt tt tt tt tt tt tt
