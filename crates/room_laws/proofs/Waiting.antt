-- If nobody can go on, each script that has not exited waits, for events to end or for a mark.
use Rattle.std.proofs.Common.{◌≡◌, ◌≤◌, ◌<◌, ◌+◌, ◌∙◌, ℕ, zero, suc, Bool, true, false, not, ◌==◌, ◌&&◌, ◌||◌, min, nat_lt, List, [], ◌∷◌, length, filter, Option, Some, None, is_some, slice_get, cond, refl, sym, ap, subst, arith}
use Rattle.std.specs.List.{list_all}
use Rattle.std.proofs.lemmas.Bool.{true≢false}
use Rattle.std.proofs.lemmas.Bool.Decides.{nat_tests}
use Rattle.sleep_model.specs.declared.entry.Actor.{Actor}
use Rattle.sleep_model.specs.declared.entry.Actor.TheVariants as actor
use Rattle.sleep_model.specs.declared.entry.Entry.{Entry}
use Rattle.sleep_model.specs.declared.log.LogEnd.TheVariants.{Stuck}
use Rattle.sleep_model.specs.declared.log.Waiting.{Waiting}
use Rattle.sleep_model.specs.declared.machine.Machine.{Machine}
use Rattle.sleep_model.specs.declared.machine.Op.{Op}
use Rattle.sleep_model.specs.declared.machine.Op.TheVariants as op
use Rattle.sleep_model.specs.declared.machine.Script.{Script}
use Rattle.sleep_model.specs.declared.progress.Due.{Due}
use Rattle.sleep_model.specs.declared.progress.Due.TheVariants.{Makes, Waits, Nothing}
use Rattle.sleep_model.specs.declared.progress.Freezing.{Freezing}
use Rattle.sleep_model.specs.declared.progress.ScriptPosition.{ScriptPosition}
use Rattle.sleep_model.specs.declared.progress.Sleep.{Sleep}
use Rattle.sleep_model.specs.declared.progress.Work.{Work}
use Rattle.sleep_model.specs.declared.progress.Work.TheVariants.{Resting, Reading, Saving, Attempting, Looking, Napping, Closing}
use Rattle.sleep_model.specs.declared.word.EventNow.{EventNow}
use Rattle.sleep_model.specs.Accepted.{IsAccepted, IsOp}
use Rattle.sleep_model.specs.Attempt.{attempt_due, freeze_since, sleep_of, sleeps_now}
use Rattle.sleep_model.specs.Autosleep.{auto_due, work, work_due}
use Rattle.sleep_model.specs.Calls.{calls_due, is_calling, made}
use Rattle.sleep_model.specs.Due.{have_all_exited, due, is_over, own_due}
use Rattle.sleep_model.specs.Fits.{fits_cause, fits_end, fits_script, is_filled}
use Rattle.sleep_model.specs.Freezer.{freezing, unasked}
use Rattle.sleep_model.specs.Legal.{IsLegal, IsStuckAfter, JournalPart, alarm_at, deadline_at, is_enabled, is_idle, is_made, journal_time, next_expiry, next_sleep, next_time, none_enabled, none_expires, pending_nap, pending_sleep, put_waiting, sooner, waiting, waiting_from}
use Rattle.sleep_model.specs.Lock.{holder, is_on}
use Rattle.sleep_model.specs.Marks.{mark_at, raised}
use Rattle.sleep_model.specs.Numbers.{numbers, time_of}
use Rattle.sleep_model.specs.EntryClasses.{journal}
use Rattle.sleep_model.specs.Path.{is_actor, maker}
use Rattle.sleep_model.specs.Scripts.{entry_steps, makes_entry, operations}
use Rattle.sleep_model.specs.Positions.{all_exited, position_at, positions}
use Rattle.sleep_model.specs.Sources.{history}
use Rattle.sleep_model.specs.Steps.{mark_due, saved_number, slept_due, step_due}
use Rattle.sleep_model.specs.Tasks.{is_line, is_mem, is_off}
use Rattle.sleep_model.specs.Word.{visible}
use Rattle.sleep_laws.proofs.Closing.{closed_if_idle}
use Rattle.sleep_laws.proofs.Ending.{and_left, and_right, no_alarm, none_of, not_made, not_true, sooner_none}
use Rattle.sleep_laws.proofs.Made.{position_of}
use Rattle.sleep_laws.proofs.Operations.{Each, each_get, entry_operation}
use Rattle.sleep_laws.proofs.Telling.{some≢none}
use Rattle.room_laws.proofs.Locking.{lock}
use Rattle.room_laws.proofs.Sitting.{IsAttempting, IsSetting, LockAt, SetsAt, SleepAt, free, op_at, positions_len, sleeper, step_is}

-- ---- small facts

-- what is left of a list passes the test
pub each_preserved : (p : Op → Bool) (xs : List Op) → Each (λ x. p x ≡ true) (filter p xs)
each_preserved p [] = tt
each_preserved p (x ∷ xs) = by (p x) refl (each_preserved p xs)
  where
    by : (b : Bool) → p x ≡ b → Each (λ x. p x ≡ true) (filter p xs) → Each (λ x. p x ≡ true) (cond b (x ∷ filter p xs) (filter p xs))
    by true e rest = (e, rest)
    by false e rest = rest

-- a script is at no call
pub at_entry : (s : Script) (n : ℕ) (x : Op) → slice_get (entry_steps s) n ≡ Some x → makes_entry x ≡ true
at_entry s n x e = each_get (λ x. makes_entry x ≡ true) (entry_steps s) n x (each_preserved makes_entry (operations s)) e

-- ---- one script

-- who is not made anything waits for events to end, or for a mark of the machine
abbrev pub WaitsWell : Machine → Due → Type 0
WaitsWell m (Makes k) = Unit {0}
WaitsWell m (Waits cause) = fits_cause m cause ≡ true
WaitsWell m Nothing = ⊥

well_if : (m : Machine) (b : Bool) (x y : Due) → (b ≡ true → WaitsWell m x) → (b ≡ false → WaitsWell m y) → WaitsWell m (cond b x y)
well_if m true x y f g = f refl
well_if m false x y f g = g refl

well_free : (m : Machine) (b : Bool) (x y : Due) → b ≡ false → WaitsWell m y → WaitsWell m (cond b x y)
well_free m true x y e h = absurd (true≢false e)
well_free m false x y e h = h

made_if : (b : Bool) (x y : Due) → is_made x ≡ true → is_made y ≡ true → is_made (cond b x y) ≡ true
made_if true x y h g = h
made_if false x y h g = g

made_true : (b : Bool) (x y : Due) → b ≡ true → is_made x ≡ true → is_made (cond b x y) ≡ true
made_true true x y e h = h
made_true false x y e h = absurd (true≢false (sym e))

module _ (m : Machine) (past : List Entry) (now : EventNow) (unheld : holder past ≡ None) where
  mark_well : (mark : ℕ) → mark < length m.marks → WaitsWell m (mark_due mark (mark_at (raised (length m.marks) past) mark))
  mark_well mark l =
      well_if m (nat_lt 0 (mark_at (raised (length m.marks) past) mark)) _ _ (λ e. tt) (λ e. (let is : nat_lt mark (length m.marks) ≡ true = grind (arith, nat_tests) in is))

  slept_well : (position : ScriptPosition) → position.until ≡ None → (position.waits ≡ true → is_some position.until ≡ true) → (next : Due) → WaitsWell m next → WaitsWell m (cond position.waits (slept_due position.until (time_of past)) next)
  slept_well position none begun next h = well_if m position.waits _ _ (λ e. absurd (true≢false (sym (begun e) ∙ ap is_some none))) (λ e. h)

  -- a script at an operation, with no sleep pending, while nobody holds the lock
  step_well : (position : ScriptPosition) (o : Option Op) → position.until ≡ None → SleepAt o position → ((x : Op) → o ≡ Some x → IsOp m x) → ((x : Op) → o ≡ Some x → makes_entry x ≡ true) → WaitsWell m (step_due m past now position false o)
  step_well position None none begun named made = tt
  step_well position (Some op.Read) none begun named made = well_if m (now.inpr == 0) _ _ (λ e. tt) (λ e. well_if m position.waits _ _ (λ w. refl) (λ w. tt))
  step_well position (Some (op.Save count)) none begun named made =
      well_free m (is_some (holder past)) _ _ (ap is_some unheld)
      (well_if m (is_on past) _ _ (λ e. tt) (λ e. well_if m ((visible now == saved_number count position.last_read) && (now.inpr == 0)) _ _ (λ f. tt) (λ f. tt)))
  step_well position (Some (op.State text if_saved)) none begun named made =
      well_if m (if_saved && not position.saved) _ _ (λ e. tt)
      (λ e. well_free m (is_some (holder past)) _ _ (ap is_some unheld) (well_if m (is_on past) _ _ (λ f. tt) (λ f. well_if m (is_mem text) _ _ (λ g. tt) (λ g. tt))))
  step_well position (Some (op.Autosleep text)) none begun named made =
      well_if m (is_mem text || is_off text) _ _ (λ e. well_if m position.waits _ _ (λ w. tt) (λ w. well_free m (is_some (holder past)) _ _ (ap is_some unheld) tt)) (λ e. tt)
  step_well position (Some (op.Sleep ms)) none begun named made = slept_well position none begun _ tt
  step_well position (Some (op.SleepD ms)) none begun named made = slept_well position none begun _ tt
  step_well position (Some op.FreezePoint) none begun named made = tt
  step_well position (Some (op.Post mark)) none begun named made = tt
  step_well position (Some (op.Wait mark)) none begun named made = mark_well mark (named (op.Wait mark) refl)
  step_well position (Some (op.Runtime d to_suspended)) none begun named made = tt
  step_well position (Some (op.Link supplier consumer)) none begun named made = tt
  step_well position (Some (op.LinkState supplier consumer active)) none begun named made = tt
  step_well position (Some (op.Awake s)) none begun named made = absurd (true≢false (sym (made (op.Awake s) refl)))
  step_well position (Some (op.Relax s)) none begun named made = absurd (true≢false (sym (made (op.Relax s) refl)))
  step_well position (Some (op.Event s ms hard)) none begun named made = absurd (true≢false (sym (made (op.Event s ms hard) refl)))

-- ---- those that wait

-- a script that has not exited waits so, if it makes nothing
abbrev WellAt : Machine → List Entry → EventNow → ℕ → ScriptPosition → Type 0
WellAt m past now i position = position.exited ≡ false → WaitsWell m (due m past (actor.Script i) now) × (is_made (due m past (actor.Script i) now) ≡ false)

-- so do all from number i on
abbrev AllWell : Machine → List Entry → EventNow → ℕ → List ScriptPosition → Type 0
AllWell m past now i [] = Unit {0}
AllWell m past now i (position ∷ rest) = WellAt m past now i position × AllWell m past now (suc i) rest

-- a script of the machine that waits for events to end or for a mark
abbrev FitsWaiting : Machine → Waiting → Bool
FitsWaiting m w = fits_script m w.actor && fits_cause m w.why

put_fits : (m : Machine) (i : ℕ) (exited : Bool) (d : Due) (rest : List Waiting) → i < length m.actors → (exited ≡ false → WaitsWell m d × (is_made d ≡ false)) → list_all (FitsWaiting m) rest ≡ true → list_all (FitsWaiting m) (put_waiting exited i d rest) ≡ true
put_fits m i true d rest l h g = g
put_fits m i false (Waits cause) rest l h g =
    let there : nat_lt i (length m.actors) ≡ true = grind (arith, nat_tests) in
    ap (λ b. (b && fits_cause m cause) && list_all (FitsWaiting m) rest) there ∙ (ap (λ b. b && list_all (FitsWaiting m) rest) (h refl).0 ∙ g)
put_fits m i false (Makes k) rest l h g = absurd (true≢false (h refl).1)
put_fits m i false Nothing rest l h g = absurd (h refl).0

all_fit : (m : Machine) (past : List Entry) (now : EventNow) (i : ℕ) (places : List ScriptPosition) → i + length places ≤ length m.actors → AllWell m past now i places → list_all (FitsWaiting m) (waiting_from m past now i places) ≡ true
all_fit m past now i [] l h = refl
all_fit m past now i (position ∷ rest) l h = put_fits m i position.exited (due m past (actor.Script i) now) (waiting_from m past now (suc i) rest) (omega (arith, l)) h.0 (all_fit m past now (suc i) rest (omega (arith, l)) h.1)

put_filled : (m : Machine) (i : ℕ) (exited gone : Bool) (d : Due) (rest : List Waiting) → (exited && gone) ≡ false → (exited ≡ false → WaitsWell m d × (is_made d ≡ false)) → (gone ≡ false → is_filled rest ≡ true) → is_filled (put_waiting exited i d rest) ≡ true
put_filled m i true gone d rest e h g = g e
put_filled m i false gone (Waits cause) rest e h g = refl
put_filled m i false gone (Makes k) rest e h g = absurd (true≢false (h refl).1)
put_filled m i false gone Nothing rest e h g = absurd (h refl).0

some_wait : (m : Machine) (past : List Entry) (now : EventNow) (i : ℕ) (places : List ScriptPosition) → AllWell m past now i places → all_exited places ≡ false → is_filled (waiting_from m past now i places) ≡ true
some_wait m past now i [] h e = absurd (true≢false e)
some_wait m past now i (position ∷ rest) h e = put_filled m i position.exited (all_exited rest) (due m past (actor.Script i) now) (waiting_from m past now (suc i) rest) e h.0 (λ f. some_wait m past now (suc i) rest h.1 f)

-- what holds by number holds of the list
all_well : (m : Machine) (past : List Entry) (now : EventNow) (i : ℕ) (places : List ScriptPosition) → ((k : ℕ) → k < length places → WellAt m past now (i + k) (position_at places k)) → AllWell m past now i places
all_well m past now i [] h = tt
all_well m past now i (position ∷ rest) h = (
  (let first : i + 0 ≡ i = omega arith in subst (λ (n : ℕ). WellAt m past now n position) first (h 0 (omega arith))),
  all_well m past now (suc i) rest (λ k l. (let next : i + suc k ≡ suc i + k = omega arith in subst (λ (n : ℕ). WellAt m past now n (position_at rest k)) next (h (suc k) (omega (arith, l))))),
)

-- ---- nobody goes on

no_sleep : (m : Machine) (past : List Entry) (n : ℕ) → next_sleep m past n ≡ None → (i : ℕ) → i < n → pending_sleep (sleeps_now past) (freezing m i past) (slice_get m.actors i) (position_of m past i) ≡ None
no_sleep m past zero h i l = absurd (omega arith)
no_sleep m past (suc n) h i l = by_test (i == n) refl (sooner_none (pending_sleep (sleeps_now past) (freezing m n past) (slice_get m.actors n) (position_of m past n)) (next_sleep m past n) h) (λ e k. no_sleep m past n e i k)
  where
    by_test : (b : Bool) → (i == n) ≡ b → (pending_sleep (sleeps_now past) (freezing m n past) (slice_get m.actors n) (position_of m past n) ≡ None) × (next_sleep m past n ≡ None)
        → (next_sleep m past n ≡ None → i < n → pending_sleep (sleeps_now past) (freezing m i past) (slice_get m.actors i) (position_of m past i) ≡ None)
        → pending_sleep (sleeps_now past) (freezing m i past) (slice_get m.actors i) (position_of m past i) ≡ None
    by_test true e both rest =
        let same : i ≡ n = grind (arith, nat_tests) in
        subst (λ (x : ℕ). pending_sleep (sleeps_now past) (freezing m x past) (slice_get m.actors x) (position_of m past x) ≡ None) (sym same) both.0
    by_test false e both rest = let earlier : i < n = grind (arith, nat_tests) in rest both.1 earlier

-- a number within a list names something
pub there_at : (ss : List Script) (i : ℕ) → i < length ss → (s : Script) × (slice_get ss i ≡ Some s)
there_at [] i l = absurd (omega arith)
there_at (s ∷ ss) zero l = (s, refl)
there_at (s ∷ ss) (suc i) l = there_at ss i (omega (arith, l))

module _ (m : Machine) (acc : IsAccepted m) (past : List Entry) (of : ℕ → List Entry) (now : EventNow) (j : JournalPart m past) (closed : maker past ≡ None) (left : have_all_exited m past ≡ false) (idle : is_idle m past of now ≡ true) (timeless : next_time m past of ≡ None) where
  by_journal : journal_time m past ≡ None
  by_journal = (sooner_none (journal_time m past) (next_expiry (length m.sources + 1) of) timeless).0

  rest_none : sooner (deadline_at (freeze_since past)) (sooner (pending_nap past) (next_sleep m past (length m.actors))) ≡ None
  rest_none = (sooner_none (alarm_at m (sleep_of past)) (sooner (deadline_at (freeze_since past)) (sooner (pending_nap past) (next_sleep m past (length m.actors)))) by_journal).1

  awake : sleep_of past ≡ None
  awake = no_alarm m (sleep_of past) (sooner_none (alarm_at m (sleep_of past)) (sooner (deadline_at (freeze_since past)) (sooner (pending_nap past) (next_sleep m past (length m.actors)))) by_journal).0

  wakes : sleeps_now past ≡ false
  wakes = ap is_some awake

  naps_none : sooner (pending_nap past) (next_sleep m past (length m.actors)) ≡ None
  naps_none = (sooner_none (deadline_at (freeze_since past)) (sooner (pending_nap past) (next_sleep m past (length m.actors))) rest_none).1

  sleeps_none : next_sleep m past (length m.actors) ≡ None
  sleeps_none = (sooner_none (pending_nap past) (next_sleep m past (length m.actors)) naps_none).1

  scripts : Bool
  scripts = none_enabled m past of now actor.Script (length m.actors)

  devices : Bool
  devices = none_enabled m past of now actor.Dev (length m.devices)

  works : Bool
  works = not (is_enabled m past of now actor.Auto)

  expiries : Bool
  expiries = none_expires (length m.sources + 1) of (time_of past)

  scripts_idle : none_enabled m past of now actor.Script (length m.actors) ≡ true
  unfolding scripts works devices expiries
  scripts_idle = and_left scripts works (and_left (scripts && works) devices (and_left (scripts && works && devices) expiries idle))

  work_idle : not (is_enabled m past of now actor.Auto) ≡ true
  unfolding scripts works devices expiries
  work_idle = and_right scripts works (and_left (scripts && works) devices (and_left (scripts && works && devices) expiries idle))

  script_rests : (i : ℕ) → i < length m.actors → is_made (due m past (actor.Script i) now) ≡ false
  script_rests i l = not_made m past of now (actor.Script i) (none_of m past of now actor.Script (length m.actors) scripts_idle i l)

  work_rests : is_made (due m past actor.Auto now) ≡ false
  work_rests = not_made m past of now actor.Auto (not_true (is_enabled m past of now actor.Auto) work_idle)

  -- the script's next step, if it has not exited
  script_step : (i : ℕ) (s : Script) → slice_get m.actors i ≡ Some s → (position_of m past i).exited ≡ false → due m past (actor.Script i) now ≡ step_due m past now (position_of m past i) false (slice_get (entry_steps s) (position_of m past i).done)
  script_step i s e there = step_is m past now i s closed e there (free m past j closed i) (ap (λ b. b && not (is_line s.kind)) wakes)

  -- ---- nobody holds the lock

  attempting_goes : (w : Work) → IsAttempting w → is_made (work_due m past now w) ≡ true
  attempting_goes (Attempting c) h = made_if (is_on past) _ _ refl refl
  attempting_goes Resting h = absurd h
  attempting_goes Reading h = absurd h
  attempting_goes (Saving c) h = absurd h
  attempting_goes (Looking c) h = absurd h
  attempting_goes (Napping u) h = absurd h
  attempting_goes Closing h = absurd h

  work_is : due m past actor.Auto now ≡ work_due m past now (work past)
  work_is =
      ap (λ (w : Option Actor). cond (is_actor actor.Auto w) (attempt_due m past now) (own_due m past actor.Auto now)) closed
      ∙ (ap (λ b. auto_due m past now b (is_over m past)) wakes
      ∙ ap (λ b. auto_due m past now false b) (exited_first (have_all_exited m past) _ left))
    where
      exited_first : (a b : Bool) → a ≡ false → (a && b) ≡ false
      exited_first true b e = absurd (true≢false e)
      exited_first false b e = refl

  setting_goes : (position : ScriptPosition) (o : Option Op) → IsSetting o position → is_made (step_due m past now position false o) ≡ true
  setting_goes position (Some (op.Autosleep text)) h =
      made_true (is_mem text || is_off text) _ _ h.2 (made_true position.waits _ _ h.0 refl)
  setting_goes position _ h = absurd h

  setter_goes : (i : ℕ) → SetsAt m (positions (length m.actors) past) i → ⊥
  setter_goes i h = by_script (slice_get m.actors i) refl h.1
    where
      by_script : (o : Option Script) → slice_get m.actors i ≡ o → IsSetting (op_at o (position_of m past i).done) (position_of m past i) → ⊥
      by_script None e g = g
      by_script (Some s) e g = true≢false (sym (ap is_made (script_step i s e (exited g)) ∙ setting_goes (position_of m past i) (slice_get (entry_steps s) (position_of m past i).done) g) ∙ script_rests i h.0)
        where
          out : (o : Option Op) → IsSetting o (position_of m past i) → (position_of m past i).exited ≡ false
          out (Some (op.Autosleep text)) g = g.1
          out _ g = absurd g

          exited : IsSetting (slice_get (entry_steps s) (position_of m past i).done) (position_of m past i) → (position_of m past i).exited ≡ false
          exited g = out (slice_get (entry_steps s) (position_of m past i).done) g

  unheld : holder past ≡ None
  unheld = by (holder past) refl (lock m past j closed)
    where
      by : (h : Option Actor) → holder past ≡ h → LockAt m (positions (length m.actors) past) (work past) h → holder past ≡ None
      by None e l = e
      by (Some actor.Auto) e l = absurd (true≢false (sym (ap is_made work_is ∙ attempting_goes (work past) l) ∙ work_rests))
      by (Some (actor.Script i)) e l = absurd (setter_goes i l)
      by (Some (actor.Dev d)) e l = absurd l
      by (Some (actor.Timer s)) e l = absurd l
      by (Some actor.Time) e l = absurd l

  -- ---- each script

  script_well : (i : ℕ) → i < length m.actors → WellAt m past now i (position_of m past i)
  script_well i l there =
      let at = there_at m.actors i l in
      let none : (position_of m past i).until ≡ None =
      pending (freezing m i past) (sleeps_now past) (slice_get m.actors i) at.0 (free m past j closed i) wakes at.1 (no_sleep m past (length m.actors) sleeps_none i l) in
      let begun : SleepAt (slice_get (entry_steps at.0) (position_of m past i).done) (position_of m past i) = subst (λ (o : Option Script). SleepAt (op_at o (position_of m past i).done) (position_of m past i)) at.1 (sleeper m past j i l) in (
        subst (WaitsWell m) (sym (script_step i at.0 at.1 there))
            (step_well m past now unheld (position_of m past i) (slice_get (entry_steps at.0) (position_of m past i).done) none begun
            (λ x f. entry_operation m acc.scripts i (position_of m past i).done at.0 x at.1 f) (λ x f. at_entry at.0 (position_of m past i).done x f)),
        script_rests i l,
      )
    where
      pending : (f : Freezing) (asleep : Bool) (o : Option Script) (s : Script) → f ≡ unasked → asleep ≡ false → o ≡ Some s → pending_sleep asleep f o (position_of m past i) ≡ None → (position_of m past i).until ≡ None
      pending f asleep o s a b c h =
          let one = subst (λ (x : Freezing). pending_sleep asleep x o (position_of m past i) ≡ None) a h in
          let two = subst (λ (x : Bool). pending_sleep x unasked o (position_of m past i) ≡ None) b one in
          subst (λ (x : Option Script). pending_sleep false unasked x (position_of m past i) ≡ None) c two

  pub end_fits : fits_end m (Stuck (waiting m past now)) ≡ true
  end_fits =
      let places : List ScriptPosition = positions (length m.actors) past in
      let count : length (positions (length m.actors) past) ≡ length m.actors = positions_len (length m.actors) past in
      let well : AllWell m past now 0 (positions (length m.actors) past) =
      all_well m past now 0 (positions (length m.actors) past) (λ k l. (let same : k ≡ 0 + k = omega arith in subst (λ (n : ℕ). WellAt m past now n (position_at (positions (length m.actors) past) k)) same (script_well k (omega (arith, l, count))))) in
      ap (λ b. b && list_all (FitsWaiting m) (waiting m past now)) (some_wait m past now 0 (positions (length m.actors) past) well left)
      ∙ all_fit m past now 0 (positions (length m.actors) past) (omega (arith, count)) well

-- a log that goes no further names somebody, and all whom it names are scripts that wait for events to end or for a mark of the machine
pub stuck_fits : (m : Machine) → IsAccepted m → (past : List Entry) → IsLegal m past → IsStuckAfter m past → fits_end m (Stuck (waiting m (journal past) (numbers past))) ≡ true
stuck_fits m acc past legal stuck =
    end_fits m acc (journal past) (λ s. history s past) (numbers past) legal.journal
    (closed_if_idle m (record { parents = acc.parents; links = acc.links; scripts = acc.scripts }) past legal stuck.idle stuck.timeless) stuck.left stuck.idle stuck.timeless
