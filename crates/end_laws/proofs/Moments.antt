-- If nobody can make anything and something is left to do, each moment for which something waits is later than now; so a jump to one wakes
-- somebody.
use Rattle.std.proofs.Common.{◌≡◌, ◌<◌, ◌+◌, ◌∙◌, ℕ, zero, suc, Bool, true, false, not, ◌&&◌, ◌||◌, nat_le, nat_lt, List, [], ◌∷◌, length, IfSome, Option, Some, None, is_some, is_none, slice_get, cond, refl, sym, ap, subst, arith}
use Rattle.std.proofs.lemmas.Bool.{true≢false}
use Rattle.std.proofs.lemmas.Bool.Decides.{nat_tests}
use Rattle.std.proofs.lemmas.Option.{slice_get_within}
use Rattle.sleep_model.specs.declared.entry.Actor.TheVariants as actor
use Rattle.sleep_model.specs.declared.entry.Entry.{Entry}
use Rattle.sleep_model.specs.declared.entry.Group.{Group}
use Rattle.sleep_model.specs.declared.entry.Kind.{Kind}
use Rattle.sleep_model.specs.declared.entry.Kind.TheVariants as kind
use Rattle.sleep_model.specs.declared.log.Why.TheVariants as why
use Rattle.sleep_model.specs.declared.machine.Machine.{Machine}
use Rattle.sleep_model.specs.declared.machine.Op.{Op}
use Rattle.sleep_model.specs.declared.machine.Op.TheVariants as op
use Rattle.sleep_model.specs.declared.machine.Script.{Script}
use Rattle.sleep_model.specs.declared.machine.TaskKind.{TaskKind}
use Rattle.sleep_model.specs.declared.progress.Due.{Due}
use Rattle.sleep_model.specs.declared.progress.Due.TheVariants as turn
use Rattle.sleep_model.specs.declared.progress.Freezing.{Freezing}
use Rattle.sleep_model.specs.declared.progress.ScriptPosition.{ScriptPosition}
use Rattle.sleep_model.specs.declared.progress.Sleep.{Sleep}
use Rattle.sleep_model.specs.declared.progress.Stage.{Stage}
use Rattle.sleep_model.specs.declared.progress.Stage.TheVariants as stage
use Rattle.sleep_model.specs.declared.progress.Work.{Work}
use Rattle.sleep_model.specs.declared.progress.Work.TheVariants.{Napping}
use Rattle.sleep_model.specs.declared.word.EventNow.{EventNow}
use Rattle.sleep_model.specs.Attempt.{attempt_due, enter_due, freeze_due, freeze_since, froze_due, gives_up_at, sleep_of, sleeps_now, stage_due, wakes_due}
use Rattle.sleep_model.specs.Autosleep.{auto_due, naps_until, work, work_due}
use Rattle.sleep_model.specs.Due.{have_all_exited, due, is_over, own_due}
use Rattle.sleep_model.specs.Freezer.{freezing, left}
use Rattle.sleep_model.specs.Legal.{JournalPart, alarm_at, deadline_at, is_finished, is_idle, is_made, journal_time, next_expiry, next_sleep, next_time, none_expires, pending_nap, pending_sleep, sooner}
use Rattle.sleep_model.specs.Numbers.{time_of}
use Rattle.sleep_model.specs.Path.{is_actor, maker}
use Rattle.sleep_model.specs.Places.{is_state}
use Rattle.sleep_model.specs.Scripts.{entry_steps}
use Rattle.sleep_model.specs.Sources.{expiry, has_expired}
use Rattle.sleep_model.specs.Steps.{position_due, sleep_due, slept_due, step_due, task_due}
use Rattle.sleep_model.specs.Table.{next_stage, stage_of}
use Rattle.sleep_model.specs.Word.{position}
use Rattle.sleep_model.specs.Tasks.{freezes_at, is_line, is_user}
use Rattle.sleep_laws.proofs.Asking.{IsAsked, SinceAt, asked_invariant}
use Rattle.sleep_laws.proofs.Ending.{and_left, and_right, first_made, not_true}
use Rattle.sleep_laws.proofs.LockHolding.{at_stage}
use Rattle.sleep_laws.proofs.Made.{position_of}
use Rattle.sleep_laws.proofs.Telling.{none≢some, some≢none}
use Rattle.room_laws.proofs.Limiting.{script_tries}
use Rattle.room_laws.proofs.Running.{work_tries}
use Rattle.room_laws.proofs.Trying.{is_attempting, passes, steps_if, steps_in}
use Rattle.room_laws.proofs.Sitting.{op_at}
use Rattle.end_laws.specs.Moments.{JumpsWake, LiesAhead, NextMomentsLieAhead, jump_to}
use Rattle.end_laws.proofs.Dozing.{IsDozing, IsSleep, dozer}
use Rattle.end_laws.proofs.Waking.{maker_rests, none_due, script_rests, sleeps_entering, work_rests}

-- ---- the least of moments

-- the moment, if there is one, is later than that
abbrev Ahead : ℕ → Option ℕ → Type 0
Ahead now o = IfSome o (λ at. now < at)

sooner_ahead : (t : ℕ) (a b : Option ℕ) → Ahead t a → Ahead t b → Ahead t (sooner a b)
sooner_ahead t None b h k = k
sooner_ahead t (Some x) None h k = h
sooner_ahead t (Some x) (Some y) h k = omega (arith, h, k)

not_come : (at t : ℕ) → nat_le at t ≡ false → t < at
not_come at t h = grind (arith, nat_tests)

-- what is made once a moment has come is not made before it
test_made : (b : Bool) (x y : Due) → is_made x ≡ true → is_made (cond b x y) ≡ false → b ≡ false
test_made true x y m h = absurd (true≢false (sym m ∙ h))
test_made false x y m h = refl

-- no source is to expire
expiries_ahead : (n : ℕ) (of : ℕ → List Entry) (t : ℕ) → none_expires n of t ≡ true → Ahead t (next_expiry n of)
expiries_ahead zero of t h = tt
expiries_ahead (suc n) of t h =
    sooner_ahead t (expiry (of n)) (next_expiry n of)
    (one (expiry (of n)) (not_true (has_expired (expiry (of n)) t) (and_left (not (has_expired (expiry (of n)) t)) (none_expires n of t) h)))
    (expiries_ahead n of t (and_right (not (has_expired (expiry (of n)) t)) (none_expires n of t) h))
  where
    one : (o : Option ℕ) → has_expired o t ≡ false → Ahead t o
    one None h = tt
    one (Some at) h = not_come at t h

-- ---- the maker's

froze_later : (past : List Entry) (now : EventNow) (g : Group) (since : ℕ) (those : List ℕ) → is_made (froze_due past now g since those) ≡ false → nat_le (gives_up_at since) (time_of past) ≡ false
froze_later past now g since [] h = absurd (true≢false h)
froze_later past now g since (x ∷ rest) h = test_made (nat_le (gives_up_at since) (time_of past)) _ _ refl h

wake_later : (m : Machine) (past : List Entry) (now : EventNow) (s : Sleep) → is_made (wakes_due m past now s) ≡ false → nat_le (s.since + m.alarm_ms) (time_of past) ≡ false
wake_later m past now s h = by_event (nat_lt s.pos (position now)) h
  where
    by_event : (b : Bool) → is_made (cond b (turn.Makes (kind.Wake true)) (cond (nat_le (s.since + m.alarm_ms) (time_of past)) (turn.Makes (kind.Wake false)) (turn.Waits why.Asleep))) ≡ false → nat_le (s.since + m.alarm_ms) (time_of past) ≡ false
    by_event true h = absurd (true≢false h)
    by_event false h = test_made (nat_le (s.since + m.alarm_ms) (time_of past)) _ _ refl h

-- ---- a script's

-- a sleep that has begun, and does not end, goes on
slept_later : (begins : ℕ → Kind) (ms : ℕ) (script_position : ScriptPosition) (u t : ℕ) → script_position.waits ≡ true → script_position.until ≡ Some u → is_made (sleep_due begins ms script_position t) ≡ false → nat_le u t ≡ false
slept_later begins ms script_position u t w e h =
    let waits : is_made (slept_due script_position.until t) ≡ false = subst (λ (b : Bool). is_made (cond b (slept_due script_position.until t) (turn.Makes (begins (t + ms)))) ≡ false) w h in
    test_made (nat_le u t) (turn.Makes kind.Slept) (turn.Waits (why.Until u)) refl (subst (λ (o : Option ℕ). is_made (slept_due o t) ≡ false) e waits)

sleep_later : (m : Machine) (past : List Entry) (now : EventNow) (script_position : ScriptPosition) (asked : Bool) (o : Option Op) (u : ℕ) → IsDozing o script_position → script_position.until ≡ Some u → is_made (step_due m past now script_position asked o) ≡ false → nat_le u (time_of past) ≡ false
sleep_later m past now script_position asked (Some (op.Sleep ms)) u d e h = slept_later kind.Sleep ms script_position u (time_of past) d.waits e h
sleep_later m past now script_position asked (Some (op.SleepD ms)) u d e h = slept_later kind.SleepD ms script_position u (time_of past) d.waits e h
sleep_later m past now script_position asked _ u d e h = absurd d.sleep

-- a sleep is no write to the state
sleep_no_state : (o : Option Op) → IsSleep o → passes is_state o ≡ false
sleep_no_state (Some (op.Sleep ms)) s = refl
sleep_no_state (Some (op.SleepD ms)) s = refl
sleep_no_state _ s = absurd s

-- a task whose sleep is pending, and that makes nothing, sleeps on
task_later : (m : Machine) (past : List Entry) (now : EventNow) (f : Freezing) (kind' : TaskKind) (script_position : ScriptPosition) (o : Option Op) (u : ℕ) → f.frozen ≡ false → (sleeps_now past && not (is_line kind')) ≡ false → IsDozing o script_position → script_position.until ≡ Some u → is_made (task_due m past now f kind' script_position o) ≡ false → nat_le u (time_of past) ≡ false
task_later m past now f kind' script_position o u thawed awake d e h =
    let first = subst (λ (b : Bool). is_made (cond b (turn.Waits why.Frozen) (cond (sleeps_now past && not (is_line kind')) (turn.Waits why.Asleep) (cond (f.asked && freezes_at (is_user kind') script_position.waits o) (turn.Makes kind.Frozen) (step_due m past now script_position f.asked o)))) ≡ false) thawed h in
    let second = subst (λ (b : Bool). is_made (cond b (turn.Waits why.Asleep) (cond (f.asked && freezes_at (is_user kind') script_position.waits o) (turn.Makes kind.Frozen) (step_due m past now script_position f.asked o))) ≡ false) awake first in
    sleep_later m past now script_position f.asked o u d e (unasked (f.asked && freezes_at (is_user kind') script_position.waits o) second)
  where
    unasked : (b : Bool) → is_made (cond b (turn.Makes kind.Frozen) (step_due m past now script_position f.asked o)) ≡ false → is_made (step_due m past now script_position f.asked o) ≡ false
    unasked true h = absurd (true≢false h)
    unasked false h = h

or_parts : (a b : Bool) → (a || b) ≡ false → (a ≡ false) × (b ≡ false)
or_parts true b h = absurd (true≢false h)
or_parts false b h = (refl, h)

no_nap : (w : Work) (u : ℕ) → naps_until w ≡ Some u → w ≡ Napping (Some u)
no_nap (Napping o) u e = ap Napping e
no_nap _ u e = absurd (none≢some u e)

-- ---- all

module _ (m : Machine) (past : List Entry) (of : ℕ → List Entry) (now : EventNow) (j : JournalPart m past) (idle : is_idle m past of now ≡ true) where
  alarm_ahead : (o : Option Sleep) → sleep_of past ≡ o → Ahead (time_of past) (alarm_at m o)
  alarm_ahead None e = tt
  alarm_ahead (Some s) e =
      let rests = maker_rests m past of now idle j stage.Enters (sleeps_entering m past s j e) in
      let enters = first_made (stage_due m past now stage.Enters) (stage_due m past now (next_stage stage.Enters)) rests in
      not_come (s.since + m.alarm_ms) (time_of past) (wake_later m past now s (subst (λ (o : Option Sleep). is_made (enter_due m past now o) ≡ false) e enters))

  deadline_ahead : (o : Option ℕ) → freeze_since past ≡ o → Ahead (time_of past) (deadline_at o)
  deadline_ahead None e = tt
  deadline_ahead (Some since) e = by_stage (stage_of past) refl (at_stage m (IsAsked m) (asked_invariant m) past j).0
    where
      none : freeze_since past ≡ None → time_of past < gives_up_at since
      none n = absurd (some≢none since (sym e ∙ n))

      by_stage : (o : Option Stage) → stage_of past ≡ o → SinceAt o (freeze_since past) → time_of past < gives_up_at since
      by_stage (Some (stage.Freezes g)) x h =
          let rests = maker_rests m past of now idle j (stage.Freezes g) x in
          let freezes = first_made (stage_due m past now (stage.Freezes g)) (stage_due m past now (next_stage (stage.Freezes g))) rests in
          not_come (gives_up_at since) (time_of past) (froze_later past now g since (left m g past) (subst (λ (o : Option ℕ). is_made (freeze_due m past now g o) ≡ false) e freezes))
      by_stage _ x h = none h

  script_ahead : (i : ℕ) (o : Option Script) → slice_get m.actors i ≡ o → Ahead (time_of past) (pending_sleep (sleeps_now past) (freezing m i past) o (position_of m past i))
  script_ahead i None e = tt
  script_ahead i (Some s) e = by_rest ((freezing m i past).frozen || (sleeps_now past && not (is_line s.kind))) refl
    where
      within : i < length m.actors
      within = slice_get_within m.actors i s e

      by_until : (freezing m i past).frozen ≡ false → (sleeps_now past && not (is_line s.kind)) ≡ false → (o : Option ℕ) → (position_of m past i).until ≡ o → Ahead (time_of past) o
      by_until thawed awake None u = tt
      by_until thawed awake (Some at) u =
          let dozing : IsDozing (slice_get (entry_steps s) (position_of m past i).done) (position_of m past i) = subst (λ (x : Option Script). IsDozing (op_at x (position_of m past i).done) (position_of m past i)) e (dozer m past j i within (ap is_some u)) in
          let outside : is_actor (actor.Script i) (maker past) ≡ false = by_making (is_actor (actor.Script i) (maker past)) refl (sleep_no_state (slice_get (entry_steps s) (position_of m past i).done) dozing.sleep) in
          let own : due m past (actor.Script i) now ≡ task_due m past now (freezing m i past) s.kind (position_of m past i) (slice_get (entry_steps s) (position_of m past i).done) =
          ap (λ b. cond b (attempt_due m past now) (own_due m past (actor.Script i) now)) outside
          ∙ (ap (λ (x : Option Script). position_due m past now (freezing m i past) x (position_of m past i)) e
          ∙ ap (λ b. cond b turn.Nothing (task_due m past now (freezing m i past) s.kind (position_of m past i) (slice_get (entry_steps s) (position_of m past i).done))) dozing.there) in
          not_come at (time_of past) (task_later m past now (freezing m i past) s.kind (position_of m past i) (slice_get (entry_steps s) (position_of m past i).done) at thawed awake dozing u (sym (ap is_made own) ∙ script_rests m past of now idle i within))
        where
          at_step : passes is_state (slice_get (steps_in m i) (position_of m past i).done) ≡ passes is_state (slice_get (entry_steps s) (position_of m past i).done)
          at_step = ap (λ (x : Option Script). passes is_state (slice_get (steps_if x) (position_of m past i).done)) e

          by_making : (b : Bool) → is_actor (actor.Script i) (maker past) ≡ b → passes is_state (slice_get (entry_steps s) (position_of m past i).done) ≡ false → is_actor (actor.Script i) (maker past) ≡ false
          by_making false a n = a
          by_making true a n = absurd (true≢false (sym ((script_tries m i past j).at_state a) ∙ (at_step ∙ n)))

      by_rest : (b : Bool) → ((freezing m i past).frozen || (sleeps_now past && not (is_line s.kind))) ≡ b → Ahead (time_of past) (cond b None (position_of m past i).until)
      by_rest true r = tt
      by_rest false r =
          let parts = or_parts (freezing m i past).frozen (sleeps_now past && not (is_line s.kind)) r in
          by_until parts.0 parts.1 (position_of m past i).until refl

  sleeps_ahead : (n : ℕ) → Ahead (time_of past) (next_sleep m past n)
  sleeps_ahead zero = tt
  sleeps_ahead (suc n) = sooner_ahead (time_of past) (pending_sleep (sleeps_now past) (freezing m n past) (slice_get m.actors n) (position_of m past n)) (next_sleep m past n) (script_ahead n (slice_get m.actors n) refl) (sleeps_ahead n)

  nap_ahead : is_over m past ≡ false → Ahead (time_of past) (pending_nap past)
  nap_ahead over = by_sleep (sleeps_now past) refl
    where
      by_nap : sleeps_now past ≡ false → (o : Option ℕ) → naps_until (work past) ≡ o → Ahead (time_of past) o
      by_nap awake None e = tt
      by_nap awake (Some u) e =
          let naps : work past ≡ Napping (Some u) = no_nap (work past) u e in
          let outside : is_actor actor.Auto (maker past) ≡ false = by_making naps (is_actor actor.Auto (maker past)) refl in
          let own : due m past actor.Auto now ≡ work_due m past now (Napping (Some u)) =
          ap (λ b. cond b (attempt_due m past now) (own_due m past actor.Auto now)) outside
          ∙ (ap (λ b. auto_due m past now b (is_over m past)) awake
          ∙ (ap (λ b. auto_due m past now false b) over ∙ ap (work_due m past now) naps)) in
          not_come u (time_of past) (test_made (nat_le u (time_of past)) (turn.Makes kind.Slept) (turn.Waits (why.Until u)) refl (sym (ap is_made own) ∙ work_rests m past of now idle))
        where
          by_making : work past ≡ Napping (Some u) → (b : Bool) → is_actor actor.Auto (maker past) ≡ b → is_actor actor.Auto (maker past) ≡ false
          by_making naps false a = a
          by_making naps true a = absurd (true≢false (sym ((work_tries m past j).attempting a) ∙ ap is_attempting naps))

      by_sleep : (b : Bool) → sleeps_now past ≡ b → Ahead (time_of past) (cond b None (naps_until (work past)))
      by_sleep true s = tt
      by_sleep false s = by_nap s (naps_until (work past)) refl

  all_ahead : is_over m past ≡ false → LiesAhead m past of
  all_ahead over =
      let t : ℕ = time_of past in
      let sleeps = sooner_ahead (time_of past) (pending_nap past) (next_sleep m past (length m.actors)) (nap_ahead over) (sleeps_ahead (length m.actors)) in
      let freezes = sooner_ahead (time_of past) (deadline_at (freeze_since past)) (sooner (pending_nap past) (next_sleep m past (length m.actors))) (deadline_ahead (freeze_since past) refl) sleeps in
      let own = sooner_ahead (time_of past) (alarm_at m (sleep_of past)) (sooner (deadline_at (freeze_since past)) (sooner (pending_nap past) (next_sleep m past (length m.actors)))) (alarm_ahead (sleep_of past) refl) freezes in
      sooner_ahead (time_of past) (journal_time m past) (next_expiry (length m.sources + 1) of) own (expiries_ahead (length m.sources + 1) of (time_of past) (none_due m past of now idle))

-- a run in which nobody can make anything is over if it is finished
left_over : (m : Machine) (past : List Entry) (of : ℕ → List Entry) (now : EventNow) → is_idle m past of now ≡ true → is_finished m past of now ≡ false → is_over m past ≡ false
left_over m past of now idle goes = by_over (have_all_exited m past) (is_none (maker past)) (is_idle m past of now) idle goes
  where
    by_over : (a b c : Bool) → c ≡ true → (a && b && c) ≡ false → (a && b) ≡ false
    by_over false b c i g = refl
    by_over true false c i g = refl
    by_over true true c i g = absurd (true≢false (sym i ∙ g))

pub lie_ahead : NextMomentsLieAhead
lie_ahead m past of now j idle goes = all_ahead m past of now j idle (left_over m past of now idle goes)

-- ---- jumps wake

-- a jump changes nothing but the time
sleeps_same : (m : Machine) (past : List Entry) (at : ℕ) (now : EventNow) (n : ℕ) → next_sleep m (jump_to at now ∷ past) n ≡ next_sleep m past n
sleeps_same m past at now zero = refl
sleeps_same m past at now (suc n) = ap (sooner (pending_sleep (sleeps_now past) (freezing m n past) (slice_get m.actors n) (position_of m past n))) (sleeps_same m past at now n)

pub wake : JumpsWake
wake m past of now later at j s = by_idle (is_idle m (jump_to at now ∷ past) of later) refl
  where
    ahead : LiesAhead m past of
    ahead = lie_ahead m past of now j s.idle s.goes_on

    after_jump : JournalPart m (jump_to at now ∷ past)
    after_jump = ((refl, subst (λ (o : Option ℕ). Ahead (time_of past) o) s.least ahead), j)

    same : next_time m (jump_to at now ∷ past) of ≡ Some at
    same = ap (λ (o : Option ℕ). sooner (sooner (alarm_at m (sleep_of past)) (sooner (deadline_at (freeze_since past)) (sooner (pending_nap past) o))) (next_expiry (length m.sources + 1) of)) (sleeps_same m past at now (length m.actors)) ∙ s.least

    by_idle : (b : Bool) → is_idle m (jump_to at now ∷ past) of later ≡ b → b ≡ false
    by_idle false i = refl
    by_idle true i =
        let further = all_ahead m (jump_to at now ∷ past) of later after_jump i (left_over m past of now s.idle s.goes_on) in
        let less : at < at = subst (λ (o : Option ℕ). Ahead at o) same further in
        absurd (omega arith)
