-- While all is quiet, nothing of the journal is due of a script that sleeps on or has exited.
use Rattle.std.proofs.Common.{◌≡◌, ◌+◌, ◌&&◌, ◌||◌, ℕ, zero, suc, Bool, true, false, not, if◌then◌else◌, List, length, Option, Some, None, is_none, slice_get, refl, arith, add-one, nat_lt, nat_le}
use Rattle.std.proofs.lemmas.Bool.{and_parts}
use Rattle.std.proofs.lemmas.Bool.Decides.{nat_tests}
use Rattle.sleep_model.specs.declared.entry.Actor.{Actor}
use Rattle.sleep_model.specs.declared.entry.Actor.TheVariants as actor
use Rattle.sleep_model.specs.declared.entry.Entry.{Entry}
use Rattle.sleep_model.specs.declared.entry.Kind.TheVariants as kind
use Rattle.sleep_model.specs.declared.log.Why.TheVariants as why
use Rattle.sleep_model.specs.declared.machine.Machine.{Machine}
use Rattle.sleep_model.specs.declared.machine.Op.{Op}
use Rattle.sleep_model.specs.declared.machine.Op.TheVariants as op
use Rattle.sleep_model.specs.declared.machine.Script.{Script}
use Rattle.sleep_model.specs.declared.machine.TaskKind.{TaskKind}
use Rattle.sleep_model.specs.declared.progress.Due.{Due}
use Rattle.sleep_model.specs.declared.progress.Due.TheVariants.{Makes, Waits, Nothing}
use Rattle.sleep_model.specs.declared.progress.Freezing.{Freezing}
use Rattle.sleep_model.specs.declared.progress.ScriptPosition.{ScriptPosition}
use Rattle.sleep_model.specs.declared.word.EventNow.{EventNow}
use Rattle.sleep_model.specs.Attempt.{sleeps_now}
use Rattle.sleep_model.specs.Calls.{calls_due, is_calling, is_left, made}
use Rattle.sleep_model.specs.Due.{due, script_due}
use Rattle.sleep_model.specs.Freezer.{freezing}
use Rattle.sleep_model.specs.Laws.{steps_of}
use Rattle.sleep_model.specs.Legal.{is_enabled, is_made}
use Rattle.sleep_model.specs.Numbers.{time_of}
use Rattle.sleep_model.specs.Path.{is_actor, maker}
use Rattle.rule_definitions.specs.Questions.{op_of, position_of}
use Rattle.sleep_model.specs.Sources.{caller, owed}
use Rattle.sleep_model.specs.Steps.{position_due, slept_due, step_due, task_due}
use Rattle.sleep_model.specs.Tasks.{freezes_at, is_line, is_user}
use Rattle.check_rules.specs.Quiet.{is_quiet, none_owes, is_idle_script, sleeps_on, stays}

-- ---- one source more

pub owes_next : (of : ℕ → List Entry) (n : ℕ) (here before : Bool) → here ≡ is_left (owed (of n)) → before ≡ none_owes n of → (not here && before) ≡ none_owes (n + 1) of
owes_next of n here before e f = rw (add-one, e, f) refl

outside : (left own rest calling : Bool) → (not left && rest) ≡ true → (rest ≡ true → calling ≡ false) → ((left && own) || calling) ≡ false
outside true own rest calling h f = absurd (cc)
outside false own rest calling h f = f h

none_calls : (n : ℕ) (of : ℕ → List Entry) (who : Actor) → none_owes n of ≡ true → is_calling n of who ≡ false
none_calls zero of who h = refl
none_calls (suc n) of who h = outside (is_left (owed (of n))) (is_actor who (caller (of n))) (none_owes n of) (is_calling n of who) h (none_calls n of who)

-- ---- what is due

nobody : (o : Option Actor) (who : Actor) → is_none o ≡ true → is_actor who o ≡ false
nobody None who h = refl
nobody (Some other) who h = absurd (cc)

not_so : (b : Bool) → not b ≡ true → b ≡ false
not_so true h = absurd (cc)
not_so false h = refl

neither : (b : Bool) (one other : Due) → is_made one ≡ false → is_made other ≡ false → is_made (if b then one else other) ≡ false
neither true one other e f = e
neither false one other e f = f

not_over : (until time : ℕ) → nat_lt time until ≡ true → nat_le until time ≡ false
not_over until time h = grind (arith, nat_tests)

goes_on : (b : Bool) (until : ℕ) → b ≡ false → is_made (if b then Makes kind.Slept else Waits (why.Until until)) ≡ false
goes_on true until h = absurd (cc)
goes_on false until h = refl

sleeping : (waits : Bool) (until time : ℕ) (other : Due) → (waits && nat_lt time until) ≡ true → is_made (if waits then slept_due (Some until) time else other) ≡ false
sleeping true until time other h = goes_on (nat_le until time) until (not_over until time h)
sleeping false until time other h = absurd (cc)

sleep : (ms : ℕ) (waits : Bool) (until : Option ℕ) (time : ℕ) (other : Due) → sleeps_on (Some (op.Sleep ms)) waits until time ≡ true → is_made (if waits then slept_due until time else other) ≡ false
sleep ms waits None time other h = absurd (cc)
sleep ms waits (Some until) time other h = sleeping waits until time other h

deep_sleep : (ms : ℕ) (waits : Bool) (until : Option ℕ) (time : ℕ) (other : Due) → sleeps_on (Some (op.SleepD ms)) waits until time ≡ true → is_made (if waits then slept_due until time else other) ≡ false
deep_sleep ms waits None time other h = absurd (cc)
deep_sleep ms waits (Some until) time other h = sleeping waits until time other h

step : (m : Machine) (past : List Entry) (now : EventNow) (position : ScriptPosition) (o : Option Op) → sleeps_on o position.waits position.until (time_of past) ≡ true → is_made (step_due m past now position false o) ≡ false
step m past now position (Some (op.Sleep ms)) h = sleep ms position.waits position.until (time_of past) (Makes (kind.Sleep (time_of past + ms))) h
step m past now position (Some (op.SleepD ms)) h = deep_sleep ms position.waits position.until (time_of past) (Makes (kind.SleepD (time_of past + ms))) h
step m past now position _ h = absurd (cc)

task : (m : Machine) (past : List Entry) (now : EventNow) (f : Freezing) (k : TaskKind) (position : ScriptPosition) (o : Option Op) → f.asked ≡ false → is_made (step_due m past now position false o) ≡ false → is_made (task_due m past now f k position o) ≡ false
task m past now f k position o h is =
    neither f.frozen (Waits why.Frozen)
    (if sleeps_now past && not (is_line k) then Waits why.Asleep
    else (if f.asked && freezes_at (is_user k) position.waits o then Makes kind.Frozen else step_due m past now position f.asked o)) refl
    (neither (sleeps_now past && not (is_line k)) (Waits why.Asleep)
    (if f.asked && freezes_at (is_user k) position.waits o then Makes kind.Frozen else step_due m past now position f.asked o) refl
    (rw h is))

gone : (exited on : Bool) (d : Due) → (exited || on) ≡ true → (on ≡ true → is_made d ≡ false) → is_made (if exited then Nothing else d) ≡ false
gone true on d h f = refl
gone false on d h f = f h

seated : (m : Machine) (past : List Entry) (now : EventNow) (f : Freezing) (s : Option Script) (position : ScriptPosition) → f.asked ≡ false → stays position (slice_get (steps_of s) position.done) (time_of past) ≡ true → is_made (position_due m past now f s position) ≡ false
seated m past now f None position h is = refl
seated m past now f (Some s) position h is =
    gone position.exited (sleeps_on (slice_get (steps_of (Some s)) position.done) position.waits position.until (time_of past))
    (task_due m past now f s.kind position (slice_get (steps_of (Some s)) position.done)) is
    (λ on. task m past now f s.kind position (slice_get (steps_of (Some s)) position.done) h (step m past now position (slice_get (steps_of (Some s)) position.done) on))

script : (m : Machine) (past : List Entry) (now : EventNow) (i : ℕ) → is_idle_script m past i ≡ true → is_made (script_due m past now i) ≡ false
script m past now i h =
    let p = and_parts (not (freezing m i past).asked) (stays (position_of m past i) (op_of m past i) (time_of past)) h in
    seated m past now (freezing m i past) (slice_get m.actors i) (position_of m past i) (not_so (freezing m i past).asked p.0) p.1

own : (b : Bool) (one other : Due) → b ≡ false → is_made other ≡ false → is_made (if b then one else other) ≡ false
own true one other h e = absurd (cc)
own false one other h e = e

joined : (a b c : Bool) → a ≡ false → c ≡ false → b ≡ (a || b || c)
joined false true false e f = refl
joined false false false e f = refl
joined true b c e f = absurd (cc)
joined false b true e f = absurd (cc)

-- an idle script is enabled exactly if it has a call to make
pub resting : (m : Machine) (past : List Entry) (of : ℕ → List Entry) (now : EventNow) (i : ℕ) → (is_quiet m past of && is_idle_script m past i) ≡ true
    → nat_lt (made (length m.sources + 1) of (actor.Script i)) (calls_due m (actor.Script i) past) ≡ is_enabled m past of now (actor.Script i)
resting m past of now i h =
    let p = and_parts (is_quiet m past of) (is_idle_script m past i) h in
    let q = and_parts (is_none (maker past)) (none_owes (length m.sources + 1) of) p.0 in
    joined (is_calling (length m.sources + 1) of (actor.Script i)) (nat_lt (made (length m.sources + 1) of (actor.Script i)) (calls_due m (actor.Script i) past))
    (is_made (due m past (actor.Script i) now))
    (none_calls (length m.sources + 1) of (actor.Script i) q.1)
    (own (is_actor (actor.Script i) (maker past)) _ (script_due m past now i) (nobody (maker past) (actor.Script i) q.0) (script m past now i p.1))
