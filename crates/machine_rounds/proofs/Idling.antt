-- When a run is idle, and how it ends.
use Rattle.std.proofs.Common.{◌≡◌, ◌≤◌, ◌<◌, ◌+◌, ◌++◌, ◌∙◌, ◌⊎◌, inl, inr, ℕ, zero, suc, Bool, true, false, not, ◌&&◌, ◌||◌, List, [], ◌∷◌, length, reverse, drop, Option, Some, None, is_none, slice_get, Result, Ok, Err, refl, sym, ap, ap₂, subst, cond, append_assoc, arith}
use Rattle.std.proofs.lemmas.Bool.Decides.{nat_tests}
use Rattle.std.specs.List.{list_all}
use Rattle.std.proofs.lemmas.List.{length-reverse, length-set, length-replicate, drop_all}
use Rattle.sleep_model.specs.declared.entry.Actor.{Actor}
use Rattle.sleep_model.specs.declared.entry.Actor.TheVariants as actor
use Rattle.sleep_model.specs.declared.entry.Entry.{Entry}
use Rattle.sleep_model.specs.declared.log.Log.{Log}
use Rattle.sleep_model.specs.declared.log.LogEnd.{LogEnd}
use Rattle.sleep_model.specs.declared.log.LogEnd.TheVariants.{Finished, Stuck}
use Rattle.sleep_model.specs.declared.log.Stats.{Stats}
use Rattle.sleep_model.specs.declared.log.Waiting.{Waiting}
use Rattle.sleep_model.specs.declared.machine.Machine.{Machine}
use Rattle.sleep_model.specs.declared.machine.Script.{Script}
use Rattle.sleep_model.specs.declared.progress.Due.{Due}
use Rattle.sleep_model.specs.declared.progress.Due.TheVariants.{Makes, Waits, Nothing}
use Rattle.sleep_model.specs.declared.progress.ScriptPosition.{ScriptPosition}
use Rattle.sleep_model.specs.declared.word.EventNow.{EventNow}
use Rattle.sleep_model.specs.Accepted.{IsAccepted}
use Rattle.sleep_model.specs.Attempt.{attempt_due}
use Rattle.sleep_model.specs.Due.{due, own_due, have_all_exited}
use Rattle.sleep_model.specs.Fits.{fits_stats}
use Rattle.sleep_model.specs.Freezer.{freezing}
use Rattle.sleep_model.specs.Legal.{IsLegalLog, IsFinishedLog, IsStuckLog, is_enabled, next_expiry, next_time, none_enabled, none_expires, put_waiting, sooner, waiting, waiting_from}
use Rattle.sleep_model.specs.Merge.{merge}
use Rattle.sleep_model.specs.Numbers.{time_of}
use Rattle.sleep_model.specs.Path.{maker, is_actor}
use Rattle.sleep_model.specs.Places.{places}
use Rattle.sleep_model.specs.Scripts.{entry_steps}
use Rattle.sleep_model.specs.Sources.{expiry, has_expired}
use Rattle.sleep_model.specs.Positions.{PositionEffect, positions, positions_after, position_at, position_effect, first_position}
use Rattle.sleep_model.specs.Steps.{position_due, task_due}
use Rattle.sleep_state.specs.JournalRooms.{entries}
use Rattle.sleep_laws.proofs.Closing.{ends_closed}
use Rattle.sleep_laws.proofs.GuardInForce.{guarded_sleep}
use Rattle.sleep_laws.proofs.Lawful.{laws_of_legal}
use Rattle.end_laws.proofs.Attempts.{all_end}
use Rattle.end_laws.proofs.Bounding.{all_bounded}
use Rattle.end_laws.proofs.Waking.{events_first, time_forward}
use Rattle.room_laws.specs.Ranged.{is_ranged_entry}
use Rattle.room_laws.proofs.Fitted.{log_fits}
use Rattle.wakeup_source.specs.SourceStates.{SourceState}
use Rattle.machine_rounds.specs.declared.after_idle_round.EndOfRun.{EndOfRun}
use Rattle.world_workers.specs.declared.fault.RunFault.{RunFault}
use Rattle.world_workers.specs.declared.fault.RunFault.TheVariants as fault
use Rattle.running_laws.specs.Running.{entry_count, histories, journal_histories, of_sources}
use Rattle.running_laws.proofs.Ends.{running_ends, running_keeps, stats_are, told_all}
use Rattle.machine_rounds.specs.Waits.{all_stats, script_waits}
use Rattle.machine_rounds.specs.Runs.{AfterStretches, AfterTry, EndsSo, Fails, IsAfterIdleRound, IsClosed, IsHalted, IsRefused, IsRun, MadeNothing, IsLastLook, RunState, entries_made, nobody_enabled}

-- ---- tries

-- if nothing was made there are as many entries
pub made_same : (old new : RunState) → MadeNothing old new → entries_made new ≡ entries_made old
made_same old new h = ap₂ entry_count h.journal h.sources

pub same_then : (first second third : RunState) → MadeNothing first second → MadeNothing second third → MadeNothing first third
same_then first second third h g = record {
  machine = g.machine ∙ h.machine;
  journal = g.journal ∙ h.journal;
  sources = g.sources ∙ h.sources;
  floor = g.floor ∙ h.floor;
}

-- what stretches came to, if no fewer entries were made before them
pub stretched : (first second third : RunState) (n : ℕ) (came : Result (Option EndOfRun) RunFault) → entries_made first ≤ entries_made second → AfterStretches n second third came → AfterStretches n first third came
stretched first second third n (Ok None) more h = omega (arith, more, h)
stretched first second third n (Ok (Some run_end)) more h = h
stretched first second third n (Err fault) more h = h

-- what comes after rounds, the last of which did nothing
pub after_rounds : (first second third : RunState) (came : Result (Option EndOfRun) RunFault) → entries_made first ≤ entries_made second → IsAfterIdleRound second third came → AfterStretches 1 first third came
after_rounds first second third (Ok None) more h = omega (arith, more, h)
after_rounds first second third (Ok (Some run_end)) more h = h.1
after_rounds first second third (Err fault) more h = h

-- a try after another
pub try_then : (first second third : RunState) (x y : Bool) → AfterTry first second (Ok x) → AfterTry second third (Ok y) → AfterTry first third (Ok (y || x))
try_then first second third true true h g = omega (arith, h, g)
try_then first second third false true h g = omega (arith, g, made_same first second h)
try_then first second third true false h g = omega (arith, h, made_same second third g)
try_then first second third false false h g = same_then first second third h g

-- ---- expiries

-- neither of two moments has come if the sooner one has not
not_sooner : (a b : Option ℕ) (time : ℕ) → has_expired (sooner a b) time ≡ false → (has_expired a time ≡ false) × (has_expired b time ≡ false)
not_sooner None b time h = (refl, h)
not_sooner (Some a) None time h = (h, refl)
not_sooner (Some a) (Some b) time h = (grind (arith, nat_tests), grind (arith, nat_tests))

-- no source is to expire if the least expiry has not come
pub none_due : (n : ℕ) (of : ℕ → List Entry) (time : ℕ) → has_expired (next_expiry n of) time ≡ false → none_expires n of time ≡ true
none_due zero of time h = refl
none_due (suc n) of time h =
    let both = not_sooner (expiry (of n)) (next_expiry n of) time h in
    ap₂ (λ (x y : Bool). not x && y) both.0 (none_due n of time both.1)

-- ---- nobody goes on

exited_false : (a : Bool) (o : Option Actor) → (a && is_none o) ≡ false → o ≡ None → a ≡ false
exited_false true None h e = h
exited_false false o h e = refl
exited_false true (Some w) h e = absurd (cc)

-- nobody goes on if the run is not over
pub halted_of : (run : RunState) (word : EventNow) → (have_all_exited run.machine (entries run.journal) && is_none (maker (entries run.journal))) ≡ false → maker (entries run.journal) ≡ None → nobody_enabled run word ≡ true
    → next_time run.machine (entries run.journal) (histories run.sources) ≡ None → IsHalted run word
halted_of run word going closed rests none = record { left = exited_false (have_all_exited run.machine (entries run.journal)) (maker (entries run.journal)) going closed; idle = rests; timeless = none }

-- ---- the log

-- a legal log that is over, whose fields were checked
run_of : (m : Machine) (log : Log) → IsAccepted m → IsLegalLog m log → (IsFinishedLog m log) ⊎ (IsStuckLog m log) → list_all (is_ranged_entry m) (reverse log.entries) ≡ true → list_all fits_stats log.stats ≡ true → IsRun m log
run_of m log acc legal over shown ranged = record {
  legal = legal;
  over = over;
  laws = laws_of_legal m (reverse log.entries) legal.legal;
  guarded = guarded_sleep m acc.sources (reverse log.entries) legal.legal;
  closed = ends_closed m acc log legal over;
  few = omega (arith, all_bounded m acc (reverse log.entries) legal.legal, length-reverse log.entries);
  wakes = events_first m (reverse log.entries) legal.legal;
  forward = time_forward m (reverse log.entries) legal.legal;
  ends = all_end m acc log legal over;
  fits = log_fits m acc log legal over shown ranged;
}

-- with the closed table a run that is over ends in the log of its merge
pub run_is : (run : RunState) → IsClosed run → (items : List Entry) (stats : List Stats) (end : LogEnd) (log : Log) → items ≡ merge (reverse run.journal) (journal_histories run.sources)
    → stats ≡ all_stats run.sources (time_of (entries run.journal)) → EndsSo run end → log ≡ record { entries = items; stats = stats; end = end } → list_all fits_stats stats ≡ true → IsRun run.machine log
run_is run k items stats end log merged counted over is ranged = subst (λ (l : Log). IsRun run.machine l) (sym is) (by end over)
  where
    m : Machine
    m = run.machine

    shown : list_all (is_ranged_entry m) (reverse items) ≡ true
    shown = subst (λ (xs : List Entry). list_all (is_ranged_entry m) (reverse xs) ≡ true) (sym merged) (told_all m run.journal run.sources k.on.jobs k.on.running)

    by : (end : LogEnd) → EndsSo run end → IsRun m (record { entries = items; stats = stats; end = end })
    by Finished over =
        let log : Log = record { entries = items; stats = stats; end = Finished } in
        let ends = running_ends m run.journal run.sources k.on.jobs k.on.running k.closed_over.steps k.closed_over.looks k.closed_over.answer over.0 k.closed_over.closed_over (k.closed_over.seen over.0 over.1.seen) over.1.high log
        (record { entries = merged; stats = counted ∙ stats_are m run.journal run.sources k.on.jobs k.on.running }) in
        run_of m log k.on.running.accepted ends.0 (inl (ends.1 refl over.2)) shown ranged
    by (Stuck those) over =
        let log : Log = record { entries = items; stats = stats; end = Stuck those } in
        let ends = running_ends m run.journal run.sources k.on.jobs k.on.running k.closed_over.steps k.closed_over.looks k.closed_over.answer over.0 k.closed_over.closed_over (k.closed_over.seen over.0 over.1.seen) over.1.high log
        (record { entries = merged; stats = counted ∙ stats_are m run.journal run.sources k.on.jobs k.on.running }) in
        run_of m log k.on.running.accepted ends.0 (inr (ends.2 (ap Stuck over.3) over.2.left over.2.idle over.2.timeless)) shown ranged

-- why a run of which a call was refused gives nothing, by a look at what is the same run
pub fault_is : (old run : RunState) (word : EventNow) (given : RunFault) → MadeNothing old run → IsLastLook run word → IsClosed run → IsRefused old given → Fails old.machine given
fault_is old run word (fault.SourceFull s) same seen k refused =
    let keeps = running_keeps run.machine run.journal run.sources k.on.jobs k.on.running k.closed_over.steps k.closed_over.looks k.closed_over.answer word k.closed_over.closed_over (k.closed_over.seen word seen.seen) seen.high s in
    (refused.0, omega (arith, refused.1, keeps, ap (λ (xs : List SourceState). length (of_sources xs s)) same.sources, ap (λ (m : Machine). places m s) same.machine))
fault_is old run word fault.Mem same seen k refused = tt

-- ---- who waits

put_by : (b : Bool) (i : ℕ) (d : Due) (rest : List Waiting) → (b ≡ true → d ≡ Nothing) → put_waiting b i d rest ≡ script_waits i d ++ rest
put_by false i (Waits why) rest h = refl
put_by false i Nothing rest h = refl
put_by false i (Makes k) rest h = refl
put_by true i (Waits why) rest h = absurd (let no : Waits why ≡ Nothing = h refl in cc)
put_by true i Nothing rest h = refl
put_by true i (Makes k) rest h = refl

-- nothing is due of a script that has exited, while no attempt is open
exited_done : (m : Machine) (past : List Entry) (now : EventNow) (i : ℕ) → maker past ≡ None → (position_at (positions (length m.actors) past) i).exited ≡ true → due m past (actor.Script i) now ≡ Nothing
exited_done m past now i closed exited =
    ap (λ o. cond (is_actor (actor.Script i) o) (attempt_due m past now) (own_due m past (actor.Script i) now)) closed ∙ by_script (slice_get m.actors i)
  where
    by_script : (o : Option Script) → position_due m past now (freezing m i past) o (position_at (positions (length m.actors) past) i) ≡ Nothing
    by_script None = refl
    by_script (Some s) = ap (λ b. cond b Nothing (task_due m past now (freezing m i past) s.kind (position_at (positions (length m.actors) past) i) (slice_get (entry_steps s) (position_at (positions (length m.actors) past) i).done))) exited

seats_step_len : (a : Actor) (part : PositionEffect) (ss : List ScriptPosition) → length (positions_after a part ss) ≡ length ss
seats_step_len (actor.Script i) part ss = length-set ss i _
seats_step_len actor.Auto part ss = refl
seats_step_len (actor.Dev d) part ss = refl
seats_step_len (actor.Timer s) part ss = refl
seats_step_len actor.Time part ss = refl

pub seats_len : (n : ℕ) (past : List Entry) → length (positions n past) ≡ n
seats_len n [] = length-replicate n first_position
seats_len n (e ∷ past) = seats_step_len e.actor (position_effect e.kind) (positions n past) ∙ seats_len n past

drop_seat : (xs : List ScriptPosition) (i : ℕ) → i < length xs → drop i xs ≡ position_at xs i ∷ drop (suc i) xs
drop_seat [] i l = absurd (omega arith)
drop_seat (x ∷ xs) zero l = refl
drop_seat (x ∷ xs) (suc i) l = drop_seat xs i (omega (arith, l))

-- the scripts from number i on that wait are that one, if it waits, and those after it
pub waits_more : (m : Machine) (past : List Entry) (now : EventNow) (i : ℕ) → maker past ≡ None → i < length m.actors
    → waiting_from m past now i (drop i (positions (length m.actors) past)) ≡ script_waits i (due m past (actor.Script i) now) ++ waiting_from m past now (i + 1) (drop (i + 1) (positions (length m.actors) past))
waits_more m past now i closed l =
    let seat = position_at (positions (length m.actors) past) i in
    let further : suc i ≡ i + 1 = omega arith in
    ap (waiting_from m past now i) (drop_seat (positions (length m.actors) past) i (omega (arith, l, seats_len (length m.actors) past)))
    ∙ (ap (λ k. put_waiting seat.exited i (due m past (actor.Script i) now) (waiting_from m past now k (drop k (positions (length m.actors) past)))) further
    ∙ put_by seat.exited i (due m past (actor.Script i) now) (waiting_from m past now (i + 1) (drop (i + 1) (positions (length m.actors) past))) (exited_done m past now i closed))

-- nobody comes after the last
pub waits_none : (m : Machine) (past : List Entry) (now : EventNow) (i : ℕ) → length m.actors ≤ i → waiting_from m past now i (drop i (positions (length m.actors) past)) ≡ []
waits_none m past now i l = ap (waiting_from m past now i) (drop_all i (positions (length m.actors) past) (omega (arith, l, seats_len (length m.actors) past)))

-- one script more is asked
pub waits_go_on : (m : Machine) (past : List Entry) (now : EventNow) (i k : ℕ) (those new : List Waiting) (d : Due) → maker past ≡ None → i < length m.actors → k ≡ i + 1 → d ≡ due m past (actor.Script i) now → new ≡ those ++ script_waits i d
    → those ++ waiting_from m past now i (drop i (positions (length m.actors) past)) ≡ waiting m past now → new ++ waiting_from m past now k (drop k (positions (length m.actors) past)) ≡ waiting m past now
waits_go_on m past now i k those new d closed l next is added h =
    ap₂ (λ (xs : List Waiting) (n : ℕ). xs ++ waiting_from m past now n (drop n (positions (length m.actors) past))) (added ∙ ap (λ x. those ++ script_waits i x) is) next
    ∙ (append_assoc those (script_waits i (due m past (actor.Script i) now)) (waiting_from m past now (i + 1) (drop (i + 1) (positions (length m.actors) past)))
    ∙ (ap (λ xs. those ++ xs) (sym (waits_more m past now i closed l)) ∙ h))
