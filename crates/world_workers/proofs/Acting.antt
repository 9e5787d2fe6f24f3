-- What a try of a task comes to, by what the world answers.
use Rattle.std.proofs.Common.{◌≡◌, ◌≤◌, ◌+◌, inl, inr, ℕ, Bool, true, false, List, [], ◌∷◌, ◌++◌, length, Option, Some, None, Result, Ok, Err, refl, sym, ap, subst, arith}
use Rattle.sleep_model.specs.declared.entry.Actor.TheVariants as actor
use Rattle.sleep_model.specs.declared.entry.JournalEntry.{JournalEntry}
use Rattle.sleep_model.specs.declared.entry.SourceEntry.{SourceEntry}
use Rattle.sleep_model.specs.declared.log.Want.TheVariants as want
use Rattle.sleep_model.specs.declared.machine.Machine.{Machine}
use Rattle.sleep_model.specs.declared.machine.SourceCall.{SourceCall}
use Rattle.sleep_model.specs.declared.machine.SourceCall.TheVariants as calls
use Rattle.sleep_model.specs.declared.word.Stamp.{Stamp}
use Rattle.sleep_model.specs.Calls.{ends_turn, note, one_more}
use Rattle.atomic_table.specs.Seated.{TableId}
use Rattle.sleep_core.specs.declared.turns.CoreFault.{CoreFault}
use Rattle.sleep_core.specs.declared.turns.CoreTurn.{CoreTurn}
use Rattle.sleep_core.specs.declared.turns.CoreTurn.TheVariants.{Did, NotYet, Done}
use Rattle.sleep_script.specs.Jobs.{IsWanted, JobState, TimerState}
use Rattle.wakeup_source.specs.declared.fault.SourceFault.{SourceFault}
use Rattle.room_laws.specs.Ranged.{is_ranged}
use Rattle.turn_lock.specs.declared.view.Made.{Made}
use Rattle.turn_lock.specs.Passes.{LockToken, made_of}
use Rattle.run_laws.specs.Passes.{Noted}
use Rattle.run_world.specs.declared.object.WorldObject.{WorldObject}
use Rattle.run_world.specs.Objects.{IsWorldPass}
use Rattle.run_world.specs.Outcomes.{AfterCoreTurn, AfterReport, IsTurn}
use Rattle.run_world.specs.declared.task.Task.{Task}
use Rattle.run_world.specs.declared.task.Task.TheVariants as task
use Rattle.run_world.specs.Acts.{Does, Nothing, Turns, Calls, Expires}
use Rattle.world_workers.specs.Tries.{GoesIn, HasActed, HasMade, IsRangedTurn, IsTaskIn, told_source, timer_after_call, told_core}

few_more : (ends : Bool) (n : ℕ) → one_more ends n ≤ n + 1
few_more true n = omega arith
few_more false n = omega arith

pub append_none : (l : List (Made Noted)) → l ++ [] ≡ l
append_none [] = refl
append_none (x ∷ l) = ap (λ (k : List (Made Noted)). x ∷ k) (append_none l)

-- nothing was tried
pub acted_still : (m : Machine) (table locks : TableId) (moment : ℕ) (t : Task) (p : LockToken WorldObject Noted) → GoesIn m table locks moment t p → HasActed m table locks moment t t p p
acted_still m table locks moment t p goes = record {
  gains = [];
  goes = goes;
  made = record { made = sym (append_none (made_of p)); number = refl; first = refl };
  does = Nothing t;
  who = refl;
  turns = omega arith;
}

module _ (m : Machine) (table locks : TableId) (moment : ℕ) (before after : LockToken WorldObject Noted)
    (pass : IsWorldPass m table locks moment after) (gains : List (Made Noted)) (made : HasMade before after gains) where
  -- a try that did nothing
  acted_none : (t : Task) → IsTaskIn m t → gains ≡ [] → HasActed m table locks moment t t before after
  acted_none t is_in none = record {
    gains = gains;
    goes = record { pass = pass; is_in = is_in };
    made = made;
    does = subst (λ (l : List (Made Noted)). Does (length m.sources + 1) moment t l t) (sym none) (Nothing t);
    who = refl;
    turns = omega arith;
  }

  -- a turn of the machine that a job wanted
  pub acted_turn : (job : JobState) → IsTaskIn m (task.Acts job) → (answer : Result CoreTurn CoreFault) → IsWanted job want.Core → IsRangedTurn answer
      → (past : List JournalEntry) → AfterCoreTurn m job.who job.calls job.floor moment past answer gains → HasActed m table locks moment (task.Acts job) (task.Acts (told_core answer job)) before after
  acted_turn job is_in (Ok (Did stamp k attempt)) wants ranged past h = record {
    gains = gains;
    goes = record { pass = pass; is_in = is_in };
    made = made;
    does = Turns job stamp k attempt gains wants ranged (subst (λ (x : Machine). IsTurn x job.who job.calls job.floor stamp k attempt gains) (sym is_in.0) h.0);
    who = refl;
    turns = few_more (ends_turn k) job.turns;
  }
  acted_turn job is_in (Ok (NotYet why)) wants ranged past (inl h) = acted_none (task.Acts job) is_in h.gained
  acted_turn job is_in (Ok (NotYet why)) wants ranged past (inr h) = acted_none (task.Acts job) is_in h.gained
  acted_turn job is_in (Ok Done) wants ranged past h = acted_none (task.Acts job) is_in h.gained
  acted_turn job is_in (Err fault) wants ranged past h = acted_none (task.Acts job) is_in h.gained

  -- a call on a source that a job wanted
  pub acted_call : (job : JobState) → IsTaskIn m (task.Acts job) → (s : ℕ) (call : SourceCall) (answer : Result (Option Stamp) SourceFault) → s ≤ length m.sources
      → IsWanted job (want.Source s call) → is_ranged (note s call) ≡ true
      → (past : List SourceEntry) → AfterReport (record { actor = job.who; floor = job.floor; now = moment }) call s past answer gains
      → HasActed m table locks moment (task.Acts job) (task.Acts (told_source answer job)) before after
  acted_call job is_in s call (Ok (Some stamp)) there wants ranged past h = record {
    gains = gains;
    goes = record { pass = pass; is_in = is_in };
    made = made;
    does = Calls job s call stamp gains (omega (arith, there)) wants ranged h.0;
    who = refl;
    turns = omega arith;
  }
  acted_call job is_in s call (Ok None) there wants ranged past h = acted_none (task.Acts job) is_in h.gained
  acted_call job is_in s call (Err fault) there wants ranged past h = acted_none (task.Acts job) is_in h.gained

  -- the call of a timer
  pub acted_expiry : (timer : TimerState) → IsTaskIn m (task.Fires timer) → (answer : Result (Option Stamp) SourceFault) (past : List SourceEntry)
      → AfterReport (record { actor = actor.Timer timer.source; floor = timer.floor; now = moment }) calls.Expire timer.source past answer gains
      → HasActed m table locks moment (task.Fires timer) (task.Fires (timer_after_call answer timer)) before after
  acted_expiry timer is_in (Ok (Some stamp)) past h = record {
    gains = gains;
    goes = record { pass = pass; is_in = is_in };
    made = made;
    does = Expires timer stamp gains (omega (arith, is_in)) h.0;
    who = refl;
    turns = omega arith;
  }
  acted_expiry timer is_in (Ok None) past h = acted_none (task.Fires timer) is_in h.gained
  acted_expiry timer is_in (Err fault) past h = acted_none (task.Fires timer) is_in h.gained
