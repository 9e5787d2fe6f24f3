-- What the fields of a job are.
use Rattle.std.specs.Prelude.{◌≡◌, ℕ, List, [], ◌++◌, length, drop, map, Option, Some, None, option_copied}
use Rattle.sleep_model.specs.declared.entry.Actor.{Actor}
use Rattle.sleep_model.specs.declared.entry.Kind.{Kind}
use Rattle.sleep_model.specs.declared.machine.Machine.{Machine}
use Rattle.sleep_model.specs.Calls.{calls_at, calls_of_turn}
use Rattle.sleep_model.specs.Scripts.{pieces}
use Rattle.script_plan.specs.CallPlans.{ScriptCalls, noted}
use Rattle.sleep_script.specs.declared.job.ActorJob.TheInside.{Inside}
use Rattle.sleep_script.specs.Jobs.{JobState}

-- the calls right before a turn, by a plan; without one there are none (own)
abbrev pub planned_at : Option ScriptCalls → ℕ → List Kind
planned_at None k = []
planned_at (Some plan) k = calls_at (pieces plan.source plan.script) k

-- the plan gives the calls before each of the actor's turns (own)
abbrev pub IsPlanOf : Option ScriptCalls → Machine → Actor → Type 0
IsPlanOf plan m who = (k : ℕ) → planned_at plan k ≡ calls_of_turn m who k

-- due are the reports that are left, then the calls before the next turn that are left (own)
abbrev pub seen_job : Inside → JobState
seen_job j = record {
  machine = j.plans.now;
  who = j.who;
  turns = j.turns;
  pending = map noted j.reports.now ++ drop j.made (calls_of_turn j.plans.now j.who j.turns);
  calls = j.calls;
  exited = j.exited;
  floor = j.floor;
}

-- the plan has the actor's calls, and that number of calls is due (own)
pub record JobInvariant (j : Inside) : Type 0 where
  pub plan_is : IsPlanOf (option_copied j.plan) j.plans.now j.who
  pub due_is : j.due ≡ length (map noted j.reports.now ++ drop j.made (calls_of_turn j.plans.now j.who j.turns))

-- the plan has the actor's calls, and that number of calls is due (own)
abbrev pub job_invariant : Inside → Type 0
job_invariant j = JobInvariant j
