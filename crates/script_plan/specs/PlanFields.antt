-- What a plan's fields are.
use Rattle.std.specs.Prelude.{ℕ, ◌≡◌, ◌<◌, length, slice_get, All}
use Rattle.script_plan.specs.declared.plan.Plan.TheInside.{Inside}
use Rattle.sleep_model.specs.Scripts.{pieces}
use Rattle.script_plan.specs.CallPlans.{ScriptCalls, calls_made}
use Rattle.script_plan.specs.Plans.{expanded, entry_indices, ops_of, calls_before, count_or}

-- a plan is seen as its script, and the source that autosleep has (own)
abbrev pub planned : Inside → ScriptCalls
planned p = record { source = p.autosleep; script = p.script.now }

-- the fields are taken and counted from the script's steps (own)
pub record IsPlan (p : Inside) : Type 0 where
  pub entry_places_are : p.entry_indices.items ≡ entry_indices p.script.now.steps (expanded p.script.now)
  pub within : All (λ at. at < length p.script.now.steps) p.entry_indices.items
  pub calls_are : p.calls.items ≡ calls_made p.autosleep (ops_of p.script.now.steps (expanded p.script.now))
  pub counts_are : (source k : ℕ) → count_or (slice_get p.counts.before_turns.items k) p.counts.all ≡ calls_before (pieces source p.script.now) k

-- the fields are taken and counted from the script's steps (own)
abbrev pub plan_invariant : Inside → Type 0
plan_invariant p = IsPlan p
