-- The calls that a script's own steps make.
use Rattle.std.specs.Prelude.{ℕ, zero, suc, Bool, true, false, ◌||◌, List, [], ◌∷◌, ◌++◌}
use Rattle.sleep_model.specs.declared.entry.Kind.{Kind}
use Rattle.sleep_model.specs.declared.machine.Op.{Op}
use Rattle.sleep_model.specs.declared.machine.Op.TheVariants as op
use Rattle.sleep_model.specs.declared.machine.Report.{Report}
use Rattle.sleep_model.specs.declared.machine.Script.{Script}
use Rattle.sleep_model.specs.declared.machine.SourceCall.TheVariants as call
use Rattle.sleep_model.specs.Calls.{note}
use Rattle.sleep_model.specs.Scripts.{Piece}
use Rattle.sleep_model.specs.Tasks.{is_mem, is_off}
use Rattle.script_plan.specs.Plans.{calls_before}

-- a script, and the source that autosleep has (own)
pub record ScriptCalls : Type 0 where
  pub source : ℕ
  pub script : Script

-- a script, if autosleep has that source (own)
abbrev pub with_source : ℕ → Script → ScriptCalls
with_source source s = record { source = source; script = s }

-- the note of a call (wakeup_source_report_event)
abbrev pub noted : Report → Kind
noted r = note r.source r.call

-- a good write to autosleep keeps the system awake while it is set (pm_autosleep_set_state)
abbrev pub calls_of_autosleep : ℕ → Bool → List Report
calls_of_autosleep source true =
    record { source = source; call = call.Awake } ∷ record { source = source; call = call.Relax } ∷ []
calls_of_autosleep source false = []

-- the calls that an operation makes, if autosleep has that source (autosleep_store)
abbrev pub calls_made_by : ℕ → Op → List Report
calls_made_by source (op.Awake s) = record { source = s; call = call.Awake } ∷ []
calls_made_by source (op.Relax s) = record { source = s; call = call.Relax } ∷ []
calls_made_by source (op.Event s ms hard) = record { source = s; call = call.Event ms hard } ∷ []
calls_made_by source (op.Autosleep text) = calls_of_autosleep source (is_mem text || is_off text)
calls_made_by source _ = []

-- the calls of these operations, in order (own)
abbrev pub calls_made : ℕ → List Op → List Report
calls_made source [] = []
calls_made source (op ∷ ops) = calls_made_by source op ++ calls_made source ops

-- how many calls are made before the turn that precedes that one, and none before the first (own)
abbrev pub calls_ahead : List Piece → ℕ → ℕ
calls_ahead ps zero = 0
calls_ahead ps (suc k) = calls_before ps k
