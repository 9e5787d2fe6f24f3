-- The operation of a script that is under way names what the machine has.
use Rattle.std.proofs.Common.{◌≡◌, ℕ, List, Option, Some, None, IfSome, refl, slice_get}
use Rattle.sleep_model.specs.declared.entry.Entry.{Entry}
use Rattle.sleep_model.specs.declared.machine.Machine.{Machine}
use Rattle.sleep_model.specs.declared.machine.Op.{Op}
use Rattle.sleep_model.specs.declared.machine.Script.{Script}
use Rattle.sleep_model.specs.Accepted.{AreScripts, IsOp}
use Rattle.sleep_model.specs.Laws.{steps_of}
use Rattle.rule_definitions.specs.Questions.{op_of, position_of}
use Rattle.sleep_model.specs.Scripts.{entry_steps}
use Rattle.sleep_laws.proofs.Operations.{entry_operation}

at_step : (m : Machine) (i n : ℕ) (s : Script) (o : Option Op) → slice_get m.actors i ≡ Some s → slice_get (entry_steps s) n ≡ o → AreScripts m m.actors → IfSome o (λ (op : Op). IsOp m op)
at_step m i n s None e f h = tt
at_step m i n s (Some op) e f h = entry_operation m h i n s op e f

at_script : (m : Machine) (i n : ℕ) (s : Option Script) → slice_get m.actors i ≡ s → AreScripts m m.actors → IfSome (slice_get (steps_of s) n) (λ (op : Op). IsOp m op)
at_script m i n None e h = tt
at_script m i n (Some s) e h = at_step m i n s (slice_get (entry_steps s) n) e refl h

pub names : (m : Machine) (past : List Entry) (i : ℕ) → AreScripts m m.actors → IfSome (op_of m past i) (λ (op : Op). IsOp m op)
names m past i h = at_script m i (position_of m past i).done (slice_get m.actors i) refl h
