-- One plan among those of a machine's scripts.
use Rattle.std.proofs.Common.{◌≡◌, ◌<◌, ◌∙◌, ℕ, zero, suc, List, [], ◌∷◌, length, map, slice_get, slice_index_or, Some, sym, ap, arith}
use Rattle.sleep_model.specs.declared.machine.Script.{Script}
use Rattle.script_plan.specs.CallPlans.{ScriptCalls}
use Rattle.script_plan.specs.CallPlans.{with_source}

-- it is that of the script with its number
pub one_plan : (n : ℕ) (ss : List Script) (plans : List ScriptCalls) (i : ℕ) (x : ScriptCalls) → plans ≡ map (with_source n) ss → i < length ss → x ≡ slice_index_or plans i x → (x.source ≡ n) × (slice_get ss i ≡ Some x.script)
one_plan n ss plans i x are within at = among ss i within (at ∙ ap (λ (ps : List ScriptCalls). slice_index_or ps i x) are)
  where
    among : (ts : List Script) (k : ℕ) → k < length ts → x ≡ slice_index_or (map (with_source n) ts) k x → (x.source ≡ n) × (slice_get ts k ≡ Some x.script)
    among [] k l e = absurd (omega arith)
    among (t ∷ ts) zero l e = (ap (λ (y : ScriptCalls). y.source) e, ap (λ (y : ScriptCalls). Some y.script) (sym e))
    among (t ∷ ts) (suc k) l e = among ts k (omega arith) e
