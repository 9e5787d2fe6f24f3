-- What was read is the log that was written.
use Rattle.std.proofs.Common.{◌≡◌, ◌∙◌, ℕ, List, refl, sym, subst, IfOk, IfErr, Ok, Err, Result}
use Rattle.std.specs.Prelude.{IsOkUnless}
use Rattle.sleep_model.specs.declared.log.Log.{Log}
use Rattle.sleep_model.specs.declared.machine.Machine.{Machine}
use Rattle.sleep_model.specs.Fits.{IsWritable}
use Rattle.sleep_model.specs.Text.{text}
use Rattle.log_text.specs.declared.fault.LogFault.{LogFault}
use Rattle.log_text.specs.declared.fault.LogFault.TheVariants.{Line, Mem}
use Rattle.log_text.specs.Faults.{AtLine}
use Rattle.log_text.specs.Grammar.{IsFirstBad}
use Rattle.log_text.specs.Named.{AreNamed}
use Rattle.log_text.proofs.OneLog.{one_log}
use Rattle.log_text.proofs.NoBadLine.{none_bad}

-- the answer is the log that the text is of
pub same_log : (m : Machine) (bytes : List ℕ) (r : Result Log LogFault) → IfOk r (λ l. text m l ≡ bytes) → IfOk r (λ l. IsWritable m l) → (log : Log) → AreNamed m → IsWritable m log → text m log ≡ bytes → IfOk r (λ l. l ≡ log)
same_log m bytes (Ok l) t f log named w e = one_log m named l log f w (t ∙ sym e)
same_log m bytes (Err x) t f log named w e = tt

-- and no line of it is a fault
pub no_fault : (m : Machine) (bytes : List ℕ) (r : Result Log LogFault) → IfErr r (λ e. AtLine e (λ n. AreNamed m → IsFirstBad m bytes n)) → (log : Log) → AreNamed m → IsWritable m log → text m log ≡ bytes → IsOkUnless r Mem
no_fault m bytes (Ok l) h log named w e = tt
no_fault m bytes (Err (Line n)) h log named w e = absurd (none_bad m named log w n (subst (λ (t : List ℕ). IsFirstBad m t n) (sym e) (h named)))
no_fault m bytes (Err Mem) h log named w e = refl
