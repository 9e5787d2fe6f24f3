-- Proof by hand of `read_log`: what it returns, by the lemmas of `ReadBack`.
use Rattle.std.proofs.Common.{◌≡◌, subst, IfOk, IfErr}
use Rattle.std.specs.Prelude.{IsOkUnless}
use Rattle.sleep_model.specs.declared.log.Log.{Log}
use Rattle.sleep_model.specs.declared.machine.Machine.{Machine}
use Rattle.sleep_model.specs.Fits.{IsWritable}
use Rattle.sleep_model.specs.Text.{text}
use Rattle.log_text.specs.declared.fault.LogFault.TheVariants.{Mem}
use Rattle.log_text.specs.Faults.{AtLine}
use Rattle.log_text.specs.Grammar.{IsFirstBad}
use Rattle.log_text.specs.Named.{AreNamed}
use Rattle.log_text.proofs.ReadBack.{same_log, no_fault}
use Rattle.log_text.proofs.reading.read.read_log.Goals as goal

pub returns-in-Ok-clause-text : goal.returns-in-Ok-clause-text
returns-in-Ok-clause-text c = subst (λ (m : Machine). IfOk c.read_whole-read.result (λ log. text m log ≡ c.args.bytes.now)) c.in-Ok.ensures c.read_whole-read.ensures.text

pub returns-in-Ok-clause-line : goal.returns-in-Ok-clause-line
returns-in-Ok-clause-line c = subst (λ (m : Machine). IfErr c.read_whole-read.result (λ e. AtLine e (λ n. AreNamed m → IsFirstBad m c.args.bytes.now n))) c.in-Ok.ensures c.read_whole-read.ensures.line

pub returns-in-Ok-clause-back : goal.returns-in-Ok-clause-back
returns-in-Ok-clause-back c =
    let bytes = c.args.bytes.now in
    let read = c.read_whole-read.result in
    let e = c.read_whole-read.ensures in
    subst (λ (m : Machine). (log : Log) → AreNamed m → IsWritable m log → text m log ≡ bytes → IfOk read (λ r. r ≡ log)) c.in-Ok.ensures
    (same_log c.in-Ok.machine_names bytes read e.text e.fits)

pub returns-in-Ok-clause-taken : goal.returns-in-Ok-clause-taken
returns-in-Ok-clause-taken c =
    let bytes = c.args.bytes.now in
    let read = c.read_whole-read.result in
    subst (λ (m : Machine). (log : Log) → AreNamed m → IsWritable m log → text m log ≡ bytes → IsOkUnless read Mem) c.in-Ok.ensures
    (no_fault c.in-Ok.machine_names bytes read c.read_whole-read.ensures.line)
