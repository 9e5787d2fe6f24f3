-- What the text of a verdict says of an input.
use Rattle.std.proofs.Common.{◌≡◌, ◌≤◌, ◌∙◌, ℕ, true, false, true≢false, List, length, Some, sym, subst, arith}
use Rattle.sleep_model.specs.declared.log.Log.{Log}
use Rattle.sleep_model.specs.declared.machine.Machine.{Machine}
use Rattle.sleep_model.specs.Fits.{IsWritable}
use Rattle.rule_definitions.specs.Verdict.{IsGood}
use Rattle.sleep_model.specs.Text.{text}
use Rattle.file_rules.specs.Tree.{tree}
use Rattle.file_rules.specs.Whole.{machine_in}
use Rattle.log_text.proofs.NoBadLine.{none_bad}
use Rattle.log_text.proofs.OneLog.{one_log}
use Rattle.log_text.specs.Grammar.{IsFirstBad}
use Rattle.log_check.specs.declared.ending.Verdict.{Verdict}
use Rattle.log_check.specs.declared.ending.Verdict.TheVariants.{Good, Bad}
use Rattle.log_check.specs.Verdicts.{IsVerdict}
use Rattle.log_rules.proofs.Judging.{none_of_good}
use Rattle.program_ending.specs.declared.refusal.Refusal.{Refusal}
use Rattle.program_ending.specs.declared.refusal.Refusal.TheVariants.{LongMachine, Broken}
use Rattle.log_commands.specs.Input.{file_in, text_in}
use Rattle.log_commands.specs.Judging.{IsGoodText, IsJudged, IsVerdictOf, OfLine, OfLog, RefusesCheck, is_good}
use Rattle.log_commands.proofs.Fitting.{named, no_machine, one_machine}

good_log : (m : Machine) (log : Log) (v : Verdict) → IsVerdict m log v → is_good v ≡ true → IsGood m log
good_log m log Good is e = is
good_log m log (Bad line definition) is e = absurd (true≢false (sym e))

good_text : (m : Machine) (bytes : List ℕ) (v : Verdict) → IsVerdictOf m bytes v → is_good v ≡ true → IsGoodText m bytes
good_text m bytes _ (OfLog log v fits is h) e = record { log = log; fits = fits; is_text = is; good = good_log m log v h e }
good_text m bytes _ (OfLine line h) e = absurd (true≢false (sym e))

-- a log that the text calls legal is, and is finished
pub good_log_text : (bytes shown_text : List ℕ) (m : Machine) → machine_in (file_in bytes) ≡ Some m → IsJudged bytes shown_text true → IsGoodText m (text_in bytes)
good_log_text bytes shown_text m spells j =
    let same = one_machine j.machine m (sym j.spells ∙ spells) in
    subst (λ (k : Machine). IsGoodText k (text_in bytes)) same (good_text j.machine (text_in bytes) j.outcome.verdict j.outcome.is (sym j.outcome.is_good))

module _ (file : List ℕ) (m : Machine) (spells : machine_in file ≡ Some m) (bytes : List ℕ) (g : IsGoodText m bytes) where
  bad_log : (log : Log) (v : Verdict) → IsWritable m log → text m log ≡ bytes → IsVerdict m log v → is_good v ≡ false → ⊥
  bad_log log Good fits is h e = true≢false e
  bad_log log (Bad line definition) fits is h e =
      none_of_good m log line definition (subst (IsGood m) (one_log m (named file m spells) g.log log g.fits fits (g.is_text ∙ sym is)) g.good) h

  bad_text : (v : Verdict) → IsVerdictOf m bytes v → is_good v ≡ false → ⊥
  bad_text _ (OfLog log v fits is h) e = bad_log log v fits is h e
  bad_text _ (OfLine line h) e = none_bad m (named file m spells) g.log g.fits line (subst (λ (t : List ℕ). IsFirstBad m t line) (sym g.is_text) h)

-- a log of which the text names a bad line is not legal, or not finished
pub bad_log_text : (bytes shown_text : List ℕ) (m : Machine) → machine_in (file_in bytes) ≡ Some m → IsJudged bytes shown_text false → IsGoodText m (text_in bytes) → ⊥
bad_log_text bytes shown_text m spells j g =
    let same = one_machine j.machine m (sym j.spells ∙ spells) in
    bad_text (file_in bytes) m spells (text_in bytes) g j.outcome.verdict (subst (λ (k : Machine). IsVerdictOf k (text_in bytes) j.outcome.verdict) same j.outcome.is) (sym j.outcome.is_good)

-- an input that has a machine is not refused
pub machine_stands : (bytes : List ℕ) (m : Machine) → length (file_in bytes) ≤ 16777216 → machine_in (file_in bytes) ≡ Some m → (refusal : Refusal) → RefusesCheck bytes refusal → ⊥
machine_stands bytes m few spells LongMachine h = omega (arith, h, few)
machine_stands bytes m few spells (Broken rule place) h = no_machine (tree (file_in bytes)) m _ h.1 spells
machine_stands bytes m few spells refusal h = h
