-- What is judged after the last entry.
use Rattle.std.proofs.Common.{◌≡◌, ◌+◌, ◌∙◌, ℕ, List, length, reverse, Option, Some, None, sym, ap, subst}
use Rattle.sleep_model.specs.declared.entry.Entry.{Entry}
use Rattle.sleep_model.specs.declared.log.Log.{Log}
use Rattle.sleep_model.specs.declared.log.Stats.{Stats}
use Rattle.sleep_model.specs.declared.machine.Machine.{Machine}
use Rattle.sleep_model.specs.Legal.{IsFinishedLog, stats_of}
use Rattle.rule_definitions.specs.Entry.{KeepsEach}
use Rattle.rule_definitions.specs.Verdict.{AtEnd, AtStats, IsGood}
use Rattle.log_rules.proofs.Legal.{lists}
use Rattle.log_check.specs.declared.ending.Verdict.{Verdict}
use Rattle.log_check.specs.declared.ending.Verdict.TheVariants.{Bad}
use Rattle.log_check.specs.Verdicts.{Differ, IsVerdict}

module _ (m : Machine) (log : Log) (past : List Entry) (all : past ≡ reverse log.entries) (kept : KeepsEach m (reverse log.entries)) (logged : List Stats) (is_logged : logged ≡ log.stats) (o : Option ℕ) (differ : Differ logged (stats_of m past) o) where
  differs : Differ log.stats (stats_of m (reverse log.entries)) o
  differs =
      subst (λ (xs : List Stats). Differ xs (stats_of m (reverse log.entries)) o) is_logged
      (subst (λ (es : List Entry). Differ logged (stats_of m es) o) all differ)

  -- the first source whose statistics are not its own
  pub bad_stats : (k before n : ℕ) (v : Verdict) → o ≡ Some k → before ≡ length log.entries → n ≡ before + k → v ≡ Bad (n + 1) 22 → IsVerdict m log v
  bad_stats k before n v is many line v_is =
      let d = subst (Differ log.stats (stats_of m (reverse log.entries))) is differs in
      let place : n ≡ length log.entries + k = line ∙ ap (λ j. j + k) many in
      subst (IsVerdict m log) (sym (v_is ∙ ap (λ j. Bad (j + 1) 22) place)) (AtStats k kept d.0 d.1 d.2)

  module _ (none : o ≡ None) where
    same : log.stats ≡ stats_of m (reverse log.entries)
    same = subst (Differ log.stats (stats_of m (reverse log.entries))) none differs

    -- nothing is wrong
    pub is_good : IsFinishedLog m log → IsGood m log
    is_good finished = record { legal = record { legal = (lists m (reverse log.entries)).legal kept; stats = same }; finished = finished }

    -- the end of a log that is not finished
    pub bad_end : (before more n : ℕ) (v : Verdict) → before ≡ length log.entries → more ≡ length logged → n ≡ before + more → v ≡ Bad (n + 1) 20 → (IsFinishedLog m log → ⊥) → IsVerdict m log v
    bad_end before more n v many stats line v_is not =
        let place : n ≡ length log.entries + length log.stats = line ∙ (ap (λ j. j + more) many ∙ ap (λ j. length log.entries + j) (stats ∙ ap length is_logged)) in
        subst (IsVerdict m log) (sym (v_is ∙ ap (λ j. Bad (j + 1) 20) place)) (AtEnd kept same not)
