-- What a verdict says of a log.
use Rattle.std.specs.Prelude.{◌≡◌, ◌<◌, ℕ, List, length, take, slice_get, Option, Some, None}
use Rattle.sleep_model.specs.declared.log.Log.{Log}
use Rattle.sleep_model.specs.declared.log.Stats.{Stats}
use Rattle.sleep_model.specs.declared.machine.Machine.{Machine}
use Rattle.rule_definitions.specs.Verdict.{IsFirstBad, IsGood}
use Rattle.log_check.specs.declared.ending.Verdict.{Verdict}
use Rattle.log_check.specs.declared.ending.Verdict.TheVariants.{Good, Bad}

-- good: legal and finished; bad: the verdict names the first line that is bad and the least rule broken there (own)
abbrev pub IsVerdict : Machine → Log → Verdict → Type 0
IsVerdict m log Good = IsGood m log
IsVerdict m log (Bad line definition) = IsFirstBad m log line definition

-- two lists of statistics are equal, or that is the first index at which they differ (own)
abbrev pub Differ : List Stats → List Stats → Option ℕ → Type 0
Differ logged own None = logged ≡ own
Differ logged own (Some k) =
    (k < length logged) × (take k logged ≡ take k own) × (slice_get logged k ≡ slice_get own k → ⊥)
