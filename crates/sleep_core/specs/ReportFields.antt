-- What the fields of the counts of reports are.
use Rattle.std.specs.Prelude.{◌<◌, ◌^◌, ℕ, All}
use Rattle.sleep_core.specs.declared.reports.Reports.TheInside.{Inside}
use Rattle.sleep_core.specs.Reports.{ReportCounts}

-- the counts as contracts see them
abbrev pub counts : Inside → ReportCounts
counts r = record { scripts = r.scripts.items; auto = r.auto; devices = r.devices.items }

-- no number is near the limit of its range
pub record AreFew (r : Inside) : Type 0 where
  pub scripts : All (λ (n : ℕ). n < 2 ^ 33) r.scripts.items
  pub auto : r.auto < 2 ^ 33
  pub devices : All (λ (n : ℕ). n < 2 ^ 33) r.devices.items
