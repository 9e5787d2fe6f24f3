-- The fields of a log that is stored as its journal and its sources' histories.
use Rattle.std.specs.Prelude.{◌≡◌, true, map, reverse}
use Rattle.std.specs.List.{list_all}
use Rattle.sleep_model.specs.declared.log.Log.{Log}
use Rattle.sleep_model.specs.Merge.{merge, of_source, rises}
use Rattle.apart_log.specs.declared.log.ApartLog.TheInside.{Inside}

-- the log that contracts see
abbrev pub whole_log : Inside → Log
whole_log l = record { entries = merge (reverse l.journal.past) l.histories.items; stats = l.stats; end = l.end }

-- the journal is in order, and so is each history
pub record LogInvariant (l : Inside) : Type 0 where
  pub journal : rises (reverse l.journal.past) ≡ true
  pub histories : list_all (λ history. rises (map of_source history)) l.histories.items ≡ true
