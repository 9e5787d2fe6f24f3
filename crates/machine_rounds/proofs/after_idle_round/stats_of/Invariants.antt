-- The invariant of the loop of `stats_of`.
use Rattle.std.proofs.Common.{◌≡◌, ◌≤◌, true, take, length, vec_len, vec_capacity}
use Rattle.std.specs.List.{list_all}
use Rattle.sleep_model.specs.Fits.{fits_stats}
use Rattle.run_objects.specs.Objects.{sources_of}
use Rattle.machine_rounds.specs.Waits.{all_stats}
use Rattle.machine_rounds.proofs.after_idle_round.stats_of.Given as goal

abbrev pub invariant-loop-source : goal.invariant-loop-source
invariant-loop-source l = record {
  all : l.stats.items ≡ all_stats (sources_of (take l.source-index l.sources)) l.at;
  ranged : list_all fits_stats l.stats.items ≡ true;
  placed : vec_len l.stats ≤ l.source-index;
  room : length l.sources ≤ vec_capacity l.stats;
}
