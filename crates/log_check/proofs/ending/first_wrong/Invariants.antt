-- The invariant of the loop of `first_wrong`.
use Rattle.std.proofs.Common.{◌≡◌, take}
use Rattle.sleep_model.specs.Legal.{stats_of}
use Rattle.check_past.specs.Passing.{past_of}
use Rattle.log_check.proofs.ending.first_wrong.Given as goal

-- the statistics so far are those of the log
abbrev pub invariant-loop-source : goal.invariant-loop-source
invariant-loop-source l = take l.source l.logged ≡ take l.source (stats_of l.past.machine (past_of l.past))
