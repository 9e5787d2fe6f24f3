-- What a run says at its end.
use Rattle.std.specs.Prelude.{ℕ, List, [], ◌∷◌, map}
use Rattle.sleep_model.specs.declared.entry.Actor.TheVariants.{Script}
use Rattle.sleep_model.specs.declared.log.Stats.{Stats}
use Rattle.sleep_model.specs.declared.log.Waiting.{Waiting}
use Rattle.sleep_model.specs.declared.progress.Due.{Due}
use Rattle.sleep_model.specs.declared.progress.Due.TheVariants.{Waits}
use Rattle.sleep_model.specs.Sources.{stats_at}
use Rattle.wakeup_source.specs.SourceStates.{SourceState, unstamped_source}

-- that the script waits, if that is what is due of it
abbrev pub script_waits : ℕ → Due → List Waiting
script_waits i (Waits why) = record { actor = Script i; why = why } ∷ []
script_waits i _ = []

-- the statistics of these sources at that moment
abbrev pub all_stats : List SourceState → ℕ → List Stats
all_stats sources at = map (λ s. stats_at (unstamped_source s.past) at) sources
