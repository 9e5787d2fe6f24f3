-- What goes into a first burst.
use Rattle.std.proofs.Common.{◌≡◌, ◌≤◌, ℕ, zero, suc, List, [], ◌∷◌, refl, ap, subst, arith}
use mathlib.Core.Option.{some}
use lib.ListN.{get_elem?}
use Rattle.sleep_model.specs.declared.entry.SourceEntry.{SourceEntry}
use Rattle.wakeup_source.specs.SourceStates.{SourceState, unstamped_source, latest}
use Rattle.run_objects.specs.Objects.{AreUncalled, SeatedSourceState}
use Rattle.run_world.specs.ObjectLists.{AreTimely}

timely_all : (moment : ℕ) (sources : List SeatedSourceState) → ((k : ℕ) (s : SeatedSourceState) → get_elem? sources k ≡ some s → s.source.past ≡ []) → AreTimely moment sources
timely_all moment [] none = tt
timely_all moment (s ∷ sources) none =
    (subst (λ (past : List SourceEntry). latest (unstamped_source past) ≤ moment) (let e : [] ≡ s.source.past = (let f : s.source.past ≡ [] = none 0 s refl in cc) in e) (omega arith), timely_all moment sources (λ k t at. none (suc k) t at))

-- sources that were never called have no entry
pub uncalled_timely : (moment : ℕ) (sources : List SeatedSourceState) → AreUncalled sources → AreTimely moment sources
uncalled_timely moment sources are = timely_all moment sources (λ k s at. ap (λ (x : SourceState). x.past) (are k s at))
