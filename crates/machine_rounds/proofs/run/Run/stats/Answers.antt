-- Proof that `Run::stats` meets what `stats_of` requires.
use Rattle.std.proofs.Common.{◌≡◌, ◌<◌, ◌∙◌, List, length, slice_index_or, sym, ap, arith}
use Rattle.std.proofs.lemmas.List.{length-map}
use Rattle.sleep_model.specs.Numbers.{time_of}
use Rattle.sleep_state.specs.JournalRooms.{entries}
use Rattle.wakeup_source.specs.SourceStates.{SourceState, unstamped_source, latest}
use Rattle.run_objects.specs.Objects.{SeatedSourceState, sources_of}
use Rattle.running_laws.proofs.Asked.{timely}
use Rattle.machine_rounds.specs.JobsOf.{job_at}
use Rattle.machine_rounds.specs.Runs.{RunState}
use Rattle.machine_rounds.proofs.SeatedSources.{index_mapped}
use Rattle.machine_rounds.proofs.run.Run.stats.Goals as goal

pub stats_of-requires-clause-time : goal.stats_of-requires-clause-time
stats_of-requires-clause-time c =
    let r = c.self.inside in
    let at : c.time.result ≡ time_of (entries r.seated.core.past) = c.time.ensures.is ∙ sym (ap (λ (x : RunState). time_of (entries x.journal)) c.self.view_is) in
    λ s none l. (
    let here : s < length (sources_of r.sources.items) = omega (arith, l, ap length c.deref.ensures.value, length-map r.sources.items (λ (x : SeatedSourceState). x.source)) in
    let on = timely r.machine.now r.seated.core.past (sources_of r.sources.items) (job_at r.jobs) c.self.invariant.running s none.source here in
    let same : slice_index_or (sources_of r.sources.items) s none.source ≡ (slice_index_or c.deref.result.now s none).source =
    index_mapped (λ (x : SeatedSourceState). x.source) r.sources.items s none ∙ ap (λ (xs : List SeatedSourceState). (slice_index_or xs s none).source) (sym c.deref.ensures.value) in
    omega (arith, on, at, ap (λ (x : SourceState). latest (unstamped_source x.past)) same)
    )
