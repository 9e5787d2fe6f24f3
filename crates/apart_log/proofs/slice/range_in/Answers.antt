-- Proof by hand of `range_in`: the call of `from_on` and what it returns, by the lemmas of `Parting`.
use Rattle.std.proofs.Common.{◌∙◌, ℕ, List, Option, filter, map, nat_lt, sym, ap}
use Rattle.sleep_model.specs.declared.entry.SourceEntry.{SourceEntry}
use Rattle.sleep_model.specs.Merge.{of_source}
use Rattle.apart_log.specs.Slices.{is_in}
use Rattle.apart_log.proofs.Parting.{both_ends, no_end, rising}
use Rattle.apart_log.proofs.slice.range_in.Goals as goal

pub from_on-rest-requires : goal.from_on-rest-requires
from_on-rest-requires c = rising c.args.history.now c.requires

pub returns-in-Some : goal.returns-in-Some
returns-in-Some c =
    let history = c.args.history.now in
    let from = c.args.range.from in
    ap (λ (l : List SourceEntry). map of_source l) (c.before-in-Some.ensures ∙ ap (filter (λ (one : SourceEntry). nat_lt one.stamp.pos c.in-Some.end)) c.from_on-rest.ensures.those)
    ∙ (both_ends from c.in-Some.end history
    ∙ ap (λ (to : Option ℕ). filter (is_in (record { from = from; to = to })) (map of_source history)) (sym c.in-Some.is))

pub returns-in-None : goal.returns-in-None
returns-in-None c =
    let history = c.args.history.now in
    let from = c.args.range.from in
    ap (λ (l : List SourceEntry). map of_source l) c.from_on-rest.ensures.those
    ∙ (no_end from history ∙ ap (λ (to : Option ℕ). filter (is_in (record { from = from; to = to })) (map of_source history)) (sym c.in-None.is))
