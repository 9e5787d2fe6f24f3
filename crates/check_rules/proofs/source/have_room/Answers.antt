-- Proof by hand of `have_room`: its loop, by the lemmas of `Sourcing`.
use Rattle.std.proofs.Common.{◌∙◌, ap}
use Rattle.check_past.specs.Passing.{past_of}
use Rattle.check_sources.specs.declared.source.Source.{Source}
use Rattle.check_rules.proofs.Sourcing.{short_next}
use Rattle.check_rules.proofs.source.have_room.Goals as goal

pub loop-s-preserved : goal.loop-s-preserved
loop-s-preserved c =
    c.both-short.ensures
    ∙ short_next c.args.e (past_of c.args.past.now) c.loop-s.s c.source.result.entries c.source_in-own.result c.has_room.result c.loop-s.short
    c.source_in-own.ensures (ap (λ (x : Source). x.entries) c.source.ensures) c.has_room.ensures c.loop-s.invariant
