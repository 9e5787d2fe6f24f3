-- Proof by hand of `sources`: its loop, by the lemmas of `Seating`.
use Rattle.std.proofs.Common.{rules, arith, ap, ◌∙◌, ◌≡◌, ◌+◌}
use Rattle.event_word.specs.Seats.{source_count}
use Rattle.event_word.proofs.Seating.{seats_more}
use Rattle.event_word.proofs.table.EventTable.sources.Goals as goal

pub loop-preserved : goal.loop-preserved
loop-preserved c =
    let is = c.loop.invariant in
    let me = c.source.ensures.look in
    let next : source_count c.source.new.look.token ≡ source_count c.loop.look.token + 1 = ap (λ m. m.0.next) me ∙ omega arith in (
      c.source.ensures.table ∙ is.0,
      search rules,
      omega arith,
      rw (c.in_ok-push.ensures.items) (seats_more c.loop.look.token c.source.new.look.token c.loop.seats.items c.source.result c.source.ensures.table me c.source.ensures.seat c.source.ensures.view is.3),
      ap (λ m. m.0.looked) me ∙ is.4,
      ap (λ m. m.0.floor) me ∙ is.5,
      ap (λ m. m.0.made) me ∙ is.6,
    )
