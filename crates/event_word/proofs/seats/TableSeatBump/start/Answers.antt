-- Proof by hand of `start`: the call of `fetch_add`, by the lemmas of `Invariance` and `Seating`.
use Rattle.std.proofs.Common.{rules}
use Rattle.sleep_model.specs.declared.word.WordKind.TheVariants.{Start}
use Rattle.event_word.proofs.Invariance.{may_step, some_number}
use Rattle.event_word.proofs.Seating.{can_step}
use Rattle.event_word.proofs.seats.TableSeatBump.start.Goals as goal

pub fetch_add-requires : goal.fetch_add-requires
fetch_add-requires c =
    let s = c.args.self.now in
    let n = some_number _ s.seated.numbered in
    let can = can_step Start _ _ c.requires.0 c.requires.1 in (s.fits, search rules, may_step Start _ _ n.0 _ s.seated.plain n.1 can.1 can.0)
