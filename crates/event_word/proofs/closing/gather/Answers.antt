-- Proof by hand of `gather`: the call of `join_seat`, by the lemmas of `Invariance` and `Seating`.
use Rattle.std.proofs.Common.{rules, ap, sym, ◌∙◌, Some, ℕ}
use Rattle.event_word.proofs.Invariance.{may_join_source}
use Rattle.event_word.proofs.Seating.{came, known_length}
use Rattle.event_word.proofs.closing.gather.Goals as goal

pub join_seat-requires : goal.join_seat-requires
join_seat-requires c =
    let is = c.loop-seat.invariant in
    let p = came c.args.look.now c.args.seats.items c.loop-seat.yielded c.loop-seat.seat-iterator.rest.items c.next.new.self.rest.items c.in-Some.seat c.requires.seats is.6 c.in-Some.ensures.steps.0 in
    let table = c.requires.table in (
      is.0 ∙ table.0,
      p.0 ∙ table.0,
      c.in-Some.seat.seated.empty,
      search rules,
      may_join_source _ _ _ _ is.1.keeps is.1.unnumbered (p.1 ∙ ap (λ (n : ℕ). Some n) (sym (known_length c.loop-seat.yielded c.loop-seat.look.me.0.known is.4))),
    )
