-- Proof that the loop of `seated` keeps its invariant, and that it meets what `new` requires.
use Rattle.std.proofs.Common.{◌≡◌, ◌∙◌, ◌++◌, ℕ, List, [], ◌∷◌, Some, length, sym, ap, arith, append_assoc, length-append}
use Rattle.event_word.specs.declared.table.EventSeat.{EventSeat}
use Rattle.wakeup_source.specs.SourceStates.{new_source}
use Rattle.run_objects.specs.Objects.{SeatedSourceState}
use Rattle.run_objects.proofs.Firsts.{came, one_more, seats_more}
use Rattle.run_objects.proofs.opening.seated.Goals as goal

pub new-requires-clause-number : goal.new-requires-clause-number
new-requires-clause-number c =
    let is = c.loop-seat.invariant in
    (came c.args.seats.items c.loop-seat.yielded c.loop-seat.seat-iterator.rest.items c.next.new.self.rest.items c.in-Some.seat c.requires.new is.4 c.in-Some.ensures.steps.0).0
    ∙ ap (λ (n : ℕ). Some n) (sym is.0)

pub new-requires-clause-untouched : goal.new-requires-clause-untouched
new-requires-clause-untouched c =
    (came c.args.seats.items c.loop-seat.yielded c.loop-seat.seat-iterator.rest.items c.next.new.self.rest.items c.in-Some.seat c.requires.new c.loop-seat.invariant.4 c.in-Some.ensures.steps.0).1

pub loop-seat-preserved : goal.loop-seat-preserved
loop-seat-preserved c =
    let is = c.loop-seat.invariant in
    let yielded = c.loop-seat.yielded in
    let sources = c.loop-seat.sources.items in
    let long = length-append yielded (c.in-Some.seat ∷ []) in
    let longer = length-append sources (c.new.result ∷ []) in
    let number : c.new.result.source ≡ new_source (length sources) = ap (λ (s : SeatedSourceState). s.source) c.new.ensures ∙ ap new_source (is.0 ∙ sym is.1) in (
      omega (arith, long, is.0),
      rw (c.in_ok-push.ensures.items) (omega (arith, long, longer, is.1)),
      rw (c.in_ok-push.ensures.items) (seats_more sources c.new.result yielded c.in-Some.seat is.2 (ap (λ (s : SeatedSourceState). s.seat) c.new.ensures)),
      rw (c.in_ok-push.ensures.items) (one_more sources c.new.result is.3 number),
      append_assoc yielded (c.in-Some.seat ∷ []) c.next.new.self.rest.items ∙ ap (λ (l : List EventSeat). yielded ++ l) (sym c.in-Some.ensures.steps.0) ∙ is.4,
    )
