-- Sources that get their seats one after another.
use Rattle.std.proofs.Common.{◌≡◌, ◌∙◌, List, [], ◌∷◌, ◌++◌, length, Some, refl, sym, ap, ⊎_elim}
use mathlib.Core.Option.{some, some-ne-none}
use mathlib.Core.List.{map-append}
use lib.ListN.{get_elem?}
use Rattle.event_word.specs.declared.table.EventSeat.{EventSeat}
use Rattle.event_word.specs.Lists.{tokens}
use Rattle.event_word.specs.Seats.{IsUntouched, WordToken, number_of}
use Rattle.event_word.proofs.Invariance.{at_end}
use Rattle.wakeup_source.specs.SourceStates.{new_source}
use Rattle.run_objects.specs.Objects.{AreFirst, AreUncalled, SeatedSourceState, seats_of}

-- the token at the index of a seat
token_at : (front rest : List EventSeat) (seat : EventSeat) → get_elem? (tokens (front ++ seat ∷ rest)) (length front) ≡ some seat.token
token_at [] rest seat = refl
token_at (x ∷ front) rest seat = token_at front rest seat

-- the seat that comes next has the number of its index
pub came : (seats yielded left rest : List EventSeat) (seat : EventSeat) → AreFirst (tokens seats) → yielded ++ left ≡ seats → left ≡ seat ∷ rest
    → (number_of seat.token ≡ Some (length yielded)) × IsUntouched seat.token
came seats yielded left rest seat are whole next =
    are (length yielded) seat.token
    (ap (λ (l : List EventSeat). get_elem? (tokens l) (length yielded)) (sym whole ∙ ap (λ (l : List EventSeat). yielded ++ l) next) ∙ token_at yielded rest seat)

pub none_called : AreUncalled []
none_called = λ k s at. absurd (some-ne-none s (sym at))

-- one more source that was never called
pub one_more : (sources : List SeatedSourceState) (s : SeatedSourceState) → AreUncalled sources → s.source ≡ new_source (length sources) → AreUncalled (sources ++ s ∷ [])
one_more sources s are is = λ k x at.
    ⊎_elim (λ old. are k x old)
    (λ (p : (k ≡ length sources) × (s ≡ x)). ap (λ (y : SeatedSourceState). y.source) (sym p.1) ∙ is ∙ ap new_source (sym p.0)) (at_end sources s x k at)

pub seats_more : (sources : List SeatedSourceState) (s : SeatedSourceState) (yielded : List EventSeat) (seat : EventSeat) → seats_of sources ≡ tokens yielded → s.seat ≡ seat.token
    → seats_of (sources ++ s ∷ []) ≡ tokens (yielded ++ seat ∷ [])
seats_more sources s yielded seat are is =
    map-append (λ (x : SeatedSourceState). x.seat) sources (s ∷ [])
    ∙ ap (λ (l : List WordToken). l ++ s.seat ∷ []) are
    ∙ ap (λ (t : WordToken). tokens yielded ++ t ∷ []) is
    ∙ sym (map-append (λ (x : EventSeat). x.token) yielded (seat ∷ []))
