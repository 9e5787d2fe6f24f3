-- Proof that `SeatedSource::call` meets its contract, and that it keeps the invariant of its type, and that it meets what `make` requires.
use Rattle.std.proofs.Common.{◌≡◌, ◌∙◌, refl, sym, ap, subst}
use Rattle.event_word.specs.declared.seats.TableSeat.{TableSeat}
use Rattle.event_word.specs.Seats.{WordToken, made_of, number_of}
use Rattle.run_objects.specs.Objects.{IsSeatedSource, SeatedSourceState}
use Rattle.run_objects.specs.ObjectFields.{event_seat, source_state}
use Rattle.run_objects.proofs.Sources.{IsLeft, called, can_call, on_err, second}
use Rattle.run_objects.proofs.source.SeatedSource.call.Given.{Over}
use Rattle.run_objects.proofs.source.SeatedSource.call.Goals as goal

pub make-answer-requires-clause-can : goal.make-answer-requires-clause-can
make-answer-requires-clause-can g c =
    let kept = c.self.invariant.kept in
    let place : event_seat c.self.inside.seat ≡ c.taken.result.token = ap event_seat c.taken.ensures in
    let token : c.on-events.result.token ≡ event_seat c.self.inside.seat = c.on-events.ensures ∙ sym place in
    can_call c.args.call (made_of c.on-events.result.token) c.self.inside.source.past (ap made_of token ∙ kept.seated.steps) c.if-is_full.ensures.room

-- what the call leaves, from the seat as it was before
left : (g : Over) (c : goal.Joined-self g) → IsLeft (source_state c.self.inside) (record { source = c.make-answer.new.source; seat = c.off.result.token })
left g c =
    let place : event_seat c.self.inside.seat ≡ c.taken.result.token = ap event_seat c.taken.ensures in
    let token : event_seat c.self.inside.seat ≡ c.on-events.result.token = place ∙ sym c.on-events.ensures in
    let old : WordToken → SeatedSourceState = λ t. record { source = c.self.inside.source; seat = t } in
    let new : WordToken → SeatedSourceState = λ t. record { source = c.make-answer.new.source; seat = t } in
    let kept : IsSeatedSource (old c.on-events.result.token) = subst (λ (t : WordToken). IsSeatedSource (old t)) token c.self.invariant.kept in
    let number : number_of c.make-answer.new.events.token ≡ number_of c.on-events.result.token = second c.make-answer.ensures.root in
    let is : IsLeft (old c.on-events.result.token) (new c.make-answer.new.events.token) =
    called c.make-answer.result c.args.by c.args.call (old c.on-events.result.token) (new c.make-answer.new.events.token) kept c.make-answer.new.events.seated number
    c.make-answer.ensures.settled c.make-answer.ensures.calls c.make-answer.ensures.made (on_err c.make-answer.result (λ h. (h.0, ap (λ (e : TableSeat). e.token) h.1)) c.make-answer.ensures.err) in
    subst (λ (t : WordToken). IsLeft (source_state c.self.inside) (new t)) (sym c.off.ensures) (subst (λ (t : WordToken). IsLeft (old t) (new c.make-answer.new.events.token)) (sym token) is)

pub invariant_of-self : goal.invariant_of-self
invariant_of-self g c = record { placed = refl; kept = (left g c).kept }

pub returns-clause-number : goal.returns-clause-number
returns-clause-number g c =
    let was = c.self.view_is in
    let place : event_seat c.self.inside.seat ≡ c.taken.result.token = ap event_seat c.taken.ensures in
    let number : number_of c.make-answer.new.events.token ≡ number_of c.on-events.result.token = second c.make-answer.ensures.root in (
      ap number_of c.off.ensures ∙ number ∙ ap number_of (c.on-events.ensures ∙ sym place) ∙ ap (λ (s : SeatedSourceState). number_of s.seat) was,
      (left g c).number ∙ ap (λ (s : SeatedSourceState). s.source.id) was,
    )
