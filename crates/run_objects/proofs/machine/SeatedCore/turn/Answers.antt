-- Proof that `SeatedCore::turn` keeps the invariant of its type.
use Rattle.std.proofs.Common.{◌≡◌, ◌∙◌, refl, sym, ap, subst}
use Rattle.event_word.specs.Seats.{WordToken}
use Rattle.run_objects.specs.Objects.{IsSeatedCore, SeatedCoreState}
use Rattle.run_objects.specs.ObjectFields.{look_seat}
use Rattle.run_objects.proofs.Machines.{turned}
use Rattle.run_objects.proofs.machine.SeatedCore.turn.Goals as goal

pub invariant_of-self : goal.invariant_of-self
invariant_of-self g c =
    let place : look_seat c.self.inside.seat ≡ c.taken.result.token = ap look_seat c.taken.ensures in
    let token : look_seat c.self.inside.seat ≡ c.on-events.result.token = place ∙ sym c.on-events.ensures in
    let old : WordToken → SeatedCoreState = λ t. record { core = c.self.inside.core; seat = t } in
    let new : WordToken → SeatedCoreState = λ t. record { core = c.turn-answer.new.self; seat = t } in
    let kept : IsSeatedCore (old c.on-events.result.token) = subst (λ (t : WordToken). IsSeatedCore (old t)) token c.self.invariant.kept in
    let made = c.turn-answer.ensures.turn in
    let is : IsSeatedCore (new c.turn-answer.new.events.token) =
    turned c.turn-answer.result (old c.on-events.result.token) (new c.turn-answer.new.events.token) c.args.who made.0 c.args.floor kept
    c.turn-answer.new.events.seated c.turn-answer.new.events.unused made.2 made.4 c.turn-answer.ensures.floor in
    record { placed = refl; kept = subst (λ (t : WordToken). IsSeatedCore (new t)) (sym c.off.ensures) is; last = tt }
