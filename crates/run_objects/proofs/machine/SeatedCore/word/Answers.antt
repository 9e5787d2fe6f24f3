-- Proof that `SeatedCore::word` keeps the invariant of its type.
use Rattle.std.proofs.Common.{◌≡◌, ◌∙◌, ◌≤◌, refl, sym, ap, subst, arith}
use Rattle.event_word.specs.Seats.{WordToken, floor_of, looked_of}
use Rattle.run_objects.specs.Objects.{IsSeatedCore, SeatedCoreState}
use Rattle.run_objects.specs.ObjectFields.{IsNewest, look_seat}
use Rattle.run_objects.proofs.Machines.{looked, looked_last}
use Rattle.run_objects.proofs.machine.SeatedCore.word.Goals as goal

pub invariant_of-self : goal.invariant_of-self
invariant_of-self g c =
    let place : look_seat c.self.inside.seat ≡ c.taken.result.token = ap look_seat c.taken.ensures in
    let token : look_seat c.self.inside.seat ≡ c.on-events.result.token = place ∙ sym c.on-events.ensures in
    let on : WordToken → SeatedCoreState = λ t. record { core = c.self.inside.core; seat = t } in
    let kept : IsSeatedCore (on c.on-events.result.token) = subst (λ (t : WordToken). IsSeatedCore (on t)) token c.self.invariant.kept in
    let rises : floor_of c.on-events.result.token ≤ floor_of c.look_from-word.new.events.token = omega (arith, c.look_from-word.ensures.rises, c.look_from-word.ensures.floor) in
    let is : IsSeatedCore (on c.look_from-word.new.events.token) =
    looked (on c.on-events.result.token) (on c.look_from-word.new.events.token) c.look_from-word.result kept c.look_from-word.new.events.seated c.look_from-word.new.events.unused
    refl c.look_from-word.ensures.grows rises in
    let last : IsNewest c.look_from-word.new.events.token c.look_from-word.result = record {
      seen = looked_last (looked_of c.on-events.result.token) (looked_of c.look_from-word.new.events.token) c.look_from-word.result c.look_from-word.ensures.grows;
      newest = sym c.look_from-word.ensures.floor;
    } in
    record {
      placed = refl;
      kept = subst (λ (t : WordToken). IsSeatedCore (on t)) (sym c.off.ensures) is;
      last = subst (λ (t : WordToken). IsNewest t c.look_from-word.result) (sym c.off.ensures) last;
    }
