-- Proof that `WorldObject::turn` meets its contract.
use Rattle.std.proofs.Common.{◌≡◌, ◌∙◌, Some, sym, ap, subst}
use Rattle.sleep_model.specs.declared.machine.Machine.{Machine}
use Rattle.turn_lock.specs.Passes.{HasGrown, gained}
use Rattle.run_world.specs.declared.object.WorldObject.{WorldObject}
use Rattle.run_world.specs.declared.object.WorldObject.TheVariants as object
use Rattle.run_world.specs.Objects.{notes_of, root_of}
use Rattle.run_world.specs.Outcomes.{AfterCoreTurn}
use Rattle.run_world.proofs.Reports.{turn_after, turn_grown}
use Rattle.run_world.proofs.object.WorldObject.turn.Goals as goal

pub returns-clause-grown : goal.returns-clause-grown
returns-clause-grown g c =
    subst (λ (y : WorldObject). HasGrown root_of notes_of (notes_of y) (object.Machine c.turn.new.self)) (sym c.in-Machine.is)
    (turn_grown c.args.who c.args.calls c.args.floor c.args.now c.in-Machine.machine c.turn.new.self c.turn.result c.turn.ensures.after)

pub returns-clause-after : goal.returns-clause-after
returns-clause-after g c = λ m is.
    let now : c.args.self.now ≡ object.Machine c.in-Machine.machine = c.in-Machine.is in
    let same : c.in-Machine.machine.core.machine ≡ m = let e : Some c.in-Machine.machine.core.machine ≡ Some m = ap (λ (y : WorldObject). (root_of y).machine) (sym now) ∙ is in cc in
    let past = c.in-Machine.machine.core.past in (
      past,
      ap notes_of now,
      subst (λ (x : Machine). AfterCoreTurn x c.args.who c.args.calls c.args.floor c.args.now past c.turn.result (gained root_of notes_of 0 (notes_of c.args.self.now) (object.Machine c.turn.new.self))) same
          (subst (λ (y : WorldObject). AfterCoreTurn c.in-Machine.machine.core.machine c.args.who c.args.calls c.args.floor c.args.now past c.turn.result (gained root_of notes_of 0 (notes_of y) (object.Machine c.turn.new.self))) (sym now)
          (turn_after c.args.who c.args.calls c.args.floor c.args.now c.in-Machine.machine c.turn.new.self c.turn.result c.turn.ensures.after)),
    )
