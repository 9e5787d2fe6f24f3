-- Proof that `SeatedCore::make_of_device` keeps the invariant of its type.
use Rattle.std.proofs.Common.{◌≡◌, true, Ok, refl, sym, subst}
use Rattle.std.specs.List.{list_any}
use Rattle.sleep_model.specs.declared.progress.Due.TheVariants.{Makes}
use Rattle.sleep_model.specs.Due.{due}
use Rattle.sleep_model.specs.Merge.{is_word}
use Rattle.sleep_model.specs.Path.{attempts}
use Rattle.sleep_model.specs.Word.{position}
use Rattle.event_word.specs.Seats.{floor_of, looked_of}
use Rattle.sleep_state.specs.JournalRooms.{entries}
use Rattle.sleep_core.specs.declared.turns.CoreTurn.TheVariants.{Did}
use Rattle.run_objects.specs.Objects.{SeatedCoreState}
use Rattle.run_objects.specs.ObjectFields.{core_state}
use Rattle.run_objects.proofs.Machines.{turned_by}
use Rattle.run_objects.proofs.machine.SeatedCore.make_of_device.Goals as goal

pub invariant_of-self : goal.invariant_of-self
invariant_of-self g c =
    let r = c.self.inside in
    let new = c.make_of_device.new.self in
    let makes = subst (λ (s : SeatedCoreState). due s.core.machine (entries s.core.past) c.args.who c.args.word ≡ Makes c.args.kind) (sym c.self.view_is) c.requires.due in
    let seen = subst (λ (s : SeatedCoreState). list_any (is_word c.args.word) (looked_of s.seat) ≡ true) (sym c.self.view_is) c.requires.seen in
    let newest = subst (λ (s : SeatedCoreState). position c.args.word ≡ floor_of s.seat) (sym c.self.view_is) c.requires.newest in
    record {
      placed = c.self.invariant.placed;
      last = c.self.invariant.last;
      kept = turned_by (Ok (Did c.make_of_device.result c.args.kind (attempts (entries new.past)))) (core_state r) new c.args.who c.args.word c.args.floor c.self.invariant.kept seen newest
          (makes, c.make_of_device.ensures.made, c.make_of_device.ensures.stamp, refl);
    }
