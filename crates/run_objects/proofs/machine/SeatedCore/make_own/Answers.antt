-- Proof that `SeatedCore::make_own` keeps the invariant of its type.
use Rattle.std.proofs.Common.{◌≡◌, true, sym, subst}
use Rattle.std.specs.List.{list_any}
use Rattle.sleep_model.specs.declared.progress.Due.TheVariants.{Makes}
use Rattle.sleep_model.specs.Due.{due}
use Rattle.sleep_model.specs.Merge.{is_word}
use Rattle.sleep_model.specs.Word.{position}
use Rattle.event_word.specs.Seats.{floor_of, looked_of}
use Rattle.sleep_state.specs.JournalRooms.{entries}
use Rattle.run_objects.specs.Objects.{SeatedCoreState}
use Rattle.run_objects.specs.ObjectFields.{core_state}
use Rattle.run_objects.proofs.Machines.{made_own}
use Rattle.run_objects.proofs.machine.SeatedCore.make_own.Goals as goal

pub invariant_of-self : goal.invariant_of-self
invariant_of-self g c =
    let r = c.self.inside in
    let makes = subst (λ (s : SeatedCoreState). due s.core.machine (entries s.core.past) c.args.who c.args.word ≡ Makes c.args.kind) (sym c.self.view_is) c.requires.due in
    let seen = subst (λ (s : SeatedCoreState). list_any (is_word c.args.word) (looked_of s.seat) ≡ true) (sym c.self.view_is) c.requires.seen in
    let newest = subst (λ (s : SeatedCoreState). position c.args.word ≡ floor_of s.seat) (sym c.self.view_is) c.requires.newest in
    record {
      placed = c.self.invariant.placed;
      last = c.self.invariant.last;
      kept = made_own c.make_own.result (core_state r) c.make_own.new.self c.args.who c.args.word c.args.kind c.args.floor c.self.invariant.kept seen newest makes c.make_own.ensures.ok c.make_own.ensures.err;
    }
