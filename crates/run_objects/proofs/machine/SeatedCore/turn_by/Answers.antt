-- Proof that `SeatedCore::turn_by` keeps the invariant of its type.
use Rattle.std.proofs.Common.{◌≡◌, ◌∙◌, true, sym, subst}
use Rattle.std.specs.List.{list_any}
use Rattle.sleep_model.specs.declared.word.EventNow.{EventNow}
use Rattle.sleep_model.specs.Merge.{is_word}
use Rattle.sleep_model.specs.Word.{position}
use Rattle.event_word.specs.Seats.{floor_of, looked_of}
use Rattle.sleep_core.specs.Turned.{AfterTurn}
use Rattle.run_objects.specs.Objects.{SeatedCoreState}
use Rattle.run_objects.specs.ObjectFields.{core_state}
use Rattle.run_objects.proofs.Machines.{turned_by}
use Rattle.run_objects.proofs.machine.SeatedCore.turn_by.Goals as goal

pub invariant_of-self : goal.invariant_of-self
invariant_of-self g c =
    let r = c.self.inside in
    let t = c.turn.ensures.turn in
    let shown : t.0 ≡ c.args.word = t.1 ∙ c.new-seen.ensures in
    let after = subst (λ (w : EventNow). AfterTurn r.core c.turn.new.self c.args.who w c.args.floor c.turn.result) shown t.4 in
    let seen = subst (λ (s : SeatedCoreState). list_any (is_word c.args.word) (looked_of s.seat) ≡ true) (sym c.self.view_is) c.requires.seen in
    let newest = subst (λ (s : SeatedCoreState). position c.args.word ≡ floor_of s.seat) (sym c.self.view_is) c.requires.newest in
    record {
      placed = c.self.invariant.placed;
      last = c.self.invariant.last;
      kept = turned_by c.turn.result (core_state r) c.turn.new.self c.args.who c.args.word c.args.floor c.self.invariant.kept seen newest after;
    }
