-- Proof that `History::append_device` keeps the invariant of its type.
use Rattle.std.proofs.Common.{refl}
use Rattle.sleep_model.specs.Numbers.{time_of}
use Rattle.sleep_state.specs.JournalRooms.{entries}
use Rattle.core_history.proofs.Parting.{time_stays}
use Rattle.core_history.proofs.history.History.append_device.Goals as goal

pub invariant_of-self : goal.invariant_of-self
invariant_of-self c =
    let h = c.self.inside in
    let i = c.self.invariant in
    let past = entries h.journal.past in
    rw (c.put.ensures, c.made_at.ensures) (record {
      few = i.few;
      small = i.small;
      last_is = refl;
      time_is = time_stays c.args.kind h.time (time_of past) i.time_is;
      components_are = c.note_device.ensures h.machine.now past h.time i.components_are;
    })
