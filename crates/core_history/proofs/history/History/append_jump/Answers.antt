-- Proof that `History::append_jump` keeps the invariant of its type.
use Rattle.std.proofs.Common.{◌∙◌, refl}
use Rattle.sleep_state.specs.JournalRooms.{entries}
use Rattle.core_history.proofs.Parting.{jumps}
use Rattle.core_history.proofs.history.History.append_jump.Goals as goal

pub invariant_of-self : goal.invariant_of-self
invariant_of-self c =
    let i = c.self.invariant in
    let r = i.components_are in
    let same = jumps c.self.inside.machine.now (entries c.self.inside.journal.past) c.args.to c.args.seen in
    rw (c.put.ensures, c.made_at.ensures) (record {
      few = i.few;
      small = i.small;
      last_is = refl;
      time_is = refl;
      components_are = record {
        guard = r.guard ∙ same.stays.guard;
        path = r.path ∙ same.stays.path;
        devices = r.devices ∙ same.stays.devices;
        board = r.board ∙ same.stays.board;
        tasks = r.tasks ∙ same.tasks;
        freezer = r.freezer ∙ same.stays.freezer;
        autosleep = r.autosleep ∙ same.autosleep;
        platform = r.platform ∙ same.stays.platform;
        syscore = r.syscore ∙ same.stays.syscore;
      };
    })
