-- An entry of a device has its place, and keeps what the core keeps.
use Rattle.std.proofs.Common.{◌≡◌, ◌∙◌, ◌<◌, ◌^◌, length, map, ap, ap₂, refl, sym, subst}
use Rattle.sleep_model.specs.declared.entry.JournalEntry.{JournalEntry}
use Rattle.sleep_model.specs.declared.progress.Due.TheVariants.{Makes}
use Rattle.sleep_model.specs.declared.machine.Machine.{Machine}
use Rattle.sleep_model.specs.Runtime.{may_wake}
use Rattle.sleep_model.specs.Due.{due}
use Rattle.sleep_model.specs.Numbers.{time_of}
use Rattle.sleep_model.specs.Calls.{calls_due, report_calls}
use Rattle.sleep_model.specs.Path.{attempts}
use Rattle.sleep_state.specs.JournalRooms.{entries}
use Rattle.sleep_core.specs.Cores.{CoreState, IsActor}
use Rattle.core_history.specs.Histories.{HistoryState}
use Rattle.sleep_core.specs.Reports.{reported_by, counts_after}
use Rattle.sleep_core.proofs.Reporting.{reported_few, counts_more}
use Rattle.sleep_core.proofs.Turning.{core_device, device_room}
use Rattle.sleep_core.proofs.state.Core.make_device.Goals as goal

pub append_device-requires-clause-room : goal.append_device-requires-clause-room
append_device-requires-clause-room c =
    let h = c.self.inside.history in
    device_room h (record { time = time_of (entries h.past); now = c.args.now; actor = c.args.who; kind = c.args.kind }) c.self.invariant.core
    (subst (λ (s : CoreState). due s.machine (entries s.past) c.args.who c.args.now ≡ Makes c.args.kind) (sym c.self.view_is) c.requires.due) c.requires.device

pub add-requires : goal.add-requires
add-requires c =
    let h = c.self.inside.history in
    subst (λ r. reported_by c.args.who r < 2 ^ 32) (sym c.self.invariant.reports_are)
    (reported_few h.machine (entries h.past) c.args.who
    (subst (λ (s : CoreState). IsActor s.machine c.args.who) (sym c.self.view_is) c.requires.actor)
    (subst (λ (s : CoreState). calls_due s.machine c.args.who (entries s.past) < 2 ^ 32) (sym c.self.view_is) c.requires.calls))

pub invariant_of-self : goal.invariant_of-self
invariant_of-self c =
    let h = c.self.inside.history in
    let j : JournalEntry = record { stamp = c.args.stamp; entry = record { time = time_of (entries h.past); now = c.args.now; actor = c.args.who; kind = c.args.kind } } in
    let same : c.append_device.new.self.machine ≡ h.machine = ap (λ (k : HistoryState). k.machine) c.append_device.ensures in
    record {
      core = core_device h c.append_device.new.self j c.self.invariant.core
          (subst (λ (s : CoreState). IsActor s.machine c.args.who) (sym c.self.view_is) c.requires.actor)
          (subst (λ (s : CoreState). due s.machine (entries s.past) c.args.who c.args.now ≡ Makes c.args.kind) (sym c.self.view_is) c.requires.due)
          refl c.requires.device c.append_device.ensures;
      plans_are = c.self.invariant.plans_are ∙ sym same;
      wakeup_is = c.self.invariant.wakeup_is ∙ ap (λ (m : Machine). map may_wake m.devices) (sym same);
      reports_are =
          c.add.ensures
          ∙ (ap₂ (λ n r. counts_after c.args.who n r)
          (subst (λ (s : CoreState). c.reports_in-reports.result ≡ length (report_calls s.machine (attempts (entries s.past)) c.args.kind)) (sym c.self.view_is) c.reports_in-reports.ensures)
          c.self.invariant.reports_are
          ∙ sym (counts_more h h c.append_device.new.self j refl refl c.append_device.ensures));
    }
