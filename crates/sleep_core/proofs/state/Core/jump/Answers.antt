-- Proof that `Core::jump` keeps the invariant of its type.
use Rattle.std.proofs.Common.{◌≡◌, ◌∙◌, ◌<◌, map, ap, sym, subst, arith}
use Rattle.sleep_model.specs.declared.machine.Machine.{Machine}
use Rattle.sleep_model.specs.Numbers.{time_of}
use Rattle.sleep_model.specs.Runtime.{may_wake}
use Rattle.sleep_state.specs.JournalRooms.{entries}
use Rattle.sleep_core.specs.Cores.{CoreState}
use Rattle.core_history.specs.Histories.{HistoryState}
use Rattle.sleep_core.proofs.Reporting.{counts_more}
use Rattle.sleep_core.proofs.Turning.{core_jumped}
use Rattle.sleep_core.proofs.state.Core.jump.Goals as goal

pub invariant_of-self-2 : goal.invariant_of-self-2
invariant_of-self-2 c =
    let h = c.self.inside.history in
    let same : c.append_jump.new.self.machine ≡ h.machine = ap (λ (k : HistoryState). k.machine) c.append_jump.ensures ∙ c.in_ok-reserve.ensures.machine in
    record {
      core = core_jumped h c.reserve.new.self c.append_jump.new.self _ c.args.to c.args.seen c.self.invariant.core c.in_ok-reserve.ensures.machine c.in_ok-reserve.ensures.past
          (omega (arith, c.in_ok-reserve.ensures.ok, c.room-places.ensures.room))
          (subst (λ (s : CoreState). time_of (entries s.past) < c.args.to) (sym c.self.view_is) c.requires.later) c.requires.small c.append_jump.ensures;
      plans_are = c.self.invariant.plans_are ∙ sym same;
      wakeup_is = c.self.invariant.wakeup_is ∙ ap (λ (m : Machine). map may_wake m.devices) (sym same);
      reports_are = c.self.invariant.reports_are ∙ sym (counts_more h c.reserve.new.self c.append_jump.new.self _ c.in_ok-reserve.ensures.machine c.in_ok-reserve.ensures.past c.append_jump.ensures);
    }
