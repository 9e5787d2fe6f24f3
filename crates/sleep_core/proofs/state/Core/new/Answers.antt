-- Proof that `Core::new` keeps the invariant of its type.
use Rattle.std.proofs.Common.{◌≡◌, ◌∙◌, [], map, length, ap, ap₂, sym, subst}
use Rattle.sleep_model.specs.declared.machine.Machine.{Machine}
use Rattle.sleep_model.specs.Runtime.{may_wake}
use Rattle.sleep_core.specs.CoreFields.{IsCore}
use Rattle.core_history.specs.Histories.{HistoryState}
use Rattle.sleep_core.specs.Reports.{none_reported, counts_of}
use Rattle.sleep_state.specs.JournalRooms.{entries}
use Rattle.sleep_core.proofs.Turning.{core_empty}
use Rattle.sleep_core.proofs.state.Core.new.Goals as goal

pub invariant_of-result : goal.invariant_of-result
invariant_of-result c =
    let m = c.args.plans.now in
    let is = c.machine-machine.ensures in
    let empty : c.in-Ok-new-2.history ≡ record { machine = m; past = []; room = 0 } = c.in-Ok-new-2.ensures ∙ ap (λ (x : Machine). history_seen x) is in
    record {
      core = subst IsCore (sym empty) (core_empty m c.requires.accepted);
      plans_are = sym (ap (λ (h : HistoryState). h.machine) empty);
      reports_are = c.in-Ok-new.ensures ∙ (ap₂ (λ n k. none_reported n k) (c.len.ensures ∙ ap (λ (x : Machine). length x.actors) is) (c.len-2.ensures ∙ ap (λ (x : Machine). length x.devices) is) ∙ sym (ap (λ (h : HistoryState). counts_of h.machine (entries h.past)) empty));
      wakeup_is = c.in-Ok.ensures ∙ (ap (map may_wake) (c.as_slice.ensures ∙ ap (λ (x : Machine). x.devices) is) ∙ sym (ap (λ (h : HistoryState). map may_wake h.machine.devices) empty));
    }
  where
    history_seen : Machine → HistoryState
    history_seen x = record { machine = x; past = []; room = 0 }
