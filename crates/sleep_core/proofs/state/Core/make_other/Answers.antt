-- Proof that `Core::make` meets its contract, and that it keeps the invariant of its type, and that it meets what `append` and `add`
-- require.
use Rattle.std.proofs.Common.{◌≡◌, ◌∙◌, ◌||◌, List, map, ap, ap₂, refl, sym, subst, arith}
use Rattle.sleep_model.specs.declared.entry.Entry.{Entry}
use Rattle.sleep_model.specs.declared.entry.JournalEntry.{JournalEntry}
use Rattle.sleep_model.specs.declared.progress.Due.TheVariants.{Makes}
use Rattle.sleep_model.specs.declared.machine.Machine.{Machine}
use Rattle.sleep_model.specs.Runtime.{may_wake}
use Rattle.core_history.specs.Histories.{HistoryState, Settles}
use Rattle.sleep_model.specs.Devices.{is_device}
use Rattle.sleep_model.specs.Due.{due}
use Rattle.sleep_model.specs.Numbers.{time_of}
use Rattle.sleep_model.specs.Path.{is_actor, maker}
use Rattle.sleep_state.specs.JournalRooms.{entries}
use Rattle.sleep_core.specs.Cores.{CoreState, IsActor}
use Rattle.sleep_core.specs.CoreFields.{IsCore}
use Rattle.core_history.specs.Numbered.{NumbersStayInRange}
use Rattle.sleep_core.specs.Reports.{counts_of}
use Rattle.sleep_core.proofs.Linked.{settles}
use Rattle.sleep_core.proofs.Reporting.{counts_same}
use Rattle.sleep_core.proofs.Turning.{counted_outside, admits_more, core_more, core_preserved, core_seen}
use Rattle.sleep_core.proofs.state.Core.make_other.Goals as goal

pub returns-then-not-leaves-clause-err : goal.returns-then-not-leaves-clause-err
returns-then-not-leaves-clause-err c =
    let s = c.args.self.now in
    let outside = counted_outside s.machine (entries s.past) c.args.now c.args.who c.args.kind c.requires.due c.if-not-leaves.ensures.counted in
    (outside.0, outside.1, refl)

pub returns-in_default-clause-err : goal.returns-in_default-clause-err
returns-in_default-clause-err c =
    let s = c.args.self.now in
    let has = c.in-Ok.ensures.ok in
    let same = c.in_default.ensures.err in
    let outside = counted_outside s.machine (entries s.past) c.args.now c.args.who c.args.kind c.requires.due same.0 in
    (outside.0, outside.1, core_seen c.self.inside.history c.make_room.new.self c.append.new.self has.machine has.past same.1 ∙ c.self.view_is)

pub append-requires : goal.append-requires
append-requires c =
    let h = c.self.inside.history in
    let has = c.in-Ok.ensures.ok in
    let e : Entry = record { time = time_of (entries c.make_room.new.self.past); now = c.args.now; actor = c.args.who; kind = c.args.kind } in
    let makes = subst (λ (s : CoreState). due s.machine (entries s.past) c.args.who c.args.now ≡ Makes c.args.kind) (sym c.self.view_is) c.requires.due in
    record {
      other = c.requires.other;
      admits = admits_more h c.make_room.new.self e c.is_own-own.result c.self.invariant.core makes
          (subst (λ (s : CoreState). NumbersStayInRange s.machine c.args.kind (entries s.past)) (sym c.self.view_is) c.if-not-leaves.ensures.fits)
          (subst (λ (s : CoreState). c.is_own-own.result ≡ (is_actor c.args.who (maker (entries s.past)) || is_device c.args.who)) (sym c.self.view_is) c.is_own-own.ensures)
          has (omega (arith, c.len-made.ensures.len, c.len-made.ensures.small));
      board = subst (λ (x : Machine). Settles x (entries c.make_room.new.self.past) e) (sym has.machine)
          (subst (λ (xs : List JournalEntry). Settles h.machine (entries xs) e) (sym has.past)
          (settles h.machine (entries h.past) c.self.invariant.core.legal (time_of (entries c.make_room.new.self.past)) c.args.now c.args.who c.args.kind makes));
    }

pub invariant_of-self-2 : goal.invariant_of-self-2
invariant_of-self-2 c =
    let h = c.self.inside.history in
    let has = c.in-Ok.ensures.ok in
    let same : c.append.new.self.machine ≡ h.machine = ap (λ (k : HistoryState). k.machine) c.in-Ok-append.ensures.ok ∙ has.machine in
    record {
      core = core_more h c.make_room.new.self c.append.new.self (record { stamp = c.args.stamp; entry = record { time = time_of (entries c.make_room.new.self.past); now = c.args.now; actor = c.args.who; kind = c.args.kind } }) c.is_own-own.result c.self.invariant.core
          (subst (λ (s : CoreState). IsActor s.machine c.args.who) (sym c.self.view_is) c.requires.actor)
          (subst (λ (s : CoreState). due s.machine (entries s.past) c.args.who c.args.now ≡ Makes c.args.kind) (sym c.self.view_is) c.requires.due)
          (ap (λ (xs : List JournalEntry). time_of (entries xs)) has.past)
          (subst (λ (s : CoreState). NumbersStayInRange s.machine c.args.kind (entries s.past)) (sym c.self.view_is) c.if-not-leaves.ensures.fits).attempts
          (subst (λ (s : CoreState). c.is_own-own.result ≡ (is_actor c.args.who (maker (entries s.past)) || is_device c.args.who)) (sym c.self.view_is) c.is_own-own.ensures)
          has c.in-Ok-append.ensures.ok;
      plans_are = c.self.invariant.plans_are ∙ sym same;
      wakeup_is = c.self.invariant.wakeup_is ∙ ap (λ (m : Machine). map may_wake m.devices) (sym same);
      reports_are = c.self.invariant.reports_are ∙ sym (counts_same h c.make_room.new.self c.append.new.self (record { stamp = c.args.stamp; entry = record { time = time_of (entries c.make_room.new.self.past); now = c.args.now; actor = c.args.who; kind = c.args.kind } }) c.requires.other has.machine has.past c.in-Ok-append.ensures.ok);
    }

pub invariant_of-self-in_default : goal.invariant_of-self-in_default
invariant_of-self-in_default c =
    let h = c.self.inside.history in
    let has = c.in-Ok.ensures.ok in
    let history_seen = c.in_default.ensures.err.1 in
    let same : c.append.new.self.machine ≡ h.machine = ap (λ (k : HistoryState). k.machine) history_seen ∙ has.machine in
    let past : c.append.new.self.past ≡ h.past = ap (λ (k : HistoryState). k.past) history_seen ∙ has.past in
    record {
      core = subst (λ (k : HistoryState). IsCore k) (sym history_seen) (core_preserved h c.make_room.new.self c.self.invariant.core has.machine has.past has.grows);
      plans_are = c.self.invariant.plans_are ∙ sym same;
      wakeup_is = c.self.invariant.wakeup_is ∙ ap (λ (m : Machine). map may_wake m.devices) (sym same);
      reports_are = c.self.invariant.reports_are ∙ ap₂ (λ m (xs : List JournalEntry). counts_of m (entries xs)) (sym same) (sym past);
    }
