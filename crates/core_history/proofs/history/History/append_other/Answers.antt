-- Proof that `History::append_other` keeps the invariant of its type.
use Rattle.std.proofs.Common.{ℕ, refl, sym, subst}
use Rattle.sleep_model.specs.declared.entry.Entry.{Entry}
use Rattle.sleep_model.specs.Numbers.{time_of}
use Rattle.sleep_state.specs.JournalRooms.{entries}
use Rattle.core_history.specs.Histories.{HistoryState, Settles, entry_now}
use Rattle.core_history.proofs.Parting.{time_stays}
use Rattle.core_history.proofs.history.History.append_other.Goals as goal

pub invariant_of-self-2 : goal.invariant_of-self-2
invariant_of-self-2 c =
    let h = c.self.inside in
    let i = c.self.invariant in
    let past = entries h.journal.past in
    let e : Entry = record { time = h.time; now = c.args.now; actor = c.args.actor; kind = c.args.kind } in
    let settled = subst (λ (t : ℕ). Settles h.machine.now past (record { time = t; now = c.args.now; actor = c.args.actor; kind = c.args.kind })) (sym i.time_is)
    (subst (λ (k : HistoryState). Settles k.machine (entries k.past) (entry_now k c.args.now c.args.actor c.args.kind)) (sym c.self.view_is) c.requires.board) in
    rw c.put.ensures (record {
      few = i.few;
      small = i.small;
      last_is = refl;
      time_is = time_stays c.args.kind h.time (time_of past) i.time_is;
      components_are = c.in_ok-note_other.ensures.ok h.machine.now past settled i.components_are;
    })
