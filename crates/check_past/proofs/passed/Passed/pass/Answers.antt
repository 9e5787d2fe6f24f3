-- Proof by hand of `pass`: the call of `pass` and the invariants of its types, by the lemmas of `Passing`.
use Rattle.std.proofs.Common.{◌∙◌, List, ap, sym, subst, length}
use Rattle.sleep_model.specs.declared.entry.Entry.{Entry}
use Rattle.sleep_model.specs.EntryClasses.{journal}
use Rattle.check_account.proofs.Following.{placed}
use Rattle.check_past.specs.declared.journal.JournalState.{JournalState}
use Rattle.check_past.specs.declared.past_state.PastState.{PastState}
use Rattle.check_past.specs.PassedFields.{passage}
use Rattle.check_past.specs.Passing.{Holds, past_state_after, past_of}
use Rattle.check_past.proofs.Passing.{holds, more, then_next}
use Rattle.check_past.proofs.passed.Passed.pass.Goals as goal

pub pass-requires-clause-all : goal.pass-requires-clause-all
pass-requires-clause-all c =
    let f = c.self.inside in
    ap (λ (k : PastState). length k.journal.tasks.freezings) c.deref_mut.ensures.value
    ∙ ap (λ (x : JournalState). length x.tasks.freezings) c.self.invariant.holds.state ∙ placed f.machine.now.actors (journal (past_of (passage f)))

pub invariant_of-result : goal.invariant_of-result
invariant_of-result c =
    let f = c.self.inside in
    let there = rw (← c.self.view_is) at c.requires.next in
    record {
      holds = subst (λ (p : List Entry). Holds f.machine.now p c.pass.new.self)
          (sym (then_next f.passed c.in_ok-passed.passed f.entries.now c.args.e there c.in_ok-passed.ensures))
          (holds f.machine.now (past_of (passage f)) c.args.e f.past_state.value c.pass.new.self c.self.invariant.holds
          (c.in_ok-pass.ensures ∙ ap (λ (k : PastState). past_state_after f.machine.now c.args.e k) c.deref_mut.ensures.value));
      call_order = c.self.invariant.call_order;
      has_async = c.self.invariant.has_async;
      passage = record {
        accepted = c.self.invariant.passage.accepted;
        fits = c.self.invariant.passage.fits;
        within = more f.passed c.in_ok-passed.passed f.entries.now c.args.e there c.in_ok-passed.ensures;
      };
    }
