-- Proof that `WakeSource::call` meets its contract, and that it keeps the invariant of its type.
use Rattle.std.proofs.Common.{rules, ◌≤◌, ◌+◌, length, sym, subst}
use Rattle.wakeup_source.specs.SourceStates.{IsSettled}
use Rattle.wakeup_source.proofs.Called.{noted_call, told_source, own_call}
use Rattle.wakeup_source.proofs.Settled.{settles, call_short}
use Rattle.wakeup_source.proofs.source.WakeSource.call.Goals as goal

pub returns-clause-calls : goal.returns-clause-calls
returns-clause-calls g c =
    rw (← c.self.view_is, ← c.make_room.ensures.source)
    (noted_call c.args.by c.args.call _ _ _ c.look.ensures.notes c.make_steps.ensures.steps)

pub returns-clause-shown : goal.returns-clause-shown
returns-clause-shown g c =
    rw (← c.self.view_is, ← c.make_room.ensures.source)
    (told_source c.args.by c.args.call _ _ (noted_call c.args.by c.args.call _ _ _ c.look.ensures.notes c.make_steps.ensures.steps))

pub returns-clause-made : goal.returns-clause-made
returns-clause-made g c =
    rw (← c.self.view_is, ← c.make_room.ensures.source)
    (own_call c.args.by c.args.call _ _ (noted_call c.args.by c.args.call _ _ _ c.look.ensures.notes c.make_steps.ensures.steps))

pub returns-clause-settled : goal.returns-clause-settled
returns-clause-settled g c =
    settles c.args.by c.args.call _ _ (subst IsSettled (sym c.make_room.ensures.source) c.self.invariant.settled) c.in_ok-make_room.ensures.ready.time
    (let h = c.requires.may in rw (← c.self.view_is, ← c.make_room.ensures.source) at h) c.in_ok-make_room.ensures.ready.few
    (noted_call c.args.by c.args.call _ _ _ c.look.ensures.notes c.make_steps.ensures.steps)

pub invariant_of-self-2 : goal.invariant_of-self-2
invariant_of-self-2 g c =
    let short : length c.make_steps.new.self.source.past ≤ length c.make_room.new.self.source.past + 4 =
    call_short c.args.by c.args.call _ _ (noted_call c.args.by c.args.call _ _ _ c.look.ensures.notes c.make_steps.ensures.steps) in
    record {
      settled = returns-clause-settled g c;
      places = search rules;
      few = c.self.invariant.few;
    }
