-- Proof by hand of `keeps_walk_in`: what it returns, by the lemmas of `Walking`.
use Rattle.std.proofs.Common.{◌↔◌, IsTrue, subst, sym}
use Rattle.rule_definitions.specs.Walk.{KeepsWalk, WalkEntry}
use Rattle.sleep_model.specs.declared.word.EventNow.{EventNow}
use Rattle.check_sources.specs.declared.class.EntryClass.{EntryClass}
use Rattle.check_sources.specs.Classes.{meant}
use Rattle.check_past.specs.Passing.{journal_of, past_of}
use Rattle.check_rules.proofs.Walking.{walk_journal}
use Rattle.check_rules.proofs.entries.keeps_walk_in.Goals as goal

pub returns-in_ok-made-in-Journal : goal.returns-in_ok-made-in-Journal
returns-in_ok-made-in-Journal c =
    let m = c.args.past.now.machine in
    let past = past_of c.args.past.now in
    let e = c.args.e in
    let b = c.both-in-Journal.result in
    subst (λ (k : EntryClass). IsTrue b ↔ WalkEntry m past e (meant k)) (sym c.in-Journal.is)
    (walk_journal m past e c.keeps_walk-walk.result c.in_ok-made-in-Journal.made c.ends_callback-ends.result c.both.result b c.both-in-Journal.ensures c.both.ensures
    (subst (λ (w : EventNow). IsTrue c.keeps_walk-walk.result ↔ KeepsWalk m (journal_of c.args.past.now) w e.kind) c.word.ensures c.keeps_walk-walk.ensures)
    c.in_ok-made-in-Journal.ensures c.ends_callback-ends.ensures)
