-- Proof by hand of `source_entry`: what it returns, by the lemmas of `Sourcing`.
use Rattle.std.proofs.Common.{Bool, IsTrue, ◌↔◌, subst, sym}
use Rattle.sleep_model.specs.EntryClasses.{class_of}
use Rattle.rule_definitions.specs.Source.{SourceEntry}
use Rattle.check_past.specs.Passing.{past_of}
use Rattle.check_rules.proofs.Sourcing.{source_is}
use Rattle.check_rules.proofs.source.source_entry.Goals as goal

pub returns : goal.returns
returns c =
    let m = c.args.past.now.machine in
    let past = past_of c.args.past.now in
    let e = c.args.e in
    subst (λ (b : Bool). IsTrue b ↔ SourceEntry m past e (class_of e.kind)) (sym c.both.ensures)
    (source_is m past e c.keeps_call.result c.have_room.result c.requires c.all_fit.ensures c.keeps_call.ensures c.have_room.ensures)
