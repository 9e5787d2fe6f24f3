-- Proof that the loop of `numbers_of_all` keeps its invariant.
use Rattle.std.proofs.Common.{◌<◌, [], length, get_or, arith}
use Rattle.std.proofs.lemmas.List.{get_or_default}
use Rattle.file_rules.specs.declared.rules.pairs.LinkEnds.{LinkEnds}
use Rattle.file_rules.specs.Knows.{names}
use Rattle.file_rules.proofs.Pairing.{placed_more}
use Rattle.file_rules.proofs.rules.pairs.numbers_of_all.Goals as goal

abbrev unset : LinkEnds
unset = record { supplier = record { ref_ptr = (0, 0); now = [] }; consumer = record { ref_ptr = (0, 0); now = [] } }

pub loop-link-preserved : goal.loop-link-preserved
loop-link-preserved c =
    let within : c.loop-link.link-index < length c.args.ends.now = omega arith in
    let e = get_or c.args.ends.now c.loop-link.link-index unset in
    placed_more (names c.args.devices.now) c.args.ends.now c.loop-link.link-index e c.loop-link.places.items c.push.new.self.items c.place_of.result within
    (get_or_default c.args.ends.now c.loop-link.link-index unset e within) c.loop-link.invariant c.place_of.ensures c.in_ok-push.ensures.items
