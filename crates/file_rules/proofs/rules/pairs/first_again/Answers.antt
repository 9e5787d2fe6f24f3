-- Proof that `first_again` meets its contract, and that its loop keeps its invariant.
use Rattle.std.proofs.Common.{◌<◌, ◌∙◌, ◌&&◌, Bool, [], List, ap, sym, not, is_some, length, get_or, arith}
use Rattle.std.specs.List.{list_any}
use Rattle.std.proofs.lemmas.List.{get_or_default}
use Rattle.indexmap.specs.IndexMap.{get}
use Rattle.file_rules.specs.declared.rules.pairs.LinkEnds.{LinkEnds}
use Rattle.file_rules.specs.Seen.{ends_seen, differ}
use Rattle.file_rules.proofs.Placing.{later_here, later_next}
use Rattle.file_rules.proofs.Pairing.{twin, seen_more, again_test, flipped, kept}
use Rattle.file_rules.proofs.rules.pairs.first_again.Goals as goal

abbrev unset : LinkEnds
unset = record { supplier = record { ref_ptr = (0, 0); now = [] }; consumer = record { ref_ptr = (0, 0); now = [] } }

abbrev is_two : List LinkEnds → LinkEnds → Bool
is_two before e = differ (ends_seen e) && not (list_any (twin e) before)

pub returns-then-is_again : goal.returns-then-is_again
returns-then-is_again c =
    let within : c.loop-i.i < length c.args.ends.now = omega arith in
    let e = get_or c.args.ends.now c.loop-i.i unset in
    later_here is_two c.args.ends.now c.loop-i.i e within (get_or_default c.args.ends.now c.loop-i.i unset e within)
    (again_test c.args.ends.now e c.loop-i.i c.in-Ok.before (ap is_some c.in-Ok.ensures.old ∙ c.loop-i.invariant.1 e) ∙ flipped _ c.if-is_again.ensures)
    ∙ sym c.loop-i.invariant.0

pub loop-i-preserved : goal.loop-i-preserved
loop-i-preserved c =
    let within : c.loop-i.i < length c.args.ends.now = omega arith in
    let e = get_or c.args.ends.now c.loop-i.i unset in
    let is = get_or_default c.args.ends.now c.loop-i.i unset e within in (
      c.loop-i.invariant.0
          ∙ later_next is_two c.args.ends.now c.loop-i.i e within is
          (again_test c.args.ends.now e c.loop-i.i c.in-Ok.before (ap is_some c.in-Ok.ensures.old ∙ c.loop-i.invariant.1 e) ∙ kept _ c.if-is_again.ensures),
      seen_more c.args.ends.now c.loop-i.i e within is (get twin c.loop-i.seen) (get twin c.insert.new.self) c.loop-i.invariant.1 c.in-Ok.ensures.updates.0,
    )
