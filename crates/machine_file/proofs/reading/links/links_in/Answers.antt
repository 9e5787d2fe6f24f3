-- Proof that the loop of `links_in` keeps its invariant, and why it stops.
use Rattle.std.proofs.Common.{arith}
use Rattle.std.proofs.lemmas.Result.{err_from_is_err_and}
use Rattle.file_rules.specs.Kept.{is_valid_link}
use Rattle.file_rules.specs.Knows.{names}
use Rattle.file_rules.specs.Spelled.{link_of}
use Rattle.machine_file.proofs.Passed.{all_passed, one_more, stops_all}
use Rattle.machine_file.proofs.reading.links.links_in.Goals as goal

pub loop-link-preserved : goal.loop-link-preserved
loop-link-preserved c = (
  all_passed (is_valid_link c.args.second (names c.args.devices.now)) c.args.links.now c.loop-link.link-index c.link-item.result (omega arith) c.link-item.is
      c.loop-link.invariant.0 c.in_ok-link_in.ensures.valid,
  one_more (link_of (names c.args.devices.now)) c.args.links.now c.loop-link.link-index c.link-item.result (omega arith) c.link-item.is c.loop-link.all.items c.push.new.self.items
      c.in_ok-link_in.field-0 c.loop-link.invariant.1 c.in_ok-link_in.ensures.spells c.in_ok-push.ensures.items,
)

pub returns-in_err-link_in-clause-err : goal.returns-in_err-link_in-clause-err
returns-in_err-link_in-clause-err c =
    let p = err_from_is_err_and c.from_residual-in_err-link_in.result c.from_residual-in_err-link_in.ensures.1 in
    rw (p.1, p.2) (stops_all (is_valid_link c.args.second (names c.args.devices.now)) c.args.links.now c.loop-link.link-index c.link-item.result (omega arith) c.link-item.is _ c.in_err-link_in.ensures.err)
