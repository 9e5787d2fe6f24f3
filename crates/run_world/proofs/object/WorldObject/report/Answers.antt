-- Proof that `WorldObject::report` meets its contract.
use Rattle.std.proofs.Common.{◌+◌, ap, sym, subst}
use Rattle.turn_lock.specs.Passes.{HasGrown, gained}
use Rattle.run_world.specs.declared.object.WorldObject.{WorldObject}
use Rattle.run_world.specs.declared.object.WorldObject.TheVariants as object
use Rattle.run_world.specs.Objects.{notes_of, root_of}
use Rattle.run_world.specs.Outcomes.{AfterReport}
use Rattle.run_world.proofs.Reports.{report_after, report_grown}
use Rattle.run_world.proofs.object.WorldObject.report.Goals as goal

pub returns-clause-grown : goal.returns-clause-grown
returns-clause-grown g c =
    subst (λ (y : WorldObject). HasGrown root_of notes_of (notes_of y) (object.Source c.report.new.self)) (sym c.in-Source.is)
    (report_grown c.args.by c.args.call c.in-Source.source c.report.new.self c.report.result c.report.ensures.after)

pub returns-clause-after : goal.returns-clause-after
returns-clause-after g c =
    let past = c.in-Source.source.source.source.past in (
      past,
      ap notes_of c.in-Source.is,
      subst (λ (y : WorldObject). AfterReport c.args.by c.args.call (root_of y).number past c.report.result (gained root_of notes_of (1 + (root_of y).number) (notes_of y) (object.Source c.report.new.self))) (sym c.in-Source.is)
          (report_after c.args.by c.args.call c.in-Source.source c.report.new.self c.report.result c.report.ensures.after),
    )
