-- The next of a journal is the first that is left of it.
use Rattle.std.proofs.Common.{◌∙◌, ap, sym}
use Rattle.sleep_model.specs.Merge.{of_source}
use Rattle.log_merge.specs.Remainders.{leads_next}
use Rattle.apart_log.specs.Merged.{is_others_turn}
use Rattle.apart_log.proofs.Merging.{leads_same}
use Rattle.apart_log.proofs.others.Others.are_next.Goals as goal

pub returns-in-Some : goal.returns-in-Some
returns-in-Some c =
    let first = of_source c.in-Some.other.now in
    let journal = c.args.journal.now in
    c.leads.ensures
    ∙ (ap (leads_next first) c.peek.ensures ∙ (leads_same first journal ∙ ap (is_others_turn journal) (sym c.in-Some.ensures)))
