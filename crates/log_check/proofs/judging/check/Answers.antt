-- Proof by hand of `check`: the call of `broken`, what it returns and the rest, by the lemmas of `Entries`.
use Rattle.std.proofs.Common.{◌∙◌, sym, subst}
use Rattle.std.proofs.lemmas.Result.{IfOk-weaker}
use Rattle.sleep_model.specs.declared.machine.Machine.{Machine}
use Rattle.rule_definitions.specs.Entry.{KeepsEach}
use Rattle.sleep_model.specs.Interleaved.{unread}
use Rattle.check_past.specs.Passing.{past_of}
use Rattle.log_check.proofs.Entries.{all_preserved, bad_entry, fits_here, here, preserved_then, left_then, may_link, same_entries, same_machine, whole}
use Rattle.log_check.proofs.judging.check.Goals as goal

pub broken-requires-clause-fits : goal.broken-requires-clause-fits
broken-requires-clause-fits c =
    let i = c.loop-e.invariant in
    fits_here c.args.machine.now c.args.log.now c.loop-e.past i.machine i.entries i.kept c.in-Some.e (unread c.next.new.self) (sym i.left ∙ c.in-Some.ensures) c.requires.fits

pub broken-requires-clause-kept : goal.broken-requires-clause-kept
broken-requires-clause-kept c =
    let i = c.loop-e.invariant in
    subst (λ (k : Machine). KeepsEach k (past_of c.loop-e.past)) (sym i.machine) i.kept

pub returns-in-Ok-Some : goal.returns-in-Ok-Some
returns-in-Ok-Some c =
    let i = c.loop-e.invariant in
    IfOk-weaker c.bad-verdict.result _ _ (λ v is. bad_entry c.args.machine.now c.args.log.now c.loop-e.past i.machine i.entries i.kept c.in-Some.e (unread c.next.new.self) (sym i.left ∙ c.in-Some.ensures)
    c.in-Ok-Some.field-0 c.in-Ok-Some.definition c.passed.result v c.in-Ok-Some.ensures c.in-Ok-Some.field-0-is c.passed.ensures is) c.bad-verdict.ensures

pub pass-requires-clause-next : goal.pass-requires-clause-next
pass-requires-clause-next c =
    let i = c.loop-e.invariant in
    here c.args.machine.now c.args.log.now c.loop-e.past i.machine i.entries i.kept c.in-Some.e (unread c.next.new.self) (sym i.left ∙ c.in-Some.ensures)

pub pass-requires-clause-link : goal.pass-requires-clause-link
pass-requires-clause-link c =
    let i = c.loop-e.invariant in
    may_link c.args.machine.now c.args.log.now c.loop-e.past i.machine i.entries i.kept c.in-Some.e (unread c.next.new.self) (sym i.left ∙ c.in-Some.ensures)
    c.in-Ok-None.field-0 c.in-Ok-None.ensures c.in-Ok-None.field-0-is c.requires.accepted c.requires.fits

pub loop-e-preserved : goal.loop-e-preserved
loop-e-preserved c =
    let i = c.loop-e.invariant in
    let m = c.args.machine.now in
    let log = c.args.log.now in
    let p = c.loop-e.past in
    let e = c.in-Some.e in
    let rest = unread c.next.new.self in
    let left = sym i.left ∙ c.in-Some.ensures in
    let q = c.in_ok-past-in-Ok-None.past in
    record {
      machine = same_machine m log p i.machine i.entries i.kept e rest left c.in-Ok-None.field-0 c.in-Ok-None.ensures c.in-Ok-None.field-0-is q c.in_ok-past-in-Ok-None.ensures;
      entries = same_entries m log p i.machine i.entries i.kept e rest left c.in-Ok-None.field-0 c.in-Ok-None.ensures c.in-Ok-None.field-0-is q c.in_ok-past-in-Ok-None.ensures;
      kept = preserved_then m log p i.machine i.entries i.kept e rest left c.in-Ok-None.field-0 c.in-Ok-None.ensures c.in-Ok-None.field-0-is q c.in_ok-past-in-Ok-None.ensures;
      left = left_then m log p i.machine i.entries i.kept e rest left c.in-Ok-None.field-0 c.in-Ok-None.ensures c.in-Ok-None.field-0-is q c.in_ok-past-in-Ok-None.ensures;
    }

pub judge_end-verdict-requires-clause-all : goal.judge_end-verdict-requires-clause-all
judge_end-verdict-requires-clause-all c =
    let i = c.loop-e.invariant in
    whole c.args.machine.now c.args.log.now c.loop-e.past i.machine i.entries i.kept (sym c.in_default.ensures.0 ∙ i.left)

pub judge_end-verdict-requires-clause-kept : goal.judge_end-verdict-requires-clause-kept
judge_end-verdict-requires-clause-kept c =
    let i = c.loop-e.invariant in
    all_preserved c.args.machine.now c.args.log.now c.loop-e.past i.machine i.entries i.kept (sym c.in_default.ensures.0 ∙ i.left)
