-- Proof by hand of `first_wrong`: what it returns and its loop, by the lemmas of `Sources`.
use Rattle.std.proofs.Common.{◌≡◌, ◌∙◌, ℕ, Some, take, sym, ap, subst, arith, true≢false}
use Rattle.std.proofs.lemmas.Option.{slice_get-get_or}
use Rattle.sleep_model.specs.Legal.{stats_of}
use Rattle.check_past.specs.Passing.{past_of}
use Rattle.log_check.proofs.Sources.{differ_here, own_stats, same_further, same_whole}
use Rattle.log_check.proofs.ending.first_wrong.Goals as goal

pub returns-then-not-is_same : goal.returns-then-not-is_same
returns-then-not-is_same c =
    differ_here c.args.past.now.machine (past_of c.args.past.now) c.args.logged.now c.loop-source.source _ c.in_ok-own.own c.requires.each c.loop-source-test.true c.loop-source.invariant
    (slice_get-get_or c.args.logged.now c.loop-source.source _ c.loop-source-test.true) c.in_ok-own.ensures (λ e. true≢false (sym (c.is_same.ensures.1 e) ∙ c.if-not-is_same.true))

pub loop-source-preserved : goal.loop-source-preserved
loop-source-preserved c =
    let is = c.is_same.ensures.0 c.if-not-is_same.false in
    same_further c.args.logged.now (stats_of c.args.past.now.machine (past_of c.args.past.now)) c.loop-source.source c.in_ok-own.own c.loop-source.invariant
    (slice_get-get_or c.args.logged.now c.loop-source.source _ c.loop-source-test.true ∙ ap (λ x. Some x) is)
    (own_stats c.args.past.now.machine (past_of c.args.past.now) c.loop-source.source (omega (arith, c.requires.each, c.loop-source-test.true)) ∙ ap (λ x. Some x) (sym c.in_ok-own.ensures))

pub returns : goal.returns
returns c =
    same_whole c.args.past.now.machine (past_of c.args.past.now) c.args.logged.now c.requires.each
    (subst (λ (k : ℕ). take k c.args.logged.now ≡ take k (stats_of c.args.past.now.machine (past_of c.args.past.now))) (omega (arith, c.loop-source-test.false, c.loop-source.auto.source-end)) c.loop-source.invariant)
