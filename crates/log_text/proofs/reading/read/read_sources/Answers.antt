-- Proof by hand of `read_sources`: its loop and what it returns, by the lemmas of `Loops`.
use Rattle.std.proofs.Common.{◌≡◌, ◌∙◌, ℕ, List, ◌≤◌, ◌<◌, ◌++◌, ◌∷◌, ap, subst, length, get_or, arith}
use Rattle.sleep_model.specs.Text.{source_line}
use Rattle.log_text.specs.Faults.{AtLine, IsNoSource}
use Rattle.log_text.specs.Grammar.{lines}
use Rattle.log_text.proofs.Loops.{one_source, no_source_there, last_source_text, last_source_bad, no_last_source}
use Rattle.log_text.proofs.reading.read.read_sources.Goals as goal

pub loop-i-preserved : goal.loop-i-preserved
loop-i-preserved c =
    let m = c.args.machine.now in
    let name = c.bytes.result.now in
    let within : c.loop-i.i < length m.sources = let l = ap length c.as_slice-names.ensures in omega arith in
    let at : name ≡ get_or m.sources c.loop-i.i name = cc in
    let v = c.loop-i.invariant in
    let one = one_source m c.loop-i.i name within at c.loop-i.all.items c.in-Ok.stats c.args.bytes.now c.loop-i.left.now c.in-Ok.after_piece.now c.args.first c.loop-i.number c.in-Ok.following
    v.0 v.1 v.2 v.3 c.in-Ok.ensures.text c.in-Ok.ensures.lines c.in-Ok.ensures.fits c.in-Ok.ensures.number in
    rw c.push_reserved.ensures.items (one.0, one.1, one.2, one.3, c.push_reserved.ensures.capacity ∙ v.4)

pub returns-in-Err-clause-fault : goal.returns-in-Err-clause-fault
returns-in-Err-clause-fault c =
    let m = c.args.machine.now in
    let name = c.bytes.result.now in
    let within : c.loop-i.i < length m.sources = let l = ap length c.as_slice-names.ensures in omega arith in
    let at : name ≡ get_or m.sources c.loop-i.i name = cc in
    no_source_there m c.loop-i.i name within at c.args.bytes.now c.loop-i.left.now c.args.first c.loop-i.number c.in-Err.fault
    c.loop-i.invariant.3 c.in-Err.ensures.line c.in-Err.ensures.fault

pub returns-in-Ok-read_source-clause-text : goal.returns-in-Ok-read_source-clause-text
returns-in-Ok-read_source-clause-text c =
    let m = c.args.machine.now in
    let v = c.loop-i.invariant in
    let l = ap length c.as_slice-names.ensures in
    let end : length m.sources ≤ c.loop-i.i = omega arith in
    let most : c.loop-i.i ≤ length m.sources = omega arith in
    rw c.push_reserved-in-Ok-read_source.ensures.items
    (last_source_text m c.loop-i.i end c.loop-i.all.items c.args.bytes.now c.loop-i.left.now c.args.first c.loop-i.number v.0 v.1 v.3 most c.in-Ok-read_source.stats c.in-Ok-read_source.after_piece.now
    (c.in-Ok-read_source.ensures.text ∙ ap (λ (name : List ℕ). source_line name c.in-Ok-read_source.stats ++ c.in-Ok-read_source.after_piece.now) c.as_bytes.ensures.value))

pub returns-in-Ok-read_source-clause-bad : goal.returns-in-Ok-read_source-clause-bad
returns-in-Ok-read_source-clause-bad c =
    let m = c.args.machine.now in
    let v = c.loop-i.invariant in
    let l = ap length c.as_slice-names.ensures in
    let end : length m.sources ≤ c.loop-i.i = omega arith in
    last_source_bad m c.loop-i.i end c.loop-i.all.items c.args.bytes.now c.loop-i.left.now c.args.first c.loop-i.number v.0 v.1 v.3 c.in-Ok-read_source.stats c.in-Ok-read_source.after_piece.now
    c.in-Ok-read_source.following
    (c.in-Ok-read_source.ensures.lines ∙ ap (λ (name : List ℕ). source_line name c.in-Ok-read_source.stats ∷ lines c.in-Ok-read_source.after_piece.now) c.as_bytes.ensures.value)
    c.in-Ok-read_source.ensures.fits c.in-Ok-read_source.ensures.number

pub returns-clause-fault : goal.returns-clause-fault
returns-clause-fault c =
    let m = c.args.machine.now in
    let v = c.loop-i.invariant in
    let l = ap length c.as_slice-names.ensures in
    let end : length m.sources ≤ c.loop-i.i = omega arith in
    no_last_source m c.loop-i.i end c.loop-i.all.items c.args.bytes.now c.loop-i.left.now c.args.first c.loop-i.number v.0 v.1 v.3 c.in-Err-read_source.fault c.in-Err-read_source.ensures.line
    (subst (λ (name : List ℕ). AtLine c.in-Err-read_source.fault (λ k. IsNoSource name (lines c.loop-i.left.now))) c.as_bytes.ensures.value c.in-Err-read_source.ensures.fault)
