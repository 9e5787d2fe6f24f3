-- Proof by hand of `put_sources`: its loop and what it returns, by the lemmas of `Sources`.
use Rattle.std.proofs.Common.{rules, arith, ◌≡◌, ◌∙◌, ap, ℕ, ◌<◌, ◌≤◌, length, List, ◌++◌, get_or, min, length-append}
use Rattle.std.proofs.lemmas.Slice.Zip.{zip_turn, zip_end}
use Rattle.std.proofs.lemmas.Grind.{common_steps}
use Rattle.sleep_model.specs.declared.log.Stats.{Stats}
use Rattle.sleep_model.specs.Text.{source_line}
use Rattle.std.proofs.lemmas.Result.{IfOk-equal}
use Rattle.log_text.proofs.Sources.{written_more, written_last, written_all}
use Rattle.log_text.proofs.writing.log.put_sources.Goals as goal

pub loop-name-preserved : goal.loop-name-preserved
loop-name-preserved c =
    let names = c.as_slice-names.result.now in
    let stats = c.args.stats.now in
    let k = length c.loop-name.yielded in
    let turn : (k < length names) × (k < length stats) × ((d : List ℕ) → c.in-Some.name.now ≡ get_or names k d) × ((d : Stats) → c.in-Some.own.now ≡ get_or stats k d) = zip_turn names stats c.loop-name.yielded c.into_iter-name-iterator.result c.loop-name.name-iterator c.next.new.self c.next.result (search rules) (search rules) c.loop-name.yielded_by (c.in-Some.name, c.in-Some.own) c.in-Some.is c.next.ensures.steps in
    rw (length-append, c.in_ok-put_source.ensures, c.bytes.ensures)
    (written_more names stats k _ _ c.in-Some.name.now c.in-Some.own.now turn.0 turn.1 (turn.2 c.in-Some.name.now) (turn.3 c.in-Some.own.now) c.loop-name.invariant)

pub returns-in-Some-get : goal.returns-in-Some-get
returns-in-Some-get c =
    let names = c.as_slice-names.result.now in
    let stats = c.args.stats.now in
    let own = c.in-Some-get.own.now in
    let end : length c.loop-name.yielded ≡ min (length names) (length stats) = zip_end names stats c.loop-name.yielded c.into_iter-name-iterator.result c.loop-name.name-iterator c.next.new.self c.next.result (search rules) (search rules) c.loop-name.yielded_by c.in-None.is c.next.ensures.steps in
    let below : length names < length stats = grind (arith, common_steps) in
    let at_own : own ≡ get_or stats (length names) own = grind (arith, common_steps) in
    IfOk-equal _ _ _ _ c.put_source-in-Some-get.ensures
    (rw (← c.as_slice-names.ensures)
    (ap (λ (name : List ℕ). c.loop-name.out ++ source_line name own) c.as_bytes.ensures.value ∙ written_last names stats _ _ _ own end below at_own c.loop-name.invariant))

pub returns-in-None-get : goal.returns-in-None-get
returns-in-None-get c =
    let names = c.as_slice-names.result.now in
    let stats = c.args.stats.now in
    let end : length c.loop-name.yielded ≡ min (length names) (length stats) = zip_end names stats c.loop-name.yielded c.into_iter-name-iterator.result c.loop-name.name-iterator c.next.new.self c.next.result (search rules) (search rules) c.loop-name.yielded_by c.in-None.is c.next.ensures.steps in
    let above : length stats ≤ length names = grind (arith, common_steps) in
    rw (← c.as_slice-names.ensures) (written_all names stats _ _ _ end above c.loop-name.invariant)
