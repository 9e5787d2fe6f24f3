-- Proof by hand of `write_texts`: what it returns.
use Rattle.std.proofs.Common.{◌≡◌, ◌++◌, ℕ, List, Err, ap, subst, sym}
use Rattle.std.proofs.lemmas.Result.{err_from_is_err_and}
use Rattle.std.specs.Io.KnownBytes.{Appends}
use Rattle.sleep_base.specs.Whole.{WriteAll}
use Rattle.sleep_base.proofs.Written.{both_written, one_failed}
use Rattle.apart_log.specs.Slices.{joined_texts}
use Rattle.apart_log.proofs.text.+write_texts.Goals as goal

pub returns-in_err-write_all-in-Some-clause-bytes : goal.returns-in_err-write_all-in-Some-clause-bytes
returns-in_err-write_all-in-Some-clause-bytes g t c =
    let K = g.K.ByteSink in
    let sink = c.write_all.new.sink in
    let p = err_from_is_err_and c.from_residual.result c.from_residual.ensures.1 in
    let first : joined_texts c.args.texts.now ≡ c.in-Some.text.now.items ++ joined_texts c.in-Some.rest.now = ap joined_texts c.in-Some.ensures.cases.0 in
    rw p.1 (subst (λ (bytes : List ℕ). WriteAll (K.written c.args.sink.now) (K.written sink) (K.faults c.args.sink.now) (K.faults sink) bytes (Err _)) (sym first)
    (one_failed _ _ _ _ _ (joined_texts c.in-Some.rest.now) _ (subst (λ (bytes : List ℕ). WriteAll (K.written c.args.sink.now) (K.written sink) (K.faults c.args.sink.now) (K.faults sink) bytes (Err _)) c.as_slice.ensures.value c.in_err-write_all-in-Some.ensures.bytes)))

pub returns-in_ok-write_all-in-Some-clause-bytes : goal.returns-in_ok-write_all-in-Some-clause-bytes
returns-in_ok-write_all-in-Some-clause-bytes g t c =
    let K = g.K.ByteSink in
    let sink = c.write_texts.new.sink in
    let first : joined_texts c.args.texts.now ≡ c.in-Some.text.now.items ++ joined_texts c.in-Some.rest.now = ap joined_texts c.in-Some.ensures.cases.0 in
    subst (λ (bytes : List ℕ). WriteAll (K.written c.args.sink.now) (K.written sink) (K.faults c.args.sink.now) (K.faults sink) bytes c.write_texts.result) (sym first)
    (both_written _ _ _ _ _ _ _ _ _ (subst (Appends (K.written c.args.sink.now) (K.written c.write_all.new.sink)) c.as_slice.ensures.value c.in_ok-write_all-in-Some.ensures.bytes) c.write_all.ensures.faults c.write_texts.ensures.bytes)
