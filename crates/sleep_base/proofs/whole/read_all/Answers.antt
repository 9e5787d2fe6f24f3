-- Proof that `read_all` meets its contract.
use Rattle.std.proofs.Common.{◌++◌, take, arith, length-append}
use Rattle.std.proofs.lemmas.Result.{err_from_is_err_and}
use Rattle.std.proofs.KnownBytes.{Consumes-trans}
use Rattle.sleep_base.proofs.whole.read_all.Goals as goal

pub returns-then-n-limit-clause-bytes : goal.returns-then-n-limit-clause-bytes
returns-then-n-limit-clause-bytes g c =
    let before = c.loop-bytes.bytes.items in
    let more = take c.in_ok-n.n c.read.new.buf in
    (before ++ more, Consumes-trans _ _ _ _ _ c.loop-bytes.invariant.taken c.in_ok-n.ensures.bytes.0, omega (arith, length-append before more, c.in_ok-n.ensures.bound))

pub returns-in_err-extend_from_slice-clause-bytes :
    goal.returns-in_err-extend_from_slice-clause-bytes
returns-in_err-extend_from_slice-clause-bytes g c =
    let before = c.loop-bytes.bytes.items in
    let more = take c.in_ok-n.n c.read.new.buf in
    let from = c.from_residual-in_err-extend_from_slice in
    let p = err_from_is_err_and from.result from.ensures.1 in
    rw (p.1, p.2) (before ++ more, Consumes-trans _ _ _ _ _ c.loop-bytes.invariant.taken c.in_ok-n.ensures.bytes.0, omega (arith, length-append before more, c.in_ok-n.ensures.bound))
