-- What each piece of the text writes, one after the other, is the text of the ending.
use Rattle.std.proofs.Common.{◌≡◌, ◌∙◌, ◌++◌, ℕ, List, ap, subst}
use Rattle.sleep_base.specs.Whole.{WriteAll}
use Rattle.program_ending.specs.Endings.{colon_of, head_of, name_of, number_of, tail_of}
use Rattle.program_ending.proofs.Saying.{text_parts}
use Rattle.program_ending.proofs.standard_error.write_ending.Goals as goal

pub returns : goal.returns
returns g c =
    let e = c.args.ending.now in
    let n = c.number-number.result.now in
    let front = c.as_bytes-colon.result.now in
    let name = c.name-name.result.now in
    let back = c.as_bytes-tail.result.now in
    let head : c.as_bytes-head.result.now ≡ head_of e = c.as_bytes-head.ensures.value ∙ c.head.ensures in
    let colon : front ≡ colon_of e = c.as_bytes-colon.ensures.value ∙ c.colon.ensures in
    let tail : back ≡ tail_of e = c.as_bytes-tail.ensures.value ∙ c.tail.ensures in
    let all = ap (λ (bs : List ℕ). ((bs ++ n) ++ front) ++ (name ++ back)) head
    ∙ (ap (λ (bs : List ℕ). ((head_of e ++ bs) ++ front) ++ (name ++ back)) c.number-number.ensures
    ∙ (ap (λ (bs : List ℕ). ((head_of e ++ number_of e) ++ bs) ++ (name ++ back)) colon
    ∙ (ap (λ (bs : List ℕ). ((head_of e ++ number_of e) ++ colon_of e) ++ (bs ++ back)) c.name-name.ensures
    ∙ (ap (λ (bs : List ℕ). ((head_of e ++ number_of e) ++ colon_of e) ++ (name_of e ++ bs)) tail ∙ text_parts e)))) in
    subst (λ (bs : List ℕ). WriteAll (g.K.ByteSink.written c.args.sink.now) (g.K.ByteSink.written c.write_five.new.sink) (g.K.ByteSink.faults c.args.sink.now) (g.K.ByteSink.faults c.write_five.new.sink) bs c.write_five.result)
    all c.write_five.ensures
