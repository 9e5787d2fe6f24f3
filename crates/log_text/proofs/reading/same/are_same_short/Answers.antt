-- Two words that overlap are all of the text.
use Rattle.std.proofs.Common.{arith}
use Rattle.std.proofs.lemmas.Bool.{OnTrue_at, OnTrue_from}
use Rattle.log_text.proofs.Same.{same_by_ends}
use Rattle.log_text.proofs.reading.same.are_same_short.Goals as goal

pub returns-then-are_first_4 : goal.returns-then-are_first_4
returns-then-are_first_4 c = OnTrue_from _ _ (λ is. same_by_ends 4 _ _ c.requires.same (omega (arith, c.in-4-to-7)) (omega (arith, c.in-4-to-7)) c.if-are_first_4.ensures (OnTrue_at is c.are_last_4.ensures))

pub returns-then-are_first_8 : goal.returns-then-are_first_8
returns-then-are_first_8 c = OnTrue_from _ _ (λ is. same_by_ends 8 _ _ c.requires.same (omega (arith, c.in-8-to-16)) (omega (arith, c.in-8-to-16)) c.if-are_first_8.ensures (OnTrue_at is c.are_last_8.ensures))
