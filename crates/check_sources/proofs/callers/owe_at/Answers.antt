-- Proof by hand of `owe_at`: what it returns, by the lemmas of `Owing`.
use Rattle.std.proofs.Common.{◌≡◌, length, arith}
use Rattle.std.proofs.lemmas.Bool.Decides.{nat_tests}
use Rattle.check_sources.proofs.Owing.{none_owed}
use Rattle.check_sources.proofs.callers.owe_at.Goals as goal

pub returns-then-is_empty-2 : goal.returns-then-is_empty-2
returns-then-is_empty-2 c =
    let reports : length c.args.reports.now ≡ 0 = grind (arith, nat_tests) in
    let after : length c.args.after.now ≡ 0 = grind (arith, nat_tests) in
    none_owed c.args.later.now.items c.args.place c.args.reports.now c.args.after.now reports after
