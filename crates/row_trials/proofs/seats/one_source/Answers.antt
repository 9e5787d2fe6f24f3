-- Proof by hand of `one_source`: what it returns, by the lemmas of `Ones`.
use Rattle.std.proofs.Common.{◌≡◌, length, arith}
use Rattle.row_trials.proofs.Ones.{first}
use Rattle.row_trials.proofs.seats.one_source.Goals as goal

pub returns-clause-source : goal.returns-clause-source
returns-clause-source c =
    let one : length c.in_ok-table.sources.items ≡ 1 = omega (arith, c.in_ok-table.ensures.count.0, c.in_ok-table.sources.ok.0) in
    (first c.in_ok-table.look.token c.in_ok-table.sources.items c.pop.new.self.items c.in-Some.source c.in-Some.ensures.items one c.in_ok-table.ensures.sources c.in_ok-table.ensures.seats).source

pub returns-clause-seat : goal.returns-clause-seat
returns-clause-seat c =
    let one : length c.in_ok-table.sources.items ≡ 1 = omega (arith, c.in_ok-table.ensures.count.0, c.in_ok-table.sources.ok.0) in
    (first c.in_ok-table.look.token c.in_ok-table.sources.items c.pop.new.self.items c.in-Some.source c.in-Some.ensures.items one c.in_ok-table.ensures.sources c.in_ok-table.ensures.seats).seat
