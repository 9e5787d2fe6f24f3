-- The invariant of the loop of `Run::ask_maker`.
use Rattle.std.proofs.Common.{◌≡◌, Ok}
use Rattle.machine_rounds.specs.Runs.{AfterTry, IsLastLook}
use Rattle.machine_rounds.proofs.run.Run.ask_maker.Given as goal

abbrev pub invariant-loop : goal.invariant-loop
invariant-loop g l = record {
  machine : l.self.machine ≡ l.fn.self.machine;
  seen : IsLastLook l.self l.word;
  after : AfterTry l.fn.self l.self (Ok l.made);
}
