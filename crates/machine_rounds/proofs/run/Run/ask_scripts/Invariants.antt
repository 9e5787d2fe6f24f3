-- The invariant of the loop of `Run::ask_scripts`.
use Rattle.std.proofs.Common.{◌≡◌, ◌<◌, length, IfSome, Ok}
use Rattle.machine_rounds.specs.Runs.{AfterTry}
use Rattle.machine_rounds.proofs.run.Run.ask_scripts.Given as goal

abbrev pub invariant-loop : goal.invariant-loop
invariant-loop g l = record {
  machine : l.self.machine ≡ l.fn.self.machine;
  next : IfSome l.next (λ n. n < length l.fn.self.machine.actors);
  after : AfterTry l.fn.self l.self (Ok l.made);
}
