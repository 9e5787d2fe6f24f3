-- Proof that `draw_line` meets its contract.
use Rattle.std.proofs.Common.{arith}
use Rattle.sleep_script.proofs.Drawn.{line_is}
use Rattle.sleep_script.proofs.generator.draw_line.Goals as goal

pub returns : goal.returns
returns c = line_is c.args.draws.now.seed c.args.draws.now.next c.loop.counter c.name.result c.of_vec.result c.name.ensures (cc) (omega arith)
