-- Proof by hand of `act`: the call of `idler_turn` and what it returns, by the lemmas of `Acting`.
use Rattle.idle_loop.proofs.Acting.{acted_idles, in_idles}
use Rattle.idle_loop.proofs.worker.act.Goals as goal

pub idler_turn-requires : goal.idler_turn-requires
idler_turn-requires g c = (c.requires.0, in_idles _ _ c.args.who c.requires.0 c.args.pass.token c.args.role.now c.in-Idles.look c.in-Idles.is c.requires.1)

pub returns-in-Idles : goal.returns-in-Idles
returns-in-Idles g c = acted_idles _ _ c.args.who c.requires.0 c.args.pass.token c.idler_turn.result.pass.token c.args.role.now c.in-Idles.look c.idler_turn.new.look c.in-Idles.is c.requires.1 c.idler_turn.ensures
