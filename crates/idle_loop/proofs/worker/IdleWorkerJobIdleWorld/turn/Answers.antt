-- Proof by hand of `turn`: the call of `taken`, the call of `act` and what it returns, by the lemmas of `Acting`.
use Rattle.std.proofs.Common.{refl}
use Rattle.idle_loop.proofs.Acting.{has_pass, in_now, still_same, still_worker}
use Rattle.idle_loop.proofs.worker.IdleWorkerJobIdleWorld.turn.Goals as goal

pub taken-pass-requires : goal.taken-pass-requires
taken-pass-requires g c = has_pass _ c.requires.goes.pass c.requires.goes.has

pub act-pass-requires : goal.act-pass-requires
act-pass-requires g c = in_now _ _ c.args.self.now c.taken-pass.result c.requires.goes c.taken-pass.ensures

pub returns-clause-goes : goal.returns-clause-goes
returns-clause-goes g c = still_worker _ _ c.args.self.now _ c.taken-pass.result c.act-pass.result.pass c.requires.goes c.taken-pass.ensures refl refl c.act-pass.ensures

pub returns-clause-made : goal.returns-clause-made
returns-clause-made g c = still_same _ _ c.args.self.now _ c.taken-pass.result c.act-pass.result.pass c.requires.goes c.taken-pass.ensures refl refl c.act-pass.ensures
