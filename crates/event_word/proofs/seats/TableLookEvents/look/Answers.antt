-- Proof by hand of `look`: the call of `load`, by the lemmas of `Invariance`.
use Rattle.std.proofs.Common.{rules}
use Rattle.event_word.proofs.Invariance.{may_look}
use Rattle.event_word.proofs.seats.TableLookEvents.look.Goals as goal

pub load-requires : goal.load-requires
load-requires c = let s = c.args.self.now in (s.fits, search rules, may_look _ _ _)
