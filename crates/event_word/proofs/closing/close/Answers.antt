-- Proof by hand of `close`: what it returns, by the lemmas of `Invariance` and `Seating`.
use Rattle.std.proofs.Common.{List, ◌++◌, ◌∷◌, []}
use Rattle.std.proofs.Common.{subst}
use Rattle.sleep_model.specs.declared.word.EventNow.{EventNow}
use Rattle.event_word.specs.Steps.{MadeStep}
use Rattle.event_word.specs.Histories.{AreClosed, unpacked}
use Rattle.event_word.proofs.Invariance.{ends}
use Rattle.event_word.proofs.Seating.{all_in}
use Rattle.event_word.proofs.closing.close.Goals as goal

pub returns-clause-closed : goal.returns-clause-closed
returns-clause-closed c =
    let look = c.gather.new.look in
    let g = c.gather.ensures in
    let end = ends _ _ look.me.0 _ _ g.look.0.keeps (all_in c.args.look.token look c.args.seats.items c.requires.seats g.look.1 g.known) c.word-word.ensures c.close_with-closed.ensures.values.2 in
    rw (c.apart.ensures) (subst (λ (x : List (List MadeStep) × List (List EventNow)). AreClosed x.0 x.1 (unpacked c.word-word.result))
    (λ i. (g.known i, g.heard i ++ g.looked i ∷ [])) end)
