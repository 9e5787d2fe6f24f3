-- A walk has the counts of either side.
use Rattle.std.proofs.Common.{rules, subst}
use Rattle.async_board.specs.Boards.{BoardState}
use Rattle.async_board.specs.Sides.{IsOpenCount, open_counts}
use Rattle.async_board.specs.declared.rows.Side.{Side}
use Rattle.async_board.proofs.Searched.{open_kept}
use Rattle.async_board.proofs.board.Board.walk.Goals as goal

pub returns-in-Late-clause-counts : goal.returns-in-Late-clause-counts
returns-in-Late-clause-counts c =
    let w = c.self.inside.pairs.late in
    subst (λ (b : BoardState). (at : Side) → IsOpenCount at b.parents b.links w.states.items (open_counts at w)) c.self.view_is (open_kept c.self.inside.layout w c.self.invariant.walks.late)

pub returns-in-Noirq-clause-counts : goal.returns-in-Noirq-clause-counts
returns-in-Noirq-clause-counts c =
    let w = c.self.inside.pairs.noirq in
    subst (λ (b : BoardState). (at : Side) → IsOpenCount at b.parents b.links w.states.items (open_counts at w)) c.self.view_is (open_kept c.self.inside.layout w c.self.invariant.walks.noirq)

pub returns-in_default : goal.returns-in_default
returns-in_default c =
    let w = c.self.inside.pairs.suspend in
    record {
      states = search rules;
      size = search rules;
      cursors = search rules;
      counts = subst (λ (b : BoardState). (at : Side) → IsOpenCount at b.parents b.links w.states.items (open_counts at w)) c.self.view_is (open_kept c.self.inside.layout w c.self.invariant.walks.suspend);
    }
