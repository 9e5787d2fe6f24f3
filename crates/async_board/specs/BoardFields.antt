-- What a board's fields are.
use Rattle.async_board.specs.Boards.{BoardState}
use Rattle.async_board.specs.Pairs.{AreWalks}
use Rattle.async_board.specs.Walks.{IsLayout}
use Rattle.async_board.specs.declared.board.Board.TheInside.{Inside}

-- a board is seen as its links and the states of its walks
abbrev pub board_view : Inside → BoardState
board_view b = record {
  parents = b.layout.links.parents;
  links = b.layout.links.links;
  asynchronous = b.layout.asynchronous.items;
  suspend = b.pairs.suspend.states.items;
  late = b.pairs.late.states.items;
  noirq = b.pairs.noirq.states.items;
}

-- the walks are over the layout
pub record BoardInvariant (b : Inside) : Type 0 where
  pub closed_over : IsLayout b.layout
  pub walks : AreWalks b.layout b.pairs
