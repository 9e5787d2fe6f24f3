-- The walks of the three pairs of phases.
use Rattle.std.specs.Prelude.{◌≡◌, ℕ, length, replicate}
use Rattle.sleep_model.specs.declared.progress.PhaseState.TheVariants as state
use Rattle.async_board.specs.Walks.{IsWalk, MayRestart}
use Rattle.async_board.specs.declared.walk.Layout.{Layout}
use Rattle.async_board.specs.declared.walk.Pairs.{Pairs}

-- each is a walk over the layout
pub record AreWalks (l : Layout) (p : Pairs) : Type 0 where
  pub suspend : IsWalk l p.suspend
  pub late : IsWalk l p.late
  pub noirq : IsWalk l p.noirq

-- in none a device is prepared
pub record AreUnprepared (l : Layout) (p : Pairs) : Type 0 where
  pub suspend : p.suspend.states.items ≡ replicate (length l.links.parents) state.Unprepared
  pub late : p.late.states.items ≡ replicate (length l.links.parents) state.Unprepared
  pub noirq : p.noirq.states.items ≡ replicate (length l.links.parents) state.Unprepared

-- each may begin anew over a layout whose links have changed only directly below this supplier
pub record MayAllRestart (l : Layout) (supplier : ℕ) (p : Pairs) : Type 0 where
  pub suspend : MayRestart l supplier p.suspend
  pub late : MayRestart l supplier p.late
  pub noirq : MayRestart l supplier p.noirq
