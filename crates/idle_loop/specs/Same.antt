-- A worker that stays the same over no turn, and over turns one after another.
use Rattle.idle_loop.specs.declared.worker.IdleWorker.{IdleWorker}
use Rattle.idle_loop.specs.Roles.{IsSameWorker}
use mathlib.Core.Path.{refl, ◌∙◌}

-- over none
pub same_none : (a : IdleWorker) → IsSameWorker a a
same_none a = record { who = refl; table = refl; firsts = refl }

-- over two lists of turns
pub same_more : (a b c : IdleWorker) → IsSameWorker a b → IsSameWorker b c → IsSameWorker a c
same_more a b c h k = record { who = k.who ∙ h.who; table = k.table ∙ h.table; firsts = k.firsts ∙ h.firsts }
