-- What a history has besides its journal: what the definitions read from its entries.
use Rattle.std.specs.Prelude.{◌≡◌, ℕ, List, ◌∷◌}
use Rattle.sleep_model.specs.declared.entry.Actor.{Actor}
use Rattle.sleep_model.specs.declared.entry.Entry.{Entry}
use Rattle.sleep_model.specs.declared.entry.Kind.{Kind}
use Rattle.sleep_model.specs.declared.machine.Machine.{Machine}
use Rattle.sleep_model.specs.declared.word.EventNow.{EventNow}
use Rattle.core_history.specs.declared.components.Components.{Components}
use Rattle.async_board.specs.AtPoints.{board_at}
use Rattle.core_history.specs.Histories.{Settles, guard_of, path_of, devices_of, tasks_of, freezer_of, autosleep_of, platform_of, syscore_of}

-- each is what the definitions read from these entries
pub record AreRead (m : Machine) (past : List Entry) (c : Components) : Type 0 where
  pub guard : c.guard ≡ guard_of past
  pub path : c.path ≡ path_of past
  pub devices : c.devices ≡ devices_of m past
  pub board : c.board ≡ board_at m past
  pub tasks : c.tasks ≡ tasks_of m past
  pub freezer : c.freezer ≡ freezer_of m past
  pub autosleep : c.autosleep ≡ autosleep_of past
  pub platform : c.platform ≡ platform_of m past
  pub syscore : c.syscore ≡ syscore_of m past

-- what was read from some entries is, after an entry of that actor, what is read from those and this one
abbrev pub Follow : EventNow → Actor → Kind → Components → Components → Type 0
Follow now who k old new = (m : Machine) (past : List Entry) (time : ℕ) → AreRead m past old → AreRead m (record { time = time; now = now; actor = who; kind = k } ∷ past) new

-- so it is after this entry, if no device is prepared when it changes links
abbrev pub FollowSettled : Entry → Components → Components → Type 0
FollowSettled e old new = (m : Machine) (past : List Entry) → Settles m past e → AreRead m past old → AreRead m (e ∷ past) new
