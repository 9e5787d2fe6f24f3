-- The board of devices after an entry.
use Rattle.std.proofs.Common.{◌≡◌, ℕ, List, ◌∷◌, Some, None, refl}
use Rattle.sleep_model.specs.declared.entry.Actor.{Actor}
use Rattle.sleep_model.specs.declared.entry.Entry.{Entry}
use Rattle.sleep_model.specs.declared.entry.Kind.{Kind}
use Rattle.sleep_model.specs.declared.entry.Kind.TheVariants as kind
use Rattle.sleep_model.specs.declared.machine.Machine.{Machine}
use Rattle.sleep_model.specs.declared.word.EventNow.{EventNow}
use Rattle.async_board.proofs.Agreement.{board_next}
use Rattle.async_board.specs.AtPoints.{board_at}
use Rattle.core_history.specs.Histories.{Settles, moved_board}

-- an entry at that time, of that maker and kind
abbrev entry_of : ℕ → EventNow → Actor → Kind → Entry
entry_of time now who k = record { time = time; now = now; actor = who; kind = k }

by_kind : (m : Machine) (past : List Entry) (time : ℕ) (now : EventNow) (who : Actor) (k : Kind) → Settles m past (entry_of time now who k) → moved_board k (board_at m past) ≡ board_at m (entry_of time now who k ∷ past)
by_kind m past time now who (kind.LinkAdd s c None) h = h refl
by_kind m past time now who (kind.LinkAdd s c (Some r)) h = board_next m past (entry_of time now who (kind.LinkAdd s c (Some r))) refl
by_kind m past time now who (kind.LinkState s c active None) h = h refl
by_kind m past time now who (kind.LinkState s c active (Some r)) h = board_next m past (entry_of time now who (kind.LinkState s c active (Some r))) refl
by_kind m past time now who k h = board_next m past (entry_of time now who k) refl

pub board_moves : (m : Machine) (past : List Entry) (e : Entry) → Settles m past e → moved_board e.kind (board_at m past) ≡ board_at m (e ∷ past)
board_moves m past e h = by_kind m past e.time e.now e.actor e.kind h
