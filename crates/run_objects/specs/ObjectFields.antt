-- What the fields of a seated source and of a seated core are.
use Rattle.std.specs.Prelude.{◌≡◌, true, [], Option, Some, None, IfSome, is_some}
use Rattle.std.specs.List.{list_any}
use Rattle.sleep_model.specs.declared.word.EventNow.{EventNow}
use Rattle.sleep_model.specs.Merge.{is_word}
use Rattle.sleep_model.specs.Word.{position}
use Rattle.event_word.specs.declared.table.EventSeat.{EventSeat}
use Rattle.event_word.specs.declared.table.LookSeat.{LookSeat}
use Rattle.event_word.specs.Counting.{source_view}
use Rattle.event_word.specs.Seats.{WordToken, floor_of, looked_of}
use Rattle.run_objects.specs.declared.source.SeatedSource.TheInside as source
use Rattle.run_objects.specs.declared.machine.SeatedCore.TheInside as machine
use Rattle.run_objects.specs.Objects.{SeatedSourceState, SeatedCoreState, IsSeatedSource, IsSeatedCore}

-- a seat of no source
abbrev pub no_seat : WordToken
no_seat = record {
  marker = record {};
  table_id = record {
    words = 0;
    slots = 0;
    views_name = 0;
    atom = 0;
    block = 0;
    offset = 0;
    slot_names = [];
  };
  id = 0;
  me = (source_view 0, []);
}

-- the seat of a source that is not out in a call
abbrev pub event_seat : Option EventSeat → WordToken
event_seat None = no_seat
event_seat (Some seat) = seat.token

-- the seat that only looks, not out in a call
abbrev pub look_seat : Option LookSeat → WordToken
look_seat None = no_seat
look_seat (Some seat) = seat.token

-- a source as contracts see it
abbrev pub source_state : source.Inside → SeatedSourceState
source_state s = record { source = s.source; seat = event_seat s.seat }

-- the machine as contracts see it
abbrev pub core_state : machine.Inside → SeatedCoreState
core_state s = record { core = s.core; seat = look_seat s.seat }

-- the seat is not out, and is the source's
pub record SourceFieldsInvariant (s : source.Inside) : Type 0 where
  pub placed : is_some s.seat ≡ true
  pub kept : IsSeatedSource (source_state s)

-- the word that a seat looked at last
pub record IsNewest (t : WordToken) (word : EventNow) : Type 0 where
  pub seen : list_any (is_word word) (looked_of t) ≡ true
  pub newest : position word ≡ floor_of t

-- the seat is not out, and is the machine's, and the word that is kept is the one that it looked at last
pub record CoreFieldsInvariant (s : machine.Inside) : Type 0 where
  pub placed : is_some s.seat ≡ true
  pub kept : IsSeatedCore (core_state s)
  pub last : IfSome s.last (IsNewest (look_seat s.seat))
