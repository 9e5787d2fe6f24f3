-- What lists of seats made and looked at.
use Rattle.std.specs.Prelude.{List, map}
use Rattle.sleep_model.specs.declared.word.EventNow.{EventNow}
use Rattle.event_word.specs.Steps.{MadeStep}
use Rattle.event_word.specs.declared.table.EventSeat.{EventSeat}
use Rattle.event_word.specs.Seats.{WordToken, made_of, looked_of}

-- the token of each seat
abbrev pub tokens : List EventSeat → List WordToken
tokens seats = map (λ (s : EventSeat). s.token) seats

-- what each source made
abbrev pub made_lists : List EventSeat → List (List MadeStep)
made_lists seats = map (λ (s : EventSeat). made_of s.token) seats

-- what each looked at
abbrev pub looked_lists : List EventSeat → List (List EventNow)
looked_lists seats = map (λ (s : EventSeat). looked_of s.token) seats
