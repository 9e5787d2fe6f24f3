-- What a call on a source does, by what its bump makes known.
use Rattle.std.specs.Prelude.{◌≡◌, ◌≤◌, ◌+◌, ◌++◌, ℕ, Bool, true, List, [], ◌∷◌, Option}
use Rattle.sleep_model.specs.declared.machine.SourceCall.{SourceCall}
use Rattle.sleep_model.specs.declared.word.EventNow.{EventNow}
use Rattle.sleep_model.specs.declared.word.WordKind.{WordKind}
use Rattle.sleep_model.specs.Sources.{makes, since}
use Rattle.sleep_model.specs.Word.{position}
use Rattle.event_word.specs.Looks.{IsShown, GrewTo}
use Rattle.event_word.specs.Steps.{MadeStep, shown_after, made_after}
use Rattle.wakeup_source.specs.declared.call_by.CallBy.{CallBy}
use Rattle.wakeup_source.specs.SourceStates.{SourceState, unstamped_source, with_note, with_step}

-- what a bump makes known, and the source that it is a bump of
pub record SourceView : Type 0 where
  pub shown : Option EventNow
  pub made : Option (List MadeStep)
  pub looked : Option (List EventNow)
  pub floor : ℕ
  pub source : SourceState

-- a bump and a source
abbrev pub viewed_source : Option EventNow → Option (List MadeStep) → Option (List EventNow) → ℕ → SourceState → SourceView
viewed_source shown made looked floor source =
    record { shown = shown; made = made; looked = looked; floor = floor; source = source }

-- after a step with that word before it
abbrev pub after_step : CallBy → WordKind → EventNow → SourceView → SourceView
after_step by step before s = record {
  shown = shown_after step s.shown;
  made = made_after step before s.made;
  looked = s.looked;
  floor = position before + 1;
  source = with_step by step before s.source;
}

-- these steps are made one after another, each at the word that the holder shows, if it shows one, and no position falls
abbrev pub Steps : CallBy → List WordKind → SourceView → SourceView → Type 0
Steps by [] old new = new ≡ old
Steps by (step ∷ rest) old new =
    (before : EventNow) × IsShown old.shown before × (old.floor ≤ position before)
    × Steps by rest (after_step by step before old) new

-- after the note of a call that saw that word
abbrev pub after_note : CallBy → SourceCall → EventNow → Option (List EventNow) → SourceView → SourceView
after_note by call seen looked s = record {
  shown = s.shown;
  made = s.made;
  looked = looked;
  floor = position seen;
  source = with_note by call seen s.source;
}

-- a note is made, of a word that was looked at and that is at least what bump, caller and source last knew
abbrev pub Notes : CallBy → SourceCall → SourceView → SourceView → Type 0
Notes by call old new =
    (seen : EventNow) × IsShown old.shown seen × GrewTo seen old.looked new.looked
    × (old.floor ≤ position seen) × (by.floor.pos ≤ position seen) × (old.source.floor.pos ≤ position seen)
    × (new ≡ after_note by call seen new.looked old)

-- a whole call: its note, and the steps that it makes
abbrev pub Calls : CallBy → SourceCall → SourceView → SourceView → Type 0
Calls by call old new =
    (noted : SourceView) × Notes by call old noted × Steps by (makes call (since (unstamped_source old.source.past))) noted new

-- what could be made after these steps can be made once they are made
abbrev pub CanGoOnAll : List WordKind → (List WordKind → Bool) → (List WordKind → Bool) → Type 0
CanGoOnAll steps old new = (rest : List WordKind) → old (steps ++ rest) ≡ true → new rest ≡ true
