-- What an ending of check means.
use Rattle.std.proofs.Common.{inl, inr, ℕ, List, Bool, sym, subst, IfOk, IfErr}
use Rattle.std.specs.Prelude.{Result, Ok, Err}
use Rattle.program_ending.specs.declared.ending.Ending.{Ending}
use Rattle.program_ending.specs.declared.ending.Ending.TheVariants.{Done, Stuck, Illegal, NoForm, ReadFault, WriteFault, Refused, NoMemory}
use Rattle.program_ending.specs.declared.refusal.Refusal.TheVariants.{LongInput}
use Rattle.program_ending.specs.Streams.{Streams, KeepsOut, ReadWhole, ReadsInput}
use Rattle.program_ending.specs.CommandEndings.{Refuses}
use Rattle.log_commands.specs.declared.verdict.Judged.{Judged}
use Rattle.log_commands.specs.Judging.{IsJudged, RefusesCheck}
use Rattle.log_commands.specs.Endings.{CheckEnded, WritesJudged, WritesVerdict}

module _ (old new : Streams) where
  -- an input that was not read ends the command so
  pub check_unread : (ending : Ending) → ReadsInput 268435456 LongInput old.input new.input (Err ending) → KeepsOut old new → CheckEnded old new ending
  check_unread (Refused refusal) h out = (inl h, out)
  check_unread ReadFault h out = (h, out)
  check_unread NoMemory h out = out
  check_unread Done h out = absurd h
  check_unread Stuck h out = absurd h
  check_unread Illegal h out = absurd h
  check_unread NoForm h out = absurd h
  check_unread WriteFault h out = absurd h

  written : (bytes shown_text : List ℕ) (good : Bool) (ending : Ending) → ReadWhole 268435456 old.input new.input bytes → IsJudged bytes shown_text good → WritesJudged old.output new.output shown_text good ending → CheckEnded old new ending
  written bytes shown_text good Done read judged h = (bytes, shown_text, good, read, judged, h)
  written bytes shown_text good Illegal read judged h = (bytes, shown_text, good, read, judged, h)
  written bytes shown_text good WriteFault read judged h = (bytes, shown_text, good, read, judged, h)
  written bytes shown_text good Stuck read judged h = absurd h
  written bytes shown_text good NoForm read judged h = absurd h
  written bytes shown_text good ReadFault read judged h = absurd h
  written bytes shown_text good (Refused refusal) read judged h = absurd h
  written bytes shown_text good NoMemory read judged h = absurd h

  refused : (bytes : List ℕ) (ending : Ending) → ReadWhole 268435456 old.input new.input bytes → Refuses (RefusesCheck bytes) ending → KeepsOut old new → CheckEnded old new ending
  refused bytes (Refused refusal) read h out = (inr (bytes, read, h), out)
  refused bytes NoMemory read h out = out
  refused bytes Done read h out = absurd h
  refused bytes Stuck read h out = absurd h
  refused bytes Illegal read h out = absurd h
  refused bytes NoForm read h out = absurd h
  refused bytes ReadFault read h out = absurd h
  refused bytes WriteFault read h out = absurd h

  -- an input that was read ends the command, once its verdict is written
  pub check_read : (bytes : List ℕ) (judged : Result Judged Ending) (ending : Ending) → ReadWhole 268435456 old.input new.input bytes → IfOk judged (λ j. IsJudged bytes j.text.items j.good)
      → IfErr judged (Refuses (RefusesCheck bytes)) → WritesVerdict judged old.output new.output ending → CheckEnded old new ending
  check_read bytes (Ok judged) ending read gives refuses h = written bytes judged.text.items judged.good ending read gives h
  check_read bytes (Err other) ending read gives refuses h = subst (CheckEnded old new) (sym h.0) (refused bytes other read refuses h.1)
