-- What an ending of a command means that reads an input and writes of it.
use Rattle.std.proofs.Common.{inl, inr, ℕ, List, false, true≢false, sym, subst, IfOk, IfErr}
use Rattle.std.specs.Prelude.{Vec, Result, Ok, Err}
use Rattle.std.specs.declared.alloc.Global.{Global}
use Rattle.program_ending.specs.declared.ending.Ending.{Ending}
use Rattle.program_ending.specs.declared.ending.Ending.TheVariants.{Done, Stuck, Illegal, NoForm, ReadFault, WriteFault, Refused, NoMemory}
use Rattle.program_ending.specs.declared.refusal.Refusal.{Refusal}
use Rattle.program_ending.specs.Streams.{Streams, KeepsOut, ReadWhole, ReadsInput, Writes}
use Rattle.program_ending.specs.CommandEndings.{Refuses, CommandEnded, WritesResult}

module _ (most : ℕ) (long : Refusal) (Gives : List ℕ → List ℕ → Type 0) (Why : List ℕ → Refusal → Type 0) (old new : Streams) where
  -- an input that was not read ends the command so
  pub unread_outcome : (ending : Ending) → ReadsInput most long old.input new.input (Err ending) → KeepsOut old new → CommandEnded most long Gives Why old new ending
  unread_outcome (Refused refusal) h out = (inl h, out)
  unread_outcome ReadFault h out = (h, out)
  unread_outcome NoMemory h out = out
  unread_outcome Done h out = absurd h
  unread_outcome Stuck h out = absurd h
  unread_outcome Illegal h out = absurd h
  unread_outcome NoForm h out = absurd h
  unread_outcome WriteFault h out = absurd h

  written : (bytes shown_text : List ℕ) (ending : Ending) → ReadWhole most old.input new.input bytes → Gives bytes shown_text → Writes old.output new.output shown_text false ending → CommandEnded most long Gives Why old new ending
  written bytes shown_text Done read gives h = (bytes, shown_text, read, gives, h)
  written bytes shown_text WriteFault read gives h = (bytes, shown_text, read, gives, h)
  written bytes shown_text Stuck read gives h = absurd (true≢false (sym h.0))
  written bytes shown_text Illegal read gives h = absurd h
  written bytes shown_text NoForm read gives h = absurd h
  written bytes shown_text ReadFault read gives h = absurd h
  written bytes shown_text (Refused refusal) read gives h = absurd h
  written bytes shown_text NoMemory read gives h = absurd h

  refused : (bytes : List ℕ) (ending : Ending) → ReadWhole most old.input new.input bytes → Refuses (Why bytes) ending → KeepsOut old new → CommandEnded most long Gives Why old new ending
  refused bytes (Refused refusal) read h out = (inr (bytes, read, h), out)
  refused bytes NoMemory read h out = out
  refused bytes Done read h out = absurd h
  refused bytes Stuck read h out = absurd h
  refused bytes Illegal read h out = absurd h
  refused bytes NoForm read h out = absurd h
  refused bytes ReadFault read h out = absurd h
  refused bytes WriteFault read h out = absurd h

  -- an input that was read ends the command as its text is written
  pub read_outcome : (bytes : List ℕ) (outcome : Result (Vec ℕ Global) Ending) (ending : Ending) → ReadWhole most old.input new.input bytes → IfOk outcome (λ shown_text. Gives bytes shown_text.items)
      → IfErr outcome (Refuses (Why bytes)) → WritesResult outcome old.output new.output ending → CommandEnded most long Gives Why old new ending
  read_outcome bytes (Ok text) ending read gives refuses h = written bytes text.items ending read gives h
  read_outcome bytes (Err other) ending read gives refuses h = subst (CommandEnded most long Gives Why old new) (sym h.0) (refused bytes other read refuses h.1)
