-- How the program ends once the text of a log was written.
use Rattle.std.proofs.Common.{◌≡◌, ◌∙◌, ℕ, Bool, true, false, List, Result, Ok, Err, refl, sym, subst}
use Rattle.std.specs.Io.KnownBytes.{Appends}
use Rattle.sleep_base.specs.declared.outside.Failed.{Failed}
use Rattle.sleep_base.specs.Whole.{WriteAll}
use Rattle.sleep_model.specs.declared.log.Log.{Log}
use Rattle.sleep_model.specs.declared.machine.Machine.{Machine}
use Rattle.sleep_model.specs.Text.{text}
use Rattle.program_ending.specs.Streams.{Stream}
use Rattle.run_commands.specs.Endings.{WritesText, ending_of, is_stuck}

-- by the result of the writing
pub text_written : (m : Machine) (log : Log) (old new : Stream) (shown_text : List ℕ) (written : Result Unit Failed) → shown_text ≡ text m log → WriteAll old.bytes new.bytes old.faults new.faults shown_text written
    → WritesText m log old new (ending_of written (is_stuck log.end))
text_written m log old new shown_text (Ok u) is h = by (is_stuck log.end) refl (subst (λ (bs : List ℕ). Appends old.bytes new.bytes bs) is h)
  where
    by : (stuck : Bool) → is_stuck log.end ≡ stuck → Appends old.bytes new.bytes (text m log) → WritesText m log old new (ending_of (Ok u) stuck)
    by true e appends = (e, appends)
    by false e appends = (e, appends)
text_written m log old new shown_text (Err fault) is h = (h.4, (h.0, h.1, sym is ∙ h.2, h.3))
