-- The words that were put, entry by entry.
use Rattle.std.proofs.Common.{arith, refl}
use Rattle.log_text.proofs.writing.body.put_auto.Goals as goal

pub returns-in-AutoRun : goal.returns-in-AutoRun
returns-in-AutoRun c = record {
  text = rw (c.put_on.ensures.text, c.in-AutoRun.is) refl;
  few = omega (arith, c.put_on.ensures.few);
}

pub returns-in-AutoSaved : goal.returns-in-AutoSaved
returns-in-AutoSaved c = record {
  text = rw (c.put_two_words.ensures.text, c.in-AutoSaved.is) refl;
  few = omega (arith, c.put_two_words.ensures.few);
}

pub returns-in-AutoUnsaved : goal.returns-in-AutoUnsaved
returns-in-AutoUnsaved c = record {
  text = rw (c.put_two_words-in-AutoUnsaved.ensures.text, c.in-AutoUnsaved.is) refl;
  few = omega (arith, c.put_two_words-in-AutoUnsaved.ensures.few);
}

pub returns-in-AutoAgain : goal.returns-in-AutoAgain
returns-in-AutoAgain c = record {
  text = rw (c.put_on-in-AutoAgain.ensures.text, c.in-AutoAgain.is) refl;
  few = omega (arith, c.put_on-in-AutoAgain.ensures.few);
}

pub returns-in-AutoOff : goal.returns-in-AutoOff
returns-in-AutoOff c = record {
  text = rw (c.put_on-in-AutoOff.ensures.text, c.in-AutoOff.is) refl;
  few = omega (arith, c.put_on-in-AutoOff.ensures.few);
}
