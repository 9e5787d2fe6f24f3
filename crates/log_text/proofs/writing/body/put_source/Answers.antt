-- The words that were put, entry by entry.
use Rattle.std.proofs.Common.{arith, refl}
use Rattle.log_text.proofs.writing.body.put_source.Goals as goal

pub returns-in-Awake : goal.returns-in-Awake
returns-in-Awake c = record {
  text = rw (c.put_two_words.ensures.text, c.source.ensures, c.in-Awake.is) refl;
  few = omega (arith, c.put_two_words.ensures.few);
}

pub returns-in-Relax : goal.returns-in-Relax
returns-in-Relax c = record {
  text = rw (c.put_two_words-in-Relax.ensures.text, c.source-in-Relax.ensures, c.in-Relax.is) refl;
  few = omega (arith, c.put_two_words-in-Relax.ensures.few);
}

pub returns-in-Expire : goal.returns-in-Expire
returns-in-Expire c = record {
  text = rw (c.put_two_words-in-Expire.ensures.text, c.source-in-Expire.ensures, c.in-Expire.is) refl;
  few = omega (arith, c.put_two_words-in-Expire.ensures.few);
}

pub returns-in-Start : goal.returns-in-Start
returns-in-Start c = record {
  text = rw (c.put_two_words-in-Start.ensures.text, c.source-in-Start.ensures, c.in-Start.is) refl;
  few = omega (arith, c.put_two_words-in-Start.ensures.few);
}

pub returns-in-Finish : goal.returns-in-Finish
returns-in-Finish c = record {
  text = rw (c.put_two_words-in-Finish.ensures.text, c.source-in-Finish.ensures, c.in-Finish.is) refl;
  few = omega (arith, c.put_two_words-in-Finish.ensures.few);
}

pub returns-in-Hard : goal.returns-in-Hard
returns-in-Hard c = record {
  text = rw (c.put_two_words-in-Hard.ensures.text, c.source-in-Hard.ensures, c.in-Hard.is) refl;
  few = omega (arith, c.put_two_words-in-Hard.ensures.few);
}

pub returns-in-Jump : goal.returns-in-Jump
returns-in-Jump c = record {
  text = rw (c.put_on.ensures.text, c.in-Jump.is) refl;
  few = omega (arith, c.put_on.ensures.few);
}
