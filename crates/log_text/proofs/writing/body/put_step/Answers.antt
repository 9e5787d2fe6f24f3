-- Proof by hand of `put_step`: what it returns, entry by entry, and by the lemmas of `OtherKinds`.
use Rattle.std.proofs.Common.{◌∙◌, ◌++◌, ℕ, List, ap, arith, refl}
use Rattle.log_text.proofs.OtherKinds.{no_step}
use Rattle.log_text.proofs.writing.body.put_step.Goals as goal

pub returns-in_default-clause-few : goal.returns-in_default-clause-few
returns-in_default-clause-few c = c.put_auto.ensures.few

pub returns-in_default-clause-text : goal.returns-in_default-clause-text
returns-in_default-clause-text c =
    let w = c.in_default in
    c.put_auto.ensures.text ∙ ap (λ (t : List ℕ). c.args.out.now ++ t) (no_step c.args.names.now c.args.kind w.not-Sleep w.not-SleepD w.not-Slept w.not-Pass w.not-Post w.not-Got w.not-Exit w.not-RuntimeAsk w.not-LinkAdd w.not-LinkState)

pub returns-in-Sleep : goal.returns-in-Sleep
returns-in-Sleep c = record {
  text = rw (c.put_two_words.ensures.text, c.in-Sleep.is) refl;
  few = omega (arith, c.put_two_words.ensures.few);
}

pub returns-in-SleepD : goal.returns-in-SleepD
returns-in-SleepD c = record {
  text = rw (c.put_two_words-in-SleepD.ensures.text, c.in-SleepD.is) refl;
  few = omega (arith, c.put_two_words-in-SleepD.ensures.few);
}

pub returns-in-Slept : goal.returns-in-Slept
returns-in-Slept c = record {
  text = rw (c.put_on.ensures.text, c.in-Slept.is) refl;
  few = omega (arith, c.put_on.ensures.few);
}

pub returns-in-Pass : goal.returns-in-Pass
returns-in-Pass c = record {
  text = rw (c.put_on-in-Pass.ensures.text, c.in-Pass.is) refl;
  few = omega (arith, c.put_on-in-Pass.ensures.few);
}

pub returns-in-Post : goal.returns-in-Post
returns-in-Post c = record {
  text = rw (c.put_two_words-in-Post.ensures.text, c.mark.ensures, c.in-Post.is) refl;
  few = omega (arith, c.put_two_words-in-Post.ensures.few);
}

pub returns-in-Got : goal.returns-in-Got
returns-in-Got c = record {
  text = rw (c.put_two_words-in-Got.ensures.text, c.mark-in-Got.ensures, c.in-Got.is) refl;
  few = omega (arith, c.put_two_words-in-Got.ensures.few);
}

pub returns-in-Exit : goal.returns-in-Exit
returns-in-Exit c = record {
  text = rw (c.put_on-in-Exit.ensures.text, c.in-Exit.is) refl;
  few = omega (arith, c.put_on-in-Exit.ensures.few);
}

pub returns-in-RuntimeAsk : goal.returns-in-RuntimeAsk
returns-in-RuntimeAsk c = record {
  text = rw (c.put_four_words.ensures.text, c.device.ensures, c.runtime_word.ensures, c.in-RuntimeAsk.is) refl;
  few = omega (arith, c.put_four_words.ensures.few);
}
