-- Proof by hand of `put_body`: what it returns, entry by entry, and by the lemmas of `OtherKinds`.
use Rattle.std.proofs.Common.{◌∙◌, ◌++◌, ℕ, List, ap, arith, refl, append_assoc}
use Rattle.log_text.proofs.OtherKinds.{no_write}
use Rattle.log_text.proofs.writing.body.put_body.Goals as goal

pub returns-in_default-clause-few : goal.returns-in_default-clause-few
returns-in_default-clause-few c = c.put_step.ensures.few

pub returns-in_default-clause-text : goal.returns-in_default-clause-text
returns-in_default-clause-text c =
    let w = c.in_default in
    c.put_step.ensures.text ∙ ap (λ (t : List ℕ). c.args.out.now ++ t) (no_write c.args.names.now c.args.kind w.not-Frozen w.not-ReadWait w.not-Read w.not-ReadIntr w.not-SaveWait w.not-Saved w.not-SaveErr w.not-StateWait w.not-StateErr w.not-StateUnsaved w.not-AutoBad w.not-AutoSet w.not-AutoDone)

pub returns-in-Frozen : goal.returns-in-Frozen
returns-in-Frozen c = record {
  text = rw (c.put_on.ensures.text, c.in-Frozen.is) refl;
  few = omega (arith, c.put_on.ensures.few);
}

pub returns-in-ReadWait : goal.returns-in-ReadWait
returns-in-ReadWait c = record {
  text = rw (c.put_two_words.ensures.text, c.in-ReadWait.is) refl;
  few = omega (arith, c.put_two_words.ensures.few);
}

pub returns-in-Read : goal.returns-in-Read
returns-in-Read c = record {
  text = rw (c.put_two_words-in-Read.ensures.text, c.in-Read.is) refl;
  few = omega (arith, c.put_two_words-in-Read.ensures.few);
}

pub returns-in-ReadIntr : goal.returns-in-ReadIntr
returns-in-ReadIntr c = record {
  text = rw (c.put_two_words-in-ReadIntr.ensures.text, c.in-ReadIntr.is) refl;
  few = omega (arith, c.put_two_words-in-ReadIntr.ensures.few);
}

pub returns-in-SaveWait : goal.returns-in-SaveWait
returns-in-SaveWait c = record {
  text = rw (c.put_three_words.ensures.text, c.in-SaveWait.is) (simp append_assoc);
  few = omega (arith, c.put_three_words.ensures.few);
}

pub returns-in-Saved : goal.returns-in-Saved
returns-in-Saved c = record {
  text = rw (c.put_three_words-in-Saved.ensures.text, c.in-Saved.is) (simp append_assoc);
  few = omega (arith, c.put_three_words-in-Saved.ensures.few);
}

pub returns-in-SaveErr : goal.returns-in-SaveErr
returns-in-SaveErr c = record {
  text = rw (c.put_three_words-in-SaveErr.ensures.text, c.in-SaveErr.is) refl;
  few = omega (arith, c.put_three_words-in-SaveErr.ensures.few);
}

pub returns-in-StateWait : goal.returns-in-StateWait
returns-in-StateWait c = record {
  text = rw (c.put_two_words-in-StateWait.ensures.text, c.in-StateWait.is) refl;
  few = omega (arith, c.put_two_words-in-StateWait.ensures.few);
}

pub returns-in-StateErr : goal.returns-in-StateErr
returns-in-StateErr c = record {
  text = rw (c.put_two_words-in-StateErr.ensures.text, c.in-StateErr.is) refl;
  few = omega (arith, c.put_two_words-in-StateErr.ensures.few);
}

pub returns-in-StateUnsaved : goal.returns-in-StateUnsaved
returns-in-StateUnsaved c = record {
  text = rw (c.put_two_words-in-StateUnsaved.ensures.text, c.in-StateUnsaved.is) refl;
  few = omega (arith, c.put_two_words-in-StateUnsaved.ensures.few);
}

pub returns-in-AutoBad : goal.returns-in-AutoBad
returns-in-AutoBad c = record {
  text = rw (c.put_two_words-in-AutoBad.ensures.text, c.in-AutoBad.is) refl;
  few = omega (arith, c.put_two_words-in-AutoBad.ensures.few);
}

pub returns-in-AutoSet : goal.returns-in-AutoSet
returns-in-AutoSet c = record {
  text = rw (c.put_three_words-in-AutoSet.ensures.text, c.in-AutoSet.is) refl;
  few = omega (arith, c.put_three_words-in-AutoSet.ensures.few);
}

pub returns-in-AutoDone : goal.returns-in-AutoDone
returns-in-AutoDone c = record {
  text = rw (c.put_two_words-in-AutoDone.ensures.text, c.in-AutoDone.is) refl;
  few = omega (arith, c.put_two_words-in-AutoDone.ensures.few);
}
