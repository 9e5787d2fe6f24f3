-- Proof by hand of `auto_by`: what it returns, verb by verb, and by the lemmas of `OtherVerbs`.
use Rattle.std.proofs.Common.{◌∙◌, refl, sym}
use Rattle.log_text.proofs.OtherVerbs.{no_auto}
use Rattle.log_text.proofs.reading.kinds.auto_by.Goals as goal

pub returns-in_default-clause-kind : goal.returns-in_default-clause-kind
returns-in_default-clause-kind c =
    let w = c.in_default in
    c.source_by.ensures.kind
    ∙ no_auto c.args.machine_names.now c.args.verb c.args.text.now w.not-Run w.not-Saved w.not-Unsaved w.not-After w.not-Again w.not-Off

pub returns-in_default-clause-fits : goal.returns-in_default-clause-fits
returns-in_default-clause-fits c = c.source_by.ensures.fits

pub returns-in-Run : goal.returns-in-Run
returns-in-Run c = record {
  kind = rw c.in-Run.is refl;
  fits = refl;
}

pub returns-in-Again : goal.returns-in-Again
returns-in-Again c = record {
  kind = rw c.in-Again.is refl;
  fits = refl;
}

pub returns-in-Off : goal.returns-in-Off
returns-in-Off c = record {
  kind = rw c.in-Off.is refl;
  fits = refl;
}

pub returns-in_ok-word32-in-Saved : goal.returns-in_ok-word32-in-Saved
returns-in_ok-word32-in-Saved c = record {
  kind = rw (c.in-Saved.is, sym c.word32.ensures.number ∙ c.in_ok-word32-in-Saved.was) refl;
  fits = c.in_ok-word32-in-Saved.ensures.fits;
}

pub returns-in_ok-word32-in-Unsaved : goal.returns-in_ok-word32-in-Unsaved
returns-in_ok-word32-in-Unsaved c = record {
  kind = rw (c.in-Unsaved.is, sym c.word32-in-Unsaved.ensures.number ∙ c.in_ok-word32-in-Unsaved.was) refl;
  fits = c.in_ok-word32-in-Unsaved.ensures.fits;
}
