-- Proof by hand of `source_by`: what it returns, verb by verb, and by the lemmas of `OtherVerbs`.
use Rattle.std.proofs.Common.{◌∙◌, refl, sym}
use Rattle.log_text.proofs.OtherVerbs.{no_source}
use Rattle.log_text.proofs.reading.kinds.source_by.Goals as goal

pub returns-in_default-clause-kind : goal.returns-in_default-clause-kind
returns-in_default-clause-kind c =
    let w = c.in_default in
    c.attempt_by.ensures.kind
    ∙ no_source c.args.machine_names.now c.args.verb c.args.text.now w.not-Awake w.not-Relax w.not-Event w.not-Expire w.not-Start w.not-Finish w.not-Hard w.not-Jump

pub returns-in_default-clause-fits : goal.returns-in_default-clause-fits
returns-in_default-clause-fits c = c.attempt_by.ensures.fits

pub returns-in-Event : goal.returns-in-Event
returns-in-Event c = record {
  kind = rw c.in-Event.is c.event_kind.ensures.kind;
  fits = c.event_kind.ensures.fits;
}

pub returns-in-Jump : goal.returns-in-Jump
returns-in-Jump c = record {
  kind = rw c.in-Jump.is refl;
  fits = refl;
}

pub returns-in_ok-source-in-Awake : goal.returns-in_ok-source-in-Awake
returns-in_ok-source-in-Awake c = record {
  kind = rw (c.in-Awake.is, sym c.source.ensures.place ∙ c.in_ok-source-in-Awake.was) refl;
  fits = c.in_ok-source-in-Awake.ensures.within;
}

pub returns-in_ok-source-in-Relax : goal.returns-in_ok-source-in-Relax
returns-in_ok-source-in-Relax c = record {
  kind = rw (c.in-Relax.is, sym c.source-in-Relax.ensures.place ∙ c.in_ok-source-in-Relax.was) refl;
  fits = c.in_ok-source-in-Relax.ensures.within;
}

pub returns-in_ok-source-in-Expire : goal.returns-in_ok-source-in-Expire
returns-in_ok-source-in-Expire c = record {
  kind = rw (c.in-Expire.is, sym c.source-in-Expire.ensures.place ∙ c.in_ok-source-in-Expire.was) refl;
  fits = c.in_ok-source-in-Expire.ensures.within;
}

pub returns-in_ok-source-in-Start : goal.returns-in_ok-source-in-Start
returns-in_ok-source-in-Start c = record {
  kind = rw (c.in-Start.is, sym c.source-in-Start.ensures.place ∙ c.in_ok-source-in-Start.was) refl;
  fits = c.in_ok-source-in-Start.ensures.within;
}

pub returns-in_ok-source-in-Finish : goal.returns-in_ok-source-in-Finish
returns-in_ok-source-in-Finish c = record {
  kind = rw (c.in-Finish.is, sym c.source-in-Finish.ensures.place ∙ c.in_ok-source-in-Finish.was) refl;
  fits = c.in_ok-source-in-Finish.ensures.within;
}

pub returns-in_ok-source-in-Hard : goal.returns-in_ok-source-in-Hard
returns-in_ok-source-in-Hard c = record {
  kind = rw (c.in-Hard.is, sym c.source-in-Hard.ensures.place ∙ c.in_ok-source-in-Hard.was) refl;
  fits = c.in_ok-source-in-Hard.ensures.within;
}
