-- Proof by hand of `kind_by`: what it returns, verb by verb, and by the lemmas of `OtherVerbs`.
use Rattle.std.proofs.Common.{◌∙◌, refl, sym}
use Rattle.log_text.proofs.OtherVerbs.{no_device}
use Rattle.log_text.proofs.reading.kinds.kind_by.Goals as goal

pub returns-in_default-clause-kind : goal.returns-in_default-clause-kind
returns-in_default-clause-kind c =
    let w = c.in_default in
    c.task_by.ensures.kind
    ∙ no_device c.args.machine_names.now c.args.verb c.args.text.now w.not-Begin w.not-End w.not-Prepare w.not-Complete w.not-Schedule w.not-Skip w.not-Done

pub returns-in_default-clause-fits : goal.returns-in_default-clause-fits
returns-in_default-clause-fits c = c.task_by.ensures.fits

pub returns-in-Begin : goal.returns-in-Begin
returns-in-Begin c = record {
  kind = rw c.in-Begin.is c.begin_kind.ensures.kind;
  fits = c.begin_kind.ensures.fits;
}

pub returns-in-End : goal.returns-in-End
returns-in-End c = record {
  kind = rw c.in-End.is c.end_kind.ensures.kind;
  fits = c.end_kind.ensures.fits;
}

pub returns-in-Prepare : goal.returns-in-Prepare
returns-in-Prepare c = record {
  kind = rw c.in-Prepare.is c.prepare_kind.ensures.kind;
  fits = c.prepare_kind.ensures.fits;
}

pub returns-in-Schedule : goal.returns-in-Schedule
returns-in-Schedule c = record {
  kind = rw c.in-Schedule.is c.schedule_kind.ensures.kind;
  fits = c.schedule_kind.ensures.fits;
}

pub returns-in-Skip : goal.returns-in-Skip
returns-in-Skip c = record {
  kind = rw c.in-Skip.is c.skip_kind.ensures.kind;
  fits = c.skip_kind.ensures.fits;
}

pub returns-in_ok-device-in-Complete : goal.returns-in_ok-device-in-Complete
returns-in_ok-device-in-Complete c = record {
  kind = rw (c.in-Complete.is, sym c.device.ensures.place ∙ c.in_ok-device-in-Complete.was) refl;
  fits = c.in_ok-device-in-Complete.ensures.within;
}
