-- Proof by hand of `attempt_by`: what it returns, verb by verb, and by the lemmas of `OtherVerbs`.
use Rattle.std.proofs.Common.{refl}
use Rattle.log_text.proofs.OtherVerbs.{no_attempt}
use Rattle.log_text.proofs.reading.kinds.attempt_by.Goals as goal

pub returns-in_default-clause-kind : goal.returns-in_default-clause-kind
returns-in_default-clause-kind c =
    let w = c.in_default in
    no_attempt c.args.machine_names.now c.args.verb c.args.text.now w.not-Attempt w.not-Over w.not-Notify w.not-Freeze w.not-Froze w.not-Thaw w.not-Platform w.not-Cpu w.not-Irqs w.not-Syscore w.not-Enter w.not-Wake w.not-Clear

pub returns-in-Attempt : goal.returns-in-Attempt
returns-in-Attempt c = record {
  kind = rw c.in-Attempt.is c.attempt_kind.ensures.kind;
  fits = c.attempt_kind.ensures.fits c.args.machine_names.now;
}

pub returns-in-Over : goal.returns-in-Over
returns-in-Over c = record {
  kind = rw c.in-Over.is c.over_kind.ensures.kind;
  fits = c.over_kind.ensures.fits c.args.machine_names.now;
}

pub returns-in-Notify : goal.returns-in-Notify
returns-in-Notify c = record {
  kind = rw c.in-Notify.is c.notify_kind.ensures.kind;
  fits = c.notify_kind.ensures.fits;
}

pub returns-in-Freeze : goal.returns-in-Freeze
returns-in-Freeze c = record {
  kind = rw (c.in-Freeze.is, c.group_in.ensures) refl;
  fits = refl;
}

pub returns-in-Froze : goal.returns-in-Froze
returns-in-Froze c = record {
  kind = rw c.in-Froze.is c.froze_kind.ensures.kind;
  fits = c.froze_kind.ensures.fits;
}

pub returns-in-Thaw : goal.returns-in-Thaw
returns-in-Thaw c = record {
  kind = rw (c.in-Thaw.is, c.thaw_in.ensures) refl;
  fits = refl;
}

pub returns-in-Platform : goal.returns-in-Platform
returns-in-Platform c = record {
  kind = rw (c.in-Platform.is, c.platform_kind.ensures.kind) refl;
  fits = c.platform_kind.ensures.fits c.args.machine_names.now;
}

pub returns-in-Cpu : goal.returns-in-Cpu
returns-in-Cpu c = record {
  kind = rw c.in-Cpu.is c.cpu_kind.ensures.kind;
  fits = c.cpu_kind.ensures.fits c.args.machine_names.now;
}

pub returns-in-Syscore : goal.returns-in-Syscore
returns-in-Syscore c = record {
  kind = rw c.in-Syscore.is c.syscore_kind.ensures.kind;
  fits = c.syscore_kind.ensures.fits;
}

pub returns-in-Clear : goal.returns-in-Clear
returns-in-Clear c = record {
  kind = rw c.in-Clear.is refl;
  fits = refl;
}
