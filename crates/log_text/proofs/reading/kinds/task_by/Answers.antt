-- Proof by hand of `task_by`: what it returns, verb by verb, and by the lemmas of `OtherVerbs`.
use Rattle.std.proofs.Common.{◌∙◌, refl, sym}
use Rattle.log_text.proofs.OtherVerbs.{no_task}
use Rattle.log_text.proofs.reading.kinds.task_by.Goals as goal

pub returns-in_default-clause-kind : goal.returns-in_default-clause-kind
returns-in_default-clause-kind c =
    let w = c.in_default in
    c.auto_by.ensures.kind
    ∙ no_task c.args.machine_names.now c.args.verb c.args.text.now w.not-Frozen w.not-Read w.not-Save w.not-State w.not-Autosleep w.not-Sleep w.not-SleepD w.not-Slept w.not-Pass w.not-Post w.not-Got w.not-Exit w.not-Runtime w.not-Link w.not-LinkState

pub returns-in_default-clause-fits : goal.returns-in_default-clause-fits
returns-in_default-clause-fits c = c.auto_by.ensures.fits

pub returns-in-Frozen : goal.returns-in-Frozen
returns-in-Frozen c = record {
  kind = rw c.in-Frozen.is refl;
  fits = refl;
}

pub returns-in-Read : goal.returns-in-Read
returns-in-Read c = record {
  kind = rw (c.in-Read.is, c.read_kind.ensures.kind) refl;
  fits = c.read_kind.ensures.fits c.args.machine_names.now;
}

pub returns-in-Save : goal.returns-in-Save
returns-in-Save c = record {
  kind = rw c.in-Save.is c.save_kind.ensures.kind;
  fits = c.save_kind.ensures.fits c.args.machine_names.now;
}

pub returns-in-State : goal.returns-in-State
returns-in-State c = record {
  kind = rw (c.in-State.is, c.state_kind.ensures.kind) refl;
  fits = c.state_kind.ensures.fits c.args.machine_names.now;
}

pub returns-in-Autosleep : goal.returns-in-Autosleep
returns-in-Autosleep c = record {
  kind = rw (c.in-Autosleep.is, c.autosleep_kind.ensures.kind) refl;
  fits = c.autosleep_kind.ensures.fits c.args.machine_names.now;
}

pub returns-in-Slept : goal.returns-in-Slept
returns-in-Slept c = record {
  kind = rw c.in-Slept.is refl;
  fits = refl;
}

pub returns-in-Pass : goal.returns-in-Pass
returns-in-Pass c = record {
  kind = rw c.in-Pass.is refl;
  fits = refl;
}

pub returns-in-Exit : goal.returns-in-Exit
returns-in-Exit c = record {
  kind = rw c.in-Exit.is refl;
  fits = refl;
}

pub returns-in-Runtime : goal.returns-in-Runtime
returns-in-Runtime c = record {
  kind = rw c.in-Runtime.is c.runtime_kind.ensures.kind;
  fits = c.runtime_kind.ensures.fits;
}

pub returns-in-Link : goal.returns-in-Link
returns-in-Link c = record {
  kind = rw c.in-Link.is c.link_kind.ensures.kind;
  fits = c.link_kind.ensures.fits;
}

pub returns-in-LinkState : goal.returns-in-LinkState
returns-in-LinkState c = record {
  kind = rw c.in-LinkState.is c.link_state_kind.ensures.kind;
  fits = c.link_state_kind.ensures.fits;
}

pub returns-in_ok-word64-in-Sleep : goal.returns-in_ok-word64-in-Sleep
returns-in_ok-word64-in-Sleep c = record {
  kind = rw (c.in-Sleep.is, sym c.word64.ensures.number ∙ c.in_ok-word64-in-Sleep.was) refl;
  fits = c.in_ok-word64-in-Sleep.ensures.fits;
}

pub returns-in_ok-word64-in-SleepD : goal.returns-in_ok-word64-in-SleepD
returns-in_ok-word64-in-SleepD c = record {
  kind = rw (c.in-SleepD.is, sym c.word64-in-SleepD.ensures.number ∙ c.in_ok-word64-in-SleepD.was) refl;
  fits = c.in_ok-word64-in-SleepD.ensures.fits;
}

pub returns-in_ok-mark-in-Post : goal.returns-in_ok-mark-in-Post
returns-in_ok-mark-in-Post c = record {
  kind = rw (c.in-Post.is, sym c.mark.ensures.place ∙ c.in_ok-mark-in-Post.was) refl;
  fits = c.in_ok-mark-in-Post.ensures.within;
}

pub returns-in_ok-mark-in-Got : goal.returns-in_ok-mark-in-Got
returns-in_ok-mark-in-Got c = record {
  kind = rw (c.in-Got.is, sym c.mark-in-Got.ensures.place ∙ c.in_ok-mark-in-Got.was) refl;
  fits = c.in_ok-mark-in-Got.ensures.within;
}
