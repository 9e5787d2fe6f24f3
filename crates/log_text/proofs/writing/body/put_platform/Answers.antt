-- The words that were put, entry by entry.
use Rattle.std.proofs.Common.{arith, refl}
use Rattle.log_text.proofs.writing.body.put_platform.Goals as goal

pub returns-in-PlatformDo : goal.returns-in-PlatformDo
returns-in-PlatformDo c = record {
  text = rw (c.put_three_words.ensures.text, c.in-PlatformDo.is) refl;
  few = omega (arith, c.put_three_words.ensures.few);
}

pub returns-in-PlatformUndo : goal.returns-in-PlatformUndo
returns-in-PlatformUndo c = record {
  text = rw (c.put_two_words.ensures.text, c.in-PlatformUndo.is) refl;
  few = omega (arith, c.put_two_words.ensures.few);
}

pub returns-in-CpuOff : goal.returns-in-CpuOff
returns-in-CpuOff c = record {
  text = rw (c.put_three_words-in-CpuOff.ensures.text, c.in-CpuOff.is) refl;
  few = omega (arith, c.put_three_words-in-CpuOff.ensures.few);
}

pub returns-in-CpuBusy : goal.returns-in-CpuBusy
returns-in-CpuBusy c = record {
  text = rw (c.put_three_words-in-CpuBusy.ensures.text, c.in-CpuBusy.is) refl;
  few = omega (arith, c.put_three_words-in-CpuBusy.ensures.few);
}

pub returns-in-CpuOn : goal.returns-in-CpuOn
returns-in-CpuOn c = record {
  text = rw (c.put_three_words-in-CpuOn.ensures.text, c.in-CpuOn.is) refl;
  few = omega (arith, c.put_three_words-in-CpuOn.ensures.few);
}

pub returns-in-SyscoreCheck : goal.returns-in-SyscoreCheck
returns-in-SyscoreCheck c = record {
  text = rw (c.put_three_words-in-SyscoreCheck.ensures.text, c.in-SyscoreCheck.is) refl;
  few = omega (arith, c.put_three_words-in-SyscoreCheck.ensures.few);
}

pub returns-in-SyscoreSuspend : goal.returns-in-SyscoreSuspend
returns-in-SyscoreSuspend c = record {
  text = rw (c.put_four_words.ensures.text, c.syscore.ensures, c.in-SyscoreSuspend.is) refl;
  few = omega (arith, c.put_four_words.ensures.few);
}

pub returns-in-SyscoreResume : goal.returns-in-SyscoreResume
returns-in-SyscoreResume c = record {
  text = rw (c.put_three_words-in-SyscoreResume.ensures.text, c.syscore-in-SyscoreResume.ensures, c.in-SyscoreResume.is) refl;
  few = omega (arith, c.put_three_words-in-SyscoreResume.ensures.few);
}

pub returns-in-Clear : goal.returns-in-Clear
returns-in-Clear c = record {
  text = rw (c.put_on-in-Clear.ensures.text, c.in-Clear.is) refl;
  few = omega (arith, c.put_on-in-Clear.ensures.few);
}
