-- The members of operations and reports are in the order of their names.
use Rattle.std.proofs.Common.{◌≡◌, ℕ, List, true, refl}
use Rattle.sleep_model.specs.declared.machine.Machine.{Machine}
use Rattle.sleep_model.specs.declared.machine.Op.{Op}
use Rattle.sleep_model.specs.declared.machine.Op.TheVariants.{Read, Save, State, Autosleep, Sleep, SleepD, FreezePoint, Post, Wait, Runtime, Link, LinkState, Awake, Relax, Event}
use Rattle.sleep_model.specs.declared.machine.SourceCall.{SourceCall}
use Rattle.sleep_model.specs.declared.machine.SourceCall.TheVariants as call
use Rattle.machine_file.specs.Spelling.{op_rows, report_rows}
use Rattle.machine_file.proofs.Sheets.{are_rising}

pub op_rising : (m : Machine) (n : ℕ) (op : Op) → are_rising (op_rows m n op) ≡ true
op_rising m n Read = refl
op_rising m n (Save c) = refl
op_rising m n (State t b) = refl
op_rising m n (Autosleep t) = refl
op_rising m n (Sleep ms) = refl
op_rising m n (SleepD ms) = refl
op_rising m n FreezePoint = refl
op_rising m n (Post x) = refl
op_rising m n (Wait x) = refl
op_rising m n (Runtime d b) = refl
op_rising m n (Link s c) = refl
op_rising m n (LinkState s c b) = refl
op_rising m n (Awake s) = refl
op_rising m n (Relax s) = refl
op_rising m n (Event s ms b) = refl

pub report_rising : (s : List ℕ) (c : SourceCall) → are_rising (report_rows s c) ≡ true
report_rising s call.Awake = refl
report_rising s call.Relax = refl
report_rising s (call.Event ms b) = refl
report_rising s call.Expire = refl
