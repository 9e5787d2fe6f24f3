-- Why a call on a source was refused.
use Rattle.std.specs.Prelude.{ℕ}
use Rattle.wakeup_source.specs.declared.fault.SourceFault.{SourceFault}
use Rattle.wakeup_source.specs.declared.fault.SourceFault.TheVariants as source
use Rattle.world_workers.specs.declared.fault.RunFault.{RunFault}
use Rattle.world_workers.specs.declared.fault.RunFault.TheVariants as fault

-- why a call on that source was refused
abbrev pub run_fault : SourceFault → ℕ → RunFault
run_fault source.Full s = fault.SourceFull s
run_fault source.Mem s = fault.Mem
