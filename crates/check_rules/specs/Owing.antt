-- What an attempt may owe, in two parts.
use Rattle.std.specs.Prelude.{◌≡◌, false, List, length, map, replicate, None}
use Rattle.phase_table.specs.declared.phase.Phase.TheVariants as phase
use Rattle.sleep_model.specs.declared.entry.Entry.{Entry}
use Rattle.sleep_model.specs.declared.machine.Machine.{Machine}
use Rattle.sleep_model.specs.declared.machine.PlatDo.TheVariants as down
use Rattle.sleep_model.specs.declared.machine.Script.{Script}
use Rattle.sleep_model.specs.Attempt.{sleeps_now}
use Rattle.sleep_model.specs.Devices.{callback}
use Rattle.sleep_model.specs.Freezer.{freezings, unasked}
use Rattle.sleep_model.specs.Laws.{NoneIsInPhase}
use Rattle.sleep_model.specs.Notifiers.{cpus_off, irqs_off, owes_platform, stopped, notified_flags}

-- nothing is owed to devices, processors and the core (dpm_complete, thaw_secondary_cpus, syscore_resume)
pub record NoDeviceOwed (m : Machine) (past : List Entry) : Type 0 where
  pub suspend : NoneIsInPhase m phase.Suspend past
  pub late : NoneIsInPhase m phase.Late past
  pub noirq : NoneIsInPhase m phase.Noirq past
  pub callbacks : callback past ≡ None
  pub cpus : cpus_off m.cpus past ≡ replicate m.cpus false
  pub irqs : irqs_off past ≡ false
  pub syscore : stopped (length m.syscore) past ≡ replicate (length m.syscore) false

-- nothing is owed to notifiers, tasks and the platform (suspend_finish, platform_resume_end)
pub record NoTaskOwed (m : Machine) (past : List Entry) : Type 0 where
  pub notifiers : notified_flags m past ≡ replicate (length m.notifiers) false
  pub tasks : freezings m.actors past ≡ map (λ (s : Script). unasked) m.actors
  pub begun : owes_platform down.Begin past ≡ false
  pub prepared : owes_platform down.Prepare past ≡ false
  pub prepared_late : owes_platform down.PrepareLate past ≡ false
  pub awake : sleeps_now past ≡ false
