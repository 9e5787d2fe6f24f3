-- Proof that `Jobs::of_tasks` meets its contract.
use Rattle.std.proofs.Common.{◌<◌, length, List, sym, subst}
use Rattle.sleep_script.specs.Jobs.{JobState}
use Rattle.machine_rounds.specs.TasksOf.{AreJobsOf, jobs_in}
use Rattle.machine_rounds.proofs.CameBack.{parts_of}
use Rattle.machine_rounds.proofs.jobs.Jobs.of_tasks.Goals as goal

pub returns : goal.returns
returns c =
    subst (AreJobsOf (jobs_in c.args.tasks.items) c.args.scripts) (sym c.counted.ensures)
    (subst (λ (all : List JobState). AreJobsOf all c.args.scripts (record { scripts = c.pop.new.self.items; auto = c.in-Some.auto; devices = c.in_ok-devices.devices.items })) c.in_ok-all.ensures
    (parts_of c.in_ok-all.all.items c.split_off.new.self.items c.pop.new.self.items c.in_ok-devices.devices.items c.in-Some.auto c.args.scripts
    (subst (λ (all : List JobState). c.args.scripts < length all) (sym c.in_ok-all.ensures) c.requires.there)
    c.in_ok-devices.ensures.items c.in_ok-devices.ensures.tail
    c.in-Some.ensures.items))
