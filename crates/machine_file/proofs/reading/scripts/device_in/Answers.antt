use Rattle.borrowed_json.specs.View.{view}
use Rattle.file_rules.specs.Knows.{names}
use Rattle.machine_file.proofs.Keeping.{thing_named, thing_unnamed}
use Rattle.machine_file.proofs.reading.scripts.device_in.Goals as goal

pub returns-in-Some-clause-ok : goal.returns-in-Some-clause-ok
returns-in-Some-clause-ok c =
    thing_named c.args.member.now (names c.args.devices.now) (view c.args.value.now) c.in_ok-name.name.now c.in-Some.number c.in_ok-name.ensures.given c.in_ok-name.ensures.ok c.in-Some.ensures

pub returns-in-None-clause-err : goal.returns-in-None-clause-err
returns-in-None-clause-err c = thing_unnamed c.args.member.now (names c.args.devices.now) (view c.args.value.now) c.in_ok-name.name.now c.in_ok-name.ensures.ok c.in-None.ensures
