-- How many steps scripts make, counted in one pass.
use Rattle.std.specs.Prelude.{ℕ, ◌+◌, ◌*◌, ◌||◌, List, min, Bool, true, sum_by, if◌then◌else◌}
use Rattle.std.specs.List.{list_any}
use Rattle.serde_json.specs.Data.{Data}
use Rattle.sleep_model.specs.declared.machine.Op.{Op}
use Rattle.sleep_model.specs.declared.machine.Script.{Script}
use Rattle.sleep_model.specs.declared.machine.Step.{Step}
use Rattle.sleep_model.specs.Places.{is_autosleep, is_link_step as adds_link, is_state}
use Rattle.file_rules.specs.declared.rules.limits.Steps.{Steps}
use Rattle.file_rules.specs.Limits.{script_steps, is_state_step, is_link_step, has_autosleep}

-- what is larger counts as this much
abbrev pub capped : ℕ → ℕ
capped n = min n 1000000

-- every operation of a file
abbrev pub any_step : Data → Bool
any_step o = true

-- every operation of a script
abbrev pub any_op : Op → Bool
any_op op = true

-- a step counts as often as it is made, if its operation passes
abbrev pub times_made : (Op → Bool) → Step → ℕ
times_made test step = if test step.op then step.times else 0

-- how many steps a script makes whose operations pass
abbrev pub steps_made : (Op → Bool) → Script → ℕ
steps_made test script = script.repeat * sum_by (times_made test) script.steps

-- a step that writes to autosleep
abbrev pub writes_autosleep : Step → Bool
writes_autosleep step = is_autosleep step.op

-- a script with such a step
abbrev pub has_autosleep_step : Script → Bool
has_autosleep_step script = list_any writes_autosleep script.steps

-- the steps and a step more
abbrev pub with_step : Steps → Step → Steps
with_step s step = record {
  all = capped (s.all + step.times);
  state = capped (s.state + times_made is_state step);
  link = capped (s.link + times_made adds_link step);
  autosleep = s.autosleep || writes_autosleep step;
}

-- the steps of a script that is made once
abbrev pub steps_once : List Step → Steps
steps_once steps = record {
  all = capped (sum_by (times_made any_op) steps);
  state = capped (sum_by (times_made is_state) steps);
  link = capped (sum_by (times_made adds_link) steps);
  autosleep = list_any writes_autosleep steps;
}

-- the steps that are made so often
abbrev pub repeated_steps : ℕ → Steps → Steps
repeated_steps n s = record { all = capped (n * s.all); state = capped (n * s.state); link = capped (n * s.link); autosleep = s.autosleep }

-- the steps of a script
abbrev pub steps_of_script : Script → Steps
steps_of_script script = record {
  all = capped (steps_made any_op script);
  state = capped (steps_made is_state script);
  link = capped (steps_made adds_link script);
  autosleep = has_autosleep_step script;
}

-- these steps and those
abbrev pub joined_steps : Steps → Steps → Steps
joined_steps s t = record { all = capped (s.all + t.all); state = capped (s.state + t.state); link = capped (s.link + t.link); autosleep = s.autosleep || t.autosleep }

-- the steps of scripts
abbrev pub steps_of_scripts : List Script → Steps
steps_of_scripts scripts = record {
  all = capped (sum_by (steps_made any_op) scripts);
  state = capped (sum_by (steps_made is_state) scripts);
  link = capped (sum_by (steps_made adds_link) scripts);
  autosleep = list_any has_autosleep_step scripts;
}

-- the steps that a file says of its actors
abbrev pub steps_of_actors : List Data → Steps
steps_of_actors actors = record {
  all = capped (sum_by (script_steps any_step) actors);
  state = capped (sum_by (script_steps is_state_step) actors);
  link = capped (sum_by (script_steps is_link_step) actors);
  autosleep = list_any has_autosleep actors;
}
