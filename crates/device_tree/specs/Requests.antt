-- Requests for a runtime status (drivers/base/power/runtime.c).
use Rattle.std.specs.Prelude.{Bool, ◌||◌, Option, Some, None, Result, Ok, Err}
use Rattle.sleep_base.specs.declared.errno.Errno.{Errno}
use Rattle.sleep_model.specs.declared.log.Runtime.{Runtime}
use Rattle.sleep_model.specs.Runtime.{runtime_answer}

-- what a request for a status is answered (__pm_runtime_set_status)
abbrev pub request_answer : Runtime → Bool → Option Errno
request_answer r to_suspended = runtime_answer (r.off_direct || r.off_late) r.prepared to_suspended

-- the device after an answer: 0 sets its status (__pm_runtime_set_status)
abbrev pub request_after : Option Errno → Bool → Runtime → Runtime
request_after None to_suspended r = record r { suspended = to_suspended }
request_after (Some error) to_suspended r = r

-- an answer of 0, or an error
abbrev pub request_result : Option Errno → Result (Unit {0}) Errno
request_result None = Ok tt
request_result (Some error) = Err error
