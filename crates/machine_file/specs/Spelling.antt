-- How a machine is written: the compact text of its value, without what has its default.
use Rattle.std.specs.Prelude.{ℕ, List, [], ◌∷◌, ◌++◌, codes, Bool, true, ◌==◌, ℤ, pos, map, Option, Some, None, option_map, if◌then◌else◌}
use Rattle.serde_json.specs.Data.{Data, boolean, number, string, array, object, unsigned, Items, no_items, item, Members, no_members, put}
use Rattle.serde_json.specs.Find.{of_integer}
use Rattle.serde_json.specs.Written.{compact_text}
use Rattle.sleep_base.specs.declared.errno.Errno.{Errno}
use Rattle.sleep_base.specs.Errno.{name_of as error_name}
use Rattle.sleep_model.specs.declared.machine.Answer.{Answer}
use Rattle.sleep_model.specs.declared.machine.Device.{Device}
use Rattle.sleep_model.specs.declared.machine.Link.{Link as DeviceLink}
use Rattle.sleep_model.specs.declared.machine.Machine.{Machine}
use Rattle.sleep_model.specs.declared.machine.Notifier.{Notifier}
use Rattle.sleep_model.specs.declared.machine.Op.{Op}
use Rattle.sleep_model.specs.declared.machine.Op.TheVariants.{Read, Save, State, Autosleep, Sleep, SleepD, FreezePoint, Post, Wait, Runtime, Link, LinkState, Awake, Relax, Event}
use Rattle.sleep_model.specs.declared.machine.Report.{Report}
use Rattle.sleep_model.specs.declared.machine.Script.{Script}
use Rattle.sleep_model.specs.declared.machine.SourceCall.{SourceCall}
use Rattle.sleep_model.specs.declared.machine.SourceCall.TheVariants as call
use Rattle.sleep_model.specs.declared.machine.Step.{Step}
use Rattle.sleep_model.specs.declared.machine.What.{What}
use Rattle.sleep_model.specs.declared.machine.What.TheVariants as what
use Rattle.sleep_model.specs.Answers.{error_of_number}
use Rattle.sleep_model.specs.Runtime.{has_bit, is_async, may_wake}
use Rattle.phase_table.specs.Phases.{phase_name}
use Rattle.sleep_model.specs.Text.{down_word, kind_word, runtime_word, link_word, newline, device, source, syscore, notifier, mark}
use Rattle.file_rules.specs.Form.{Named, row}
use Rattle.file_rules.specs.Whole.{SpellsWhole, IsSpelled}

-- ---- values

-- a whole number
abbrev pub count : ℕ → Data
count n = number (unsigned n)

-- the items of a list
abbrev pub as_items : List Data → Items
as_items [] = no_items
as_items (d ∷ ds) = item d (as_items ds)

-- the member, if it has a value
abbrev pub put_if : List ℕ → Option Data → Members → Members
put_if name None members = members
put_if name (Some d) members = put name d members

-- the members of these rows that have a value; each table below has its rows in the order of their names
abbrev pub as_members : List (Named (Option Data)) → Members
as_members [] = no_members
as_members (r ∷ rows) = put_if r.name r.is (as_members rows)

-- the object of these rows
abbrev pub object_of : List (Named (Option Data)) → Data
object_of rows = object (as_members rows)

-- what is always written
abbrev pub always : List ℕ → Data → Named (Option Data)
always name d = row name (Some d)

-- a number, unless it has its default
abbrev pub count_unless : List ℕ → ℕ → ℕ → Named (Option Data)
count_unless name default n = row name (if n == default then None else Some (count n))

-- the value true if it holds
abbrev pub true_if : List ℕ → Bool → Named (Option Data)
true_if name holds = row name (if holds then Some (boolean true) else None)

-- a list, unless it is empty
abbrev pub list_unless_empty : List Data → Option Data
list_unless_empty [] = None
list_unless_empty ds = Some (array (as_items ds))

-- a list at a member, unless it is empty
abbrev pub list_if : List ℕ → List Data → Named (Option Data)
list_if name ds = row name (list_unless_empty ds)

-- a text at a member
abbrev pub text_row : List ℕ → List ℕ → Named (Option Data)
text_row name text = always name (string text)

-- ---- the parts of a machine

-- the members of a device
abbrev pub device_rows : Machine → Device → List (Named (Option Data))
device_rows m d =
    true_if (codes "async") (is_async d)
    ∷ text_row (codes "name") d.name
    ∷ row (codes "parent") (option_map (λ p. string (device m p)) d.parent)
    ∷ row (codes "runtime") (if has_bit 4 d.flags then Some (string (codes "suspended")) else None)
    ∷ true_if (codes "wakeup") (may_wake d)
    ∷ []

-- a device
abbrev pub device_value : Machine → Device → Data
device_value m d = object_of (device_rows m d)

-- the members of a link
abbrev pub link_rows : Machine → DeviceLink → List (Named (Option Data))
link_rows m l =
    text_row (codes "consumer") (device m l.consumer)
    ∷ row (codes "state") (if l.active then None else Some (string (codes "dormant")))
    ∷ text_row (codes "supplier") (device m l.supplier)
    ∷ []

-- a link
abbrev pub link_value : Machine → DeviceLink → Data
link_value m l = object_of (link_rows m l)

-- a whole number, unless it is 0
abbrev pub integer_unless_zero : ℤ → Option Data
integer_unless_zero (pos n) = if n == 0 then None else Some (count n)
integer_unless_zero z = Some (number (of_integer z))

-- the members of a notifier
abbrev pub notifier_rows : Notifier → List (Named (Option Data))
notifier_rows x = text_row (codes "name") x.name ∷ row (codes "priority") (integer_unless_zero x.priority) ∷ []

-- a notifier
abbrev pub notifier_value : Notifier → Data
notifier_value x = object_of (notifier_rows x)

-- the word of an operation
abbrev pub op_member : List ℕ → Named (Option Data)
op_member word = text_row (codes "op") word

-- how often an operation is made
abbrev pub times : ℕ → Named (Option Data)
times n = count_unless (codes "times") 1 n

-- the members of an operation that is made so often
abbrev pub op_rows : Machine → ℕ → Op → List (Named (Option Data))
op_rows m n Read = op_member (codes "read") ∷ times n ∷ []
op_rows m n (Save c) = row (codes "count") (option_map count c) ∷ op_member (codes "save") ∷ times n ∷ []
op_rows m n (State text if_saved) = true_if (codes "if_saved") if_saved ∷ op_member (codes "state") ∷ text_row (codes "text") text ∷ times n ∷ []
op_rows m n (Autosleep text) = op_member (codes "autosleep") ∷ text_row (codes "text") text ∷ times n ∷ []
op_rows m n (Sleep ms) = always (codes "ms") (count ms) ∷ op_member (codes "sleep") ∷ times n ∷ []
op_rows m n (SleepD ms) = always (codes "ms") (count ms) ∷ op_member (codes "sleep_d") ∷ times n ∷ []
op_rows m n FreezePoint = op_member (codes "freeze_point") ∷ times n ∷ []
op_rows m n (Post x) = text_row (codes "mark") (mark m x) ∷ op_member (codes "post") ∷ times n ∷ []
op_rows m n (Wait x) = text_row (codes "mark") (mark m x) ∷ op_member (codes "wait") ∷ times n ∷ []
op_rows m n (Runtime d suspended) = text_row (codes "device") (device m d) ∷ op_member (codes "runtime") ∷ times n ∷ text_row (codes "to") (runtime_word suspended) ∷ []
op_rows m n (Link supplier consumer) = text_row (codes "consumer") (device m consumer) ∷ op_member (codes "link") ∷ text_row (codes "supplier") (device m supplier) ∷ times n ∷ []
op_rows m n (LinkState supplier consumer active) = text_row (codes "consumer") (device m consumer) ∷ op_member (codes "link_state") ∷ text_row (codes "supplier") (device m supplier) ∷ times n ∷ text_row (codes "to") (link_word active) ∷ []
op_rows m n (Awake s) = op_member (codes "awake") ∷ text_row (codes "source") (source m s) ∷ times n ∷ []
op_rows m n (Relax s) = op_member (codes "relax") ∷ text_row (codes "source") (source m s) ∷ times n ∷ []
op_rows m n (Event s ms hard) = true_if (codes "hard") hard ∷ count_unless (codes "ms") 0 ms ∷ op_member (codes "event") ∷ text_row (codes "source") (source m s) ∷ times n ∷ []

-- an operation, and how often it is made
abbrev pub step_value : Machine → Step → Data
step_value m s = object_of (op_rows m s.times s.op)

-- the members of an actor
abbrev pub script_rows : Machine → Script → List (Named (Option Data))
script_rows m s =
    text_row (codes "kind") (kind_word s.kind)
    ∷ text_row (codes "name") s.name
    ∷ count_unless (codes "repeat") 1 s.repeat
    ∷ list_if (codes "script") (map (step_value m) s.steps)
    ∷ []

-- an actor
abbrev pub script_value : Machine → Script → Data
script_value m s = object_of (script_rows m s)

-- what kind of thing an answer is of
abbrev pub thing_word : What → List ℕ
thing_word (what.Device d p) = codes "device"
thing_word (what.Syscore x) = codes "syscore"
thing_word (what.Notifier x) = codes "notifier"
thing_word (what.Platform step) = codes "platform"

-- the name of the thing that an answer is of
abbrev pub thing_name : Machine → What → List ℕ
thing_name m (what.Device d p) = device m d
thing_name m (what.Syscore x) = syscore m x
thing_name m (what.Notifier x) = notifier m x
thing_name m (what.Platform step) = down_word step

-- the phase in which a device answers
abbrev pub thing_phase : What → Option Data
thing_phase (what.Device d p) = Some (string (phase_name p))
thing_phase _ = None

-- an error's name; and else the number, unless it is 0
abbrev pub error_or : Option Errno → ℤ → Option Data
error_or (Some e) z = Some (string (error_name e))
error_or None z = integer_unless_zero z

-- the members of a report of that source
abbrev pub report_rows : List ℕ → SourceCall → List (Named (Option Data))
report_rows source call.Awake = text_row (codes "call") (codes "awake") ∷ text_row (codes "source") source ∷ []
report_rows source call.Relax = text_row (codes "call") (codes "relax") ∷ text_row (codes "source") source ∷ []
report_rows source (call.Event ms hard) = text_row (codes "call") (codes "event") ∷ true_if (codes "hard") hard ∷ count_unless (codes "ms") 0 ms ∷ text_row (codes "source") source ∷ []
report_rows source call.Expire = text_row (codes "source") source ∷ []

-- a report
abbrev pub report_value : Machine → Report → Data
report_value m r = object_of (report_rows (source m r.source) r.call)

-- the members of an answer
abbrev pub answer_rows : Machine → Answer → List (Named (Option Data))
answer_rows m a =
    row (codes "attempt") (option_map count a.attempt)
    ∷ text_row (codes "name") (thing_name m a.what)
    ∷ row (codes "phase") (thing_phase a.what)
    ∷ list_if (codes "reports") (map (report_value m) a.reports)
    ∷ row (codes "ret") (error_or (error_of_number a.ret) a.ret)
    ∷ text_row (codes "what") (thing_word a.what)
    ∷ []

-- an answer
abbrev pub answer_value : Machine → Answer → Data
answer_value m a = object_of (answer_rows m a)

-- ---- the machine

-- the members of a machine
abbrev pub machine_rows : Machine → List (Named (Option Data))
machine_rows m =
    list_if (codes "actors") (map (script_value m) m.actors)
    ∷ count_unless (codes "alarm_ms") 1000 m.alarm_ms
    ∷ list_if (codes "answers") (map (answer_value m) m.answers)
    ∷ count_unless (codes "auto_cycles") 16 m.auto_cycles
    ∷ count_unless (codes "cpus") 1 m.cpus
    ∷ list_if (codes "devices") (map (device_value m) m.devices)
    ∷ list_if (codes "links") (map (link_value m) m.links)
    ∷ list_if (codes "notifiers") (map notifier_value m.notifiers)
    ∷ list_if (codes "sources") (map string m.sources)
    ∷ list_if (codes "syscore") (map string m.syscore)
    ∷ always (codes "version") (count 2)
    ∷ []

-- the value of a machine
abbrev pub machine_value : Machine → Data
machine_value m = object_of (machine_rows m)

-- the bytes of a machine's file, with a newline at their end
abbrev pub spelling : Machine → List ℕ
spelling m = compact_text (machine_value m) ++ newline

-- what is written for the machine spells it again
abbrev pub ReadsBack : Machine → Type 0
ReadsBack m = SpellsWhole (spelling m) m

-- so it is of each machine that some file spells
abbrev pub AllReadBack : Type 0
AllReadBack = (m : Machine) → IsSpelled m → ReadsBack m
