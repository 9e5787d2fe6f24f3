-- How the program ends: its status, and what it says on standard error (own).
use Rattle.std.specs.Prelude.{ℕ, List, [], ◌∷◌, ◌++◌, codes, decimal, string_bytes}
use Rattle.program_ending.specs.declared.ending.Ending.{Ending}
use Rattle.program_ending.specs.declared.ending.Ending.TheVariants.{Done, Stuck, Illegal, NoForm, ReadFault, WriteFault, Refused, NoMemory}
use Rattle.program_ending.specs.declared.refusal.Refusal.{Refusal}
use Rattle.program_ending.specs.declared.refusal.Refusal.TheVariants.{LongMachine, Broken, SourceFull, LongInput, BadLine, TooManyLinks, LinkCycle, LongLocks, BadLockLine}

-- the status if an input is refused
abbrev pub refusal_status : Refusal → ℕ
refusal_status (SourceFull name) = 7
refusal_status refusal = 3

-- the program's status
abbrev pub status_of : Ending → ℕ
status_of Done = 0
status_of Illegal = 1
status_of NoForm = 2
status_of ReadFault = 4
status_of WriteFault = 5
status_of Stuck = 6
status_of (Refused refusal) = refusal_status refusal
status_of NoMemory = 8

-- a line of standard error
abbrev pub error_line : List ℕ → List ℕ
error_line text = text ++ 10 ∷ []

-- what the program writes if an input is refused
abbrev pub refusal_text : Refusal → List ℕ
refusal_text LongMachine = error_line (codes "machine: longer than 16777216 bytes")
refusal_text (Broken rule place) = error_line (codes "machine: rule " ++ decimal rule ++ codes ": " ++ string_bytes place)
refusal_text (SourceFull name) = error_line (codes "source full: " ++ name)
refusal_text LongInput = error_line (codes "input: longer than 268435456 bytes")
refusal_text (BadLine n) = error_line (codes "log: line " ++ decimal n)
refusal_text TooManyLinks = error_line (codes "log: links")
refusal_text LinkCycle = error_line (codes "log: cycle")
refusal_text LongLocks = error_line (codes "locks: longer than 16777216 bytes")
refusal_text (BadLockLine n) = error_line (codes "locks: line " ++ decimal n)

-- what the program says on standard error
abbrev pub text_of : Ending → List ℕ
text_of Done = []
text_of Stuck = []
text_of Illegal = []
text_of NoForm = error_line (codes "usage: run [--workers N] or gen SEED DEVICES or soak SEED DEVICES or check or idle WAKERS EVENTS SESSIONS [--workers N] or locks or stats")
text_of ReadFault = error_line (codes "read fault")
text_of WriteFault = error_line (codes "write fault")
text_of (Refused refusal) = refusal_text refusal
text_of NoMemory = error_line (codes "want of memory")

-- ---- its pieces

-- the text of a refusal before its number or name
abbrev pub refusal_head : Refusal → List ℕ
refusal_head LongMachine = codes "machine: longer than 16777216 bytes"
refusal_head (Broken rule place) = codes "machine: rule "
refusal_head (SourceFull name) = codes "source full: "
refusal_head LongInput = codes "input: longer than 268435456 bytes"
refusal_head (BadLine n) = codes "log: line "
refusal_head TooManyLinks = codes "log: links"
refusal_head LinkCycle = codes "log: cycle"
refusal_head LongLocks = codes "locks: longer than 16777216 bytes"
refusal_head (BadLockLine n) = codes "locks: line "

-- the number of a rule or of a line, if the refusal has one
abbrev pub refusal_number : Refusal → List ℕ
refusal_number (Broken rule place) = decimal rule
refusal_number (BadLine n) = decimal n
refusal_number (BadLockLine n) = decimal n
refusal_number refusal = []

-- the place at which a rule is broken, or the name of a source, if the refusal has one
abbrev pub refusal_name : Refusal → List ℕ
refusal_name (Broken rule place) = string_bytes place
refusal_name (SourceFull name) = name
refusal_name refusal = []

-- what it says before a number or a name
abbrev pub head_of : Ending → List ℕ
head_of (Refused refusal) = refusal_head refusal
head_of ending = text_of ending

-- the number, if the ending has one
abbrev pub number_of : Ending → List ℕ
number_of (Refused refusal) = refusal_number refusal
number_of ending = []

-- what it says between a rule's number and its place
abbrev pub colon_of : Ending → List ℕ
colon_of (Refused (Broken rule place)) = codes ": "
colon_of ending = []

-- the place or the name, if the ending has one
abbrev pub name_of : Ending → List ℕ
name_of (Refused refusal) = refusal_name refusal
name_of ending = []

-- what it says after all that: the end of a refusal's line
abbrev pub tail_of : Ending → List ℕ
tail_of (Refused refusal) = error_line []
tail_of ending = []
