-- What the words of the command line ask for.
use Rattle.std.specs.Prelude.{ℕ, ◌≤◌, ◌+◌, ◌-◌, ◌*◌, ◌^◌, List, [], ◌∷◌, length, codes, Bool, true, false, ◌&&◌, ◌||◌, ◌++◌, take, drop, bytes_eq, nat_le, nat_lt, fold, Option, Some, None, option_map, option_and_then, if◌then◌else◌}
use Rattle.std.specs.List.{list_all, position_or_len}
use Rattle.sleep_base.specs.Digits.{is_digit}
use Rattle.command_line.specs.declared.command.Command.{Command}
use Rattle.command_line.specs.declared.command.Command.TheVariants.{Run, Gen, Soak, Check, Locks, Stats, Idle}

-- the first is no 0 before others
abbrev pub has_no_zero_before : List ℕ → Bool
has_no_zero_before [] = false
has_no_zero_before (b ∷ []) = true
has_no_zero_before (b ∷ c ∷ bs) = nat_lt 48 b

-- the number of these digits
abbrev pub value_of : List ℕ → ℕ
value_of word = fold (λ n b. 10 * n + (b - 48)) 0 word

-- the number that a word is, if it is one of this range: decimal digits, and no 0 before others
abbrev pub number_in : ℕ → ℕ → List ℕ → Option ℕ
number_in least most word =
    if list_all is_digit word && has_no_zero_before word && nat_le least (value_of word) && nat_le (value_of word) most
    then Some (value_of word) else None

-- how many workers a word asks for
abbrev pub workers_of : List ℕ → Option Command
workers_of word = option_map Run (number_in 1 64 word)

-- what comes before a worker's number in one word
abbrev pub workers_prefix : List ℕ
workers_prefix = codes "--workers="

-- one word for both
abbrev pub workers_in : List ℕ → Option Command
workers_in word =
    if bytes_eq (take (length workers_prefix) word) workers_prefix then workers_of (drop (length workers_prefix) word)
    else None

-- the words after run
abbrev pub run_of : List (List ℕ) → Option Command
run_of [] = Some (Run 4)
run_of (word ∷ []) = workers_in word
run_of (word ∷ n ∷ []) = if bytes_eq word (codes "--workers") then workers_of n else None
run_of _ = None

-- a seed and a number of devices
abbrev pub seeded_of : (ℕ → ℕ → Command) → List (List ℕ) → Option Command
seeded_of make (seed ∷ devices ∷ []) =
    option_and_then (λ s. option_map (make s) (number_in 1 1000 devices)) (number_in 0 (2 ^ 64 - 1) seed)
seeded_of make _ = None

-- no word after a command that has none of its own
abbrev pub alone_of : Command → List (List ℕ) → Option Command
alone_of what [] = Some what
alone_of what _ = None

-- the words after the program's name, of a form that the parser knows
abbrev pub command_in : List (List ℕ) → Option Command
command_in [] = None
command_in (word ∷ words) =
    if bytes_eq word (codes "run") then run_of words else if bytes_eq word (codes "gen") then seeded_of Gen words
    else if bytes_eq word (codes "soak") then seeded_of Soak words else if bytes_eq word (codes "locks") then alone_of Locks words
    else if bytes_eq word (codes "stats") then alone_of Stats words else if bytes_eq word (codes "check") then alone_of Check words
    else None

-- what these words ask for, of a form that the parser knows; the first is the program's name
abbrev pub parsed_of : List (List ℕ) → Option Command
parsed_of [] = None
parsed_of (name ∷ words) = command_in words

-- how many workers one word asks for
abbrev pub workers_number : List ℕ → Option ℕ
workers_number word =
    if bytes_eq (take (length workers_prefix) word) workers_prefix then number_in 1 64 (drop (length workers_prefix) word)
    else None

-- the option begins with this word: by itself, or in one word with its number
abbrev pub begins_option : List ℕ → Bool
begins_option word = bytes_eq word (codes "--workers") || bytes_eq (take (length workers_prefix) word) workers_prefix

-- how many words come before the option; all, if there is none
abbrev pub option_index : List (List ℕ) → ℕ
option_index words = position_or_len begins_option words

-- how many workers the option asks for that begins these words; four, if no word is left
abbrev pub workers_named : List (List ℕ) → Option ℕ
workers_named [] = Some 4
workers_named (word ∷ []) = workers_number word
workers_named (word ∷ n ∷ words) = if bytes_eq word (codes "--workers") then number_in 1 64 n else workers_number word

-- the words after the option that begins these
abbrev pub after_option : List (List ℕ) → List (List ℕ)
after_option [] = []
after_option (word ∷ []) = []
after_option (word ∷ n ∷ words) = if bytes_eq word (codes "--workers") then words else n ∷ words

-- a run of the sizes that three words spell
abbrev pub idle_sized : List ℕ → List ℕ → List ℕ → ℕ → Option Command
idle_sized wakers events sessions workers =
    option_and_then (λ w. option_and_then (λ e. option_map (λ s. Idle w e s workers) (number_in 1 1000 sessions)) (number_in 1 1000 events)) (number_in 1 16 wakers)

-- a run of the sizes that words spell, which are three
abbrev pub idle_sizes : List (List ℕ) → ℕ → Option Command
idle_sizes (wakers ∷ events ∷ sessions ∷ []) workers = idle_sized wakers events sessions workers
idle_sizes _ workers = None

-- the words after idle: the sizes, with the option before, between or after them. If the option comes twice, the second one is no size.
abbrev pub idle_of : List (List ℕ) → Option Command
idle_of words =
    let place = option_index words in
    option_and_then (λ n. idle_sizes (take place words ++ after_option (drop place words)) n) (workers_named (drop place words))

-- what these words ask for, if they are of a form; the first is the program's name
abbrev pub command_of : List (List ℕ) → Option Command
command_of [] = None
command_of (name ∷ []) = None
command_of (name ∷ word ∷ words) = if bytes_eq word (codes "idle") then idle_of words else command_in (word ∷ words)

-- the numbers that a command carries are in their ranges
abbrev pub IsInRange : Command → Type 0
IsInRange (Run workers) = (1 ≤ workers) × (workers ≤ 64)
IsInRange (Gen seed devices) = (1 ≤ devices) × (devices ≤ 1000)
IsInRange (Soak seed devices) = (1 ≤ devices) × (devices ≤ 1000)
IsInRange Check = Unit {0}
IsInRange Locks = Unit {0}
IsInRange Stats = Unit {0}
IsInRange (Idle wakers events sessions workers) =
    ((1 ≤ wakers) × (wakers ≤ 16)) × ((1 ≤ events) × (events ≤ 1000)) × ((1 ≤ sessions) × (sessions ≤ 1000)) × ((1 ≤ workers) × (workers ≤ 64))
