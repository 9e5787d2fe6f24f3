-- What the command line's parser knows, and what its matches ask for.
use Rattle.std.specs.Prelude.{ℕ, ◌&&◌, nat_le, Bool, not, true, List, [], ◌∷◌, length, codes, bytes_eq, Option, Some, None, option_and_then, if◌then◌else◌}
use Rattle.std.specs.List.{list_any}
use Rattle.std.specs.Option.{option_map_or}
use Rattle.clap.specs.Simple.{on_top}
use Rattle.clap.specs.Words.{App, Row, Rule, Shape, first_of, new_app, new_rule, with_rule, with_subcommand}
use Rattle.command_line.specs.declared.command.Command.{Command}
use Rattle.command_line.specs.declared.command.Command.TheVariants.{Run, Gen, Soak, Check, Locks, Stats}
use Rattle.command_line.specs.Words.{workers_of, seeded_of}

-- the word that ends a command line's options
abbrev pub is_end_of_options : List ℕ → Bool
is_end_of_options word = bytes_eq word (codes "--")

-- one to three words, and none ends the options
abbrev pub are_few : List (List ℕ) → Bool
are_few words = nat_le 1 (length words) && (nat_le (length words) 3 && not (list_any is_end_of_options words))

-- the option of a number of workers
abbrev pub workers_rule : Rule
workers_rule = record (new_rule (codes "workers")) { long = Some (codes "workers") }

-- a word that has to be there
abbrev pub wanted_rule : List ℕ → Rule
wanted_rule id = record (new_rule id) { required = true }

-- run, with its option
abbrev pub run_app : App
run_app = with_rule (new_app (codes "run")) workers_rule

-- a command of a seed and a number of devices
abbrev pub seeded_app : List ℕ → App
seeded_app name = with_rule (with_rule (new_app name) (wanted_rule (codes "seed"))) (wanted_rule (codes "devices"))

-- no word asks for help
abbrev pub without_help : Shape → Shape
without_help s = record s { disable_help_flag = true; disable_help_subcommand = true }

-- a command without words of its own
abbrev pub alone_app : List ℕ → App
alone_app name = new_app name

-- the six commands
abbrev pub whole_app : App
whole_app =
    with_subcommand (with_subcommand (with_subcommand (with_subcommand (with_subcommand (with_subcommand (on_top without_help (new_app (codes "sleep"))) run_app.top)
    (seeded_app (codes "gen")).top) (seeded_app (codes "soak")).top) (alone_app (codes "locks")).top) (alone_app (codes "stats")).top) (alone_app (codes "check")).top

-- what the matches of run ask for
abbrev pub run_read : List Row → Option Command
run_read rows = option_map_or workers_of (first_of (codes "workers") rows) (Some (Run 4))

-- what the matches of a seed and a number of devices ask for
abbrev pub seeded_read : (ℕ → ℕ → Command) → List Row → Option Command
seeded_read make rows = option_and_then (λ seed. option_and_then (λ devices. seeded_of make (seed ∷ devices ∷ []))
    (first_of (codes "devices") rows)) (first_of (codes "seed") rows)

-- what the matches of a command without words of its own ask for
abbrev pub alone_read : Command → List Row → Option Command
alone_read what rows = Some what

-- what the matches ask for
abbrev pub command_read : Option (List ℕ × List Row) → Option Command
command_read None = None
command_read (Some p) =
    if bytes_eq p.0 (codes "run") then run_read p.1 else if bytes_eq p.0 (codes "gen") then seeded_read Gen p.1
    else if bytes_eq p.0 (codes "soak") then seeded_read Soak p.1 else if bytes_eq p.0 (codes "locks") then alone_read Locks p.1
    else if bytes_eq p.0 (codes "stats") then alone_read Stats p.1 else if bytes_eq p.0 (codes "check") then alone_read Check p.1
    else None
