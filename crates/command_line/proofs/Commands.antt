-- The commands that the parser is given.
use Rattle.std.proofs.Common.{◌≡◌, ◌∙◌, true, false, refl, ap, ap₂, codes}
use Rattle.std.proofs.lemmas.Bool.{not-true}
use Rattle.clap.specs.Built.{AddsSubcommand}
use Rattle.clap.specs.Simple.{App, app_of, app_of_fields, new_app, on_top, with_subcommand}
use Rattle.clap.specs.declared.builder.command.Command.{Command}
use Rattle.clap.specs.declared.builder.command.Command.TheViews.{out-Command}
use Rattle.clap.proofs.WalkLemmas.{both}
use Rattle.command_line.specs.Parses.{alone_app, run_app, seeded_app, whole_app, without_help}

-- a plain command has no global argument
no_globals : (c : Command) → (app_of c).top.is_plain ≡ true → (out-Command c).has_globals ≡ false
no_globals c plain = not-true _ (both _ _ (both _ _ (both _ _ plain).1).1).0

pub helpless : (a b c : Command) → app_of a ≡ new_app (codes "sleep") → out-Command b ≡ record (out-Command a) { disable_help_flag = true }
    → out-Command c ≡ record (out-Command b) { disable_help_subcommand = true } → app_of c ≡ on_top without_help (new_app (codes "sleep"))
helpless a b c new flag sub =
    ap app_of_fields sub ∙ (ap (λ f. app_of_fields (record f { disable_help_subcommand = true })) flag ∙ ap (on_top without_help) new)

-- one subcommand more
more : (old sub new : Command) (a s : App) → app_of old ≡ a → app_of sub ≡ s → s.top.is_plain ≡ true → AddsSubcommand old sub new → app_of new ≡ with_subcommand a s.top
more old sub new a s old_is sub_is plain adds =
    adds.shape (no_globals sub (ap (λ (x : App). x.top.is_plain) sub_is ∙ plain)) ∙ ap₂ with_subcommand old_is (ap (λ (x : App). x.top) sub_is)

pub whole_is : (none one two three four five run gen soak locks stats check all : Command) → app_of none ≡ on_top without_help (new_app (codes "sleep")) → app_of run ≡ run_app → app_of gen ≡ seeded_app (codes "gen")
    → app_of soak ≡ seeded_app (codes "soak") → app_of locks ≡ alone_app (codes "locks") → app_of stats ≡ alone_app (codes "stats") → app_of check ≡ alone_app (codes "check")
    → AddsSubcommand none run one → AddsSubcommand one gen two → AddsSubcommand two soak three → AddsSubcommand three locks four → AddsSubcommand four stats five → AddsSubcommand five check all → app_of all ≡ whole_app
whole_is none one two three four five run gen soak locks stats check all none_is run_is gen_is soak_is locks_is stats_is check_is first second third fourth fifth sixth =
    let middle = more two soak three _ _ (more one gen two _ _ (more none run one _ _ none_is run_is refl first) gen_is refl second) soak_is refl third in
    let later = more four stats five _ _ (more three locks four _ _ middle locks_is refl fourth) stats_is refl fifth in
    more five check all _ _ later check_is refl sixth
