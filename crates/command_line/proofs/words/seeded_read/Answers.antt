-- Proof by hand of `seeded_read`: what it returns, by the lemmas of `Readings`.
use Rattle.std.proofs.Common.{◌∙◌, ap, option_map}
use Rattle.clap.specs.Words.{found_of}
use Rattle.command_line.proofs.Readings.{no_seed, no_devices, both_read}
use Rattle.command_line.proofs.words.seeded_read.Goals as goal

pub returns-in_err-seed : goal.returns-in_err-seed
returns-in_err-seed c = λ make. ap (option_map (λ p. make p.0 p.1)) c.from_residual.ensures ∙ no_seed make (found_of c.args.matches.now) c.get_str.result c.get_str.ensures c.in_err-seed.was

pub returns-in_err-devices : goal.returns-in_err-devices
returns-in_err-devices c = λ make. ap (option_map (λ p. make p.0 p.1)) c.from_residual-in_err-devices.ensures
    ∙ no_devices make (found_of c.args.matches.now) c.get_str.result c.get_str-2.result c.in_ok-seed.seed c.get_str.ensures c.get_str-2.ensures c.in_ok-seed.was c.in_err-devices.was

pub returns : goal.returns
returns c = λ make. c.seeded_in.ensures make
    ∙ both_read make (found_of c.args.matches.now) c.get_str.result c.get_str-2.result c.in_ok-seed.seed c.in_ok-devices.devices c.get_str.ensures c.get_str-2.ensures c.in_ok-seed.was c.in_ok-devices.was
