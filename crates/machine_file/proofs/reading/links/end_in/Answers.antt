-- Proof that `end_in` meets its contract.
use Rattle.std.proofs.Common.{◌∙◌, List, ℕ, ap, bytes_eq, position, sym}
use Rattle.borrowed_json.specs.View.{view}
use Rattle.file_rules.specs.Knows.{names}
use Rattle.machine_file.proofs.KeptLinks.{end_named, end_unnamed}
use Rattle.machine_file.proofs.reading.links.end_in.Goals as goal

pub returns-in-Some-clause-ok : goal.returns-in-Some-clause-ok
returns-in-Some-clause-ok c =
    end_named c.args.member.now (names c.args.devices.now) (view c.args.link.now) (view c.in_ok-found.found.now) c.in_ok-found.ensures.ok c.in-Some.number (sym c.if-not-spells_name.ensures)
    (c.in-Some.ensures ∙ ap (λ (s : List ℕ). position (bytes_eq s) (names c.args.devices.now)) c.text_of.ensures)

pub returns-in-None-clause-err : goal.returns-in-None-clause-err
returns-in-None-clause-err c =
    end_unnamed c.args.member.now (names c.args.devices.now) (view c.args.link.now) (view c.in_ok-found.found.now) c.in_ok-found.ensures.ok
    (c.in-None.ensures ∙ ap (λ (s : List ℕ). position (bytes_eq s) (names c.args.devices.now)) c.text_of.ensures)
