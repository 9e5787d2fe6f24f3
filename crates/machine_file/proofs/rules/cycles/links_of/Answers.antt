-- Proof that the loop of `links_of` keeps its invariant.
use Rattle.std.proofs.Common.{◌<◌, ◌∙◌, ◌++◌, ◌∷◌, [], List, length, get_or, map, take, None, ap, arith}
use Rattle.borrowed_json.specs.View.{view}
use Rattle.std.proofs.lemmas.List.{get_or_default}
use Rattle.sleep_model.specs.declared.machine.Link.{Link}
use Rattle.file_rules.specs.declared.rules.pairs.EndNumbers.{EndNumbers}
use Rattle.file_rules.specs.Seen.{links_between}
use Rattle.file_rules.proofs.Pairing.{between_more}
use Rattle.machine_file.proofs.rules.cycles.links_of.Goals as goal

abbrev unset : EndNumbers
unset = record { supplier = None; consumer = None }

pub loop-i-preserved : goal.loop-i-preserved
loop-i-preserved c =
    let inside : c.loop-i.i < length c.args.links.now = omega arith in
    let within : c.loop-i.i < length c.args.places.now = omega arith in
    let p = get_or c.args.places.now c.loop-i.i unset in
    c.in_ok-push.ensures.items ∙ ap (λ (xs : List Link). xs ++ c.link_of.result ∷ []) c.loop-i.invariant
    ∙ ap (λ (l : Link). links_between (take c.loop-i.i c.args.places.now) (map view (take c.loop-i.i c.args.links.now)) ++ l ∷ []) c.link_of.ensures
    ∙ between_more c.args.places.now c.args.links.now c.loop-i.i p c.index-links-i.result within inside
    (get_or_default c.args.places.now c.loop-i.i unset p within) c.index-links-i.is
