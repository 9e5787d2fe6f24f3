-- Proof by hand of `journal_in`: its loop, by the lemmas of `Gathering`.
use Rattle.std.proofs.Common.{◌∙◌, ◌++◌, ◌∷◌, [], List, filter, map, sym, ap, append_assoc}
use Rattle.sleep_model.specs.declared.entry.JournalEntry.{JournalEntry}
use Rattle.sleep_model.specs.Merge.{of_source}
use Rattle.apart_log.specs.Slices.{is_in}
use Rattle.apart_log.proofs.Gathering.{filter_first}
use Rattle.apart_log.proofs.slice.journal_in.Goals as goal

pub loop-one-preserved : goal.loop-one-preserved
loop-one-preserved c =
    let test = is_in c.args.range in
    let rest = c.next.new.self in
    ap (λ (l : List JournalEntry). l ++ filter test rest) c.in_ok-push_in.ensures
    ∙ (append_assoc (map of_source c.loop-one.those.items) (filter test (c.in-Some.one ∷ [])) (filter test rest)
    ∙ (ap (λ (l : List JournalEntry). map of_source c.loop-one.those.items ++ l) (sym (filter_first test c.in-Some.one rest))
    ∙ (ap (λ (l : List JournalEntry). map of_source c.loop-one.those.items ++ filter test l) (sym c.in-Some.ensures) ∙ c.loop-one.invariant)))
