-- Proof that `Busy::note` keeps the invariant of its type.
use Rattle.std.proofs.Common.{rules, ◌≡◌, ◌++◌, ◌∷◌, [], ap, ◌∙◌, true}
use Rattle.turn_lock.specs.Passes.{had_by}
use Rattle.turn_lock.proofs.Listed.{grown_more, listed_more}
use Rattle.thread_trials.proofs.list_tests.Busy.note.Goals as goal

pub invariant_of-result-2 : goal.invariant_of-result-2
invariant_of-result-2 c =
    let had = had_by c.args.self.held.token in
    let old = c.args.self.held.value.notes.items in
    let added : c.note.result ≡ true = search rules in
    let same : c.value-2.result.now ≡ c.args.self.held.value = c.value-2.ensures.value ∙ c.value.ensures.value in
    let e : c.note.new.self.notes.items ≡ old ++ c.args.x ∷ [] = c.note.ensures.added added ∙ ap (λ j. j.notes.items ++ c.args.x ∷ []) same in
    record {
      same = c.args.self.same;
      grown = grown_more had old c.note.new.self.notes.items c.args.x c.args.self.grown e;
      listed = listed_more c.args.self.object c.len-place.result had old c.note.new.self.notes.items c.args.x _ c.args.self.made.items c.push_reserved.new.self.items c.args.self.grown e
          (search rules) c.args.self.listed (search rules);
    }
