-- Proof that `ScriptPositions::set` keeps the invariant of its type, and that it meets what `recount` requires.
use Rattle.std.proofs.Common.{◌<◌, ◌∙◌, ℕ, List, length, slice_set, sym, ap, subst, arith}
use Rattle.std.proofs.lemmas.List.{map-set}
use Rattle.sleep_model.specs.declared.progress.ScriptPosition.{ScriptPosition}
use Rattle.sleep_model.specs.Places.{one_if}
use Rattle.sleep_state.specs.Sleepers.{is_awake, is_there}
use Rattle.sleep_state.specs.Trees.{moment_of}
use Rattle.sleep_state.proofs.Sleeping.{count_few, count_least, count_set, position_found}
use Rattle.sleep_state.proofs.positions.ScriptPositions.note.Goals as goal

pub recount-self-inside-requires-clause-one : goal.recount-self-inside-requires-clause-one
recount-self-inside-requires-clause-one c =
    omega (arith, ap one_if c.is_awake.ensures, count_least is_awake c.self.inside.positions.items c.args.script c.index_mut-position.result.now (position_found c.self.inside.positions.items c.args.script c.index_mut-position.result.now (subst (λ (xs : List ScriptPosition). c.args.script < length xs) (sym c.self.view_is) c.requires.within) c.index_mut-position.ensures.value), c.self.invariant.awake_is)

pub recount-self-inside-requires-clause-room : goal.recount-self-inside-requires-clause-room
recount-self-inside-requires-clause-room c = omega (arith, c.self.invariant.awake_is, count_few is_awake c.self.inside.positions.items, c.self.inside.positions.small)

pub recount-self-inside-requires-2-clause-one : goal.recount-self-inside-requires-2-clause-one
recount-self-inside-requires-2-clause-one c = omega (arith, count_least is_there c.self.inside.positions.items c.args.script c.index_mut-position.result.now (position_found c.self.inside.positions.items c.args.script c.index_mut-position.result.now (subst (λ (xs : List ScriptPosition). c.args.script < length xs) (sym c.self.view_is) c.requires.within) c.index_mut-position.ensures.value), c.self.invariant.left_is)

pub recount-self-inside-requires-2-clause-room : goal.recount-self-inside-requires-2-clause-room
recount-self-inside-requires-2-clause-room c = omega (arith, c.self.invariant.left_is, count_few is_there c.self.inside.positions.items, c.self.inside.positions.small)

pub invariant_of-self : goal.invariant_of-self
invariant_of-self c =
    let xs = c.self.inside.positions.items in
    record {
      ends_are =
          c.move_end.ensures
          ∙ (ap (λ (ends : List ℕ). slice_set ends c.args.script (moment_of c.move_script.new.position.until)) c.self.invariant.ends_are
          ∙ sym (map-set (λ (s : ScriptPosition). moment_of s.until) xs c.args.script c.move_script.new.position));
      awake_is = omega (arith, c.recount-self-inside.ensures, count_set is_awake xs c.args.script c.index_mut-position.result.now c.move_script.new.position (position_found c.self.inside.positions.items c.args.script c.index_mut-position.result.now (subst (λ (xs : List ScriptPosition). c.args.script < length xs) (sym c.self.view_is) c.requires.within) c.index_mut-position.ensures.value), ap one_if c.is_awake.ensures, ap one_if c.is_awake-2.ensures, c.self.invariant.awake_is);
      left_is = omega (arith, c.recount-self-inside-2.ensures, count_set is_there xs c.args.script c.index_mut-position.result.now c.move_script.new.position (position_found c.self.inside.positions.items c.args.script c.index_mut-position.result.now (subst (λ (xs : List ScriptPosition). c.args.script < length xs) (sym c.self.view_is) c.requires.within) c.index_mut-position.ensures.value), c.self.invariant.left_is);
    }
