-- Proof by hand of `read_entries`: its loop, by the lemmas of `Loops` and `NextEntry`.
use Rattle.std.proofs.Common.{◌≡◌, ◌++◌, ◌∷◌, [], true, rules, refl, sym, arith}
use Rattle.std.proofs.lemmas.Grind.{common_steps}
use Rattle.sleep_model.specs.Fits.{fits_entry}
use Rattle.sleep_model.specs.Text.{entry_line}
use Rattle.log_text.specs.Grammar.{lines, IsBadEntry}
use Rattle.log_text.proofs.Loops.{all_push, text_push}
use Rattle.log_text.proofs.NextEntry.{next_passed}
use Rattle.log_text.proofs.reading.read.read_entries.Goals as goal

pub loop-reader-preserved : goal.loop-reader-preserved
loop-reader-preserved c =
    let m = c.args.machine_names.now in
    let e = c.in-Some.entry in
    let left = c.loop-reader.left.now in
    let after_piece = c.in-Some.after_piece.now in
    let so_far = c.loop-reader.invariant in
    let next : left ≡ entry_line m e ++ after_piece = first_of (search rules, grind (arith, common_steps), cc) in
    let fits : fits_entry m e ≡ true = first_of (search rules, grind (arith, common_steps), cc) in
    let more : c.push.new.self ≡ c.loop-reader.entries ++ e ∷ [] = first_of (search rules, cc) in (
      rw more (text_push (entry_line m) c.loop-reader.entries e (entry_line m e) left after_piece c.args.bytes.now so_far.0 (sym next) refl),
      rw more (all_push (fits_entry m) c.loop-reader.entries e so_far.1 fits),
      next_passed m left after_piece e c.loop-reader.number c.in-Ok-next_number.following (IsBadEntry m (lines c.args.bytes.now) 1) fits next c.in-Ok-next_number.ensures so_far.2,
    )
