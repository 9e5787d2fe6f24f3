-- Proof that the loop of `write_all` keeps its invariant.
use Rattle.std.proofs.Common.{◌≡◌, ℕ, List, ◌++◌, take, drop, rules, arith, length-drop, take_all, sym, ap, ◌∙◌, append_assoc, take-append-drop}
use Rattle.std.proofs.KnownBytes.{Appends-trans}
use Rattle.sleep_base.proofs.whole.write_all.Goals as goal

-- the prefix takes n bytes of the rest
front_grows : (all front rest back : List ℕ) (n : ℕ) → all ≡ front ++ rest → back ≡ drop n rest → all ≡ (front ++ take n rest) ++ back
front_grows all front rest back n split is =
    split ∙ ap (λ l. front ++ l) (sym (take-append-drop n rest)) ∙ sym (append_assoc front (take n rest) (drop n rest)) ∙ ap (λ l. (front ++ take n rest) ++ l) (sym is)

pub loop-rest-preserved : goal.loop-rest-preserved
loop-rest-preserved g c =
    let (front, split, before) = c.loop-rest.invariant.written in
    let n = c.in_ok-n.n in
    let rest = c.loop-rest.rest.now in
    record {
      written = (front ++ take n rest, front_grows _ _ _ _ n split (take_all _ (drop n rest) (omega (arith, length-drop n rest))), Appends-trans _ _ _ _ _ before c.in_ok-n.ensures.bytes);
      later = search rules;
    }
