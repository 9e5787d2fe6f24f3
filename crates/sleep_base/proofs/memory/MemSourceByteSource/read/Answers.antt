-- Proof that `MemSourceByteSource::read` meets its contract.
use Rattle.std.proofs.Common.{◌≡◌, ℕ, ◌+◌, List, ◌++◌, length, take, drop, rules, arith, sym, ap, ◌∙◌, take_at, take-append-drop, drop-drop, drop_of_length-le}
use Rattle.sleep_base.proofs.memory.MemSourceByteSource.read.Goals as goal

-- what was read is a prefix of what was left
front_leaves : (xs part rest : List ℕ) (at n : ℕ) → part ≡ take n (drop at xs) → length part ≡ n → drop at xs ≡ take n (part ++ rest) ++ drop (at + n) xs
front_leaves xs part rest at n is long =
    sym (take-append-drop n (drop at xs)) ∙ ap (λ l. l ++ drop n (drop at xs)) (sym is ∙ sym (take_at part rest n long)) ∙ ap (λ l. take n (part ++ rest) ++ l) (drop-drop n at xs)

pub returns-clause-bytes : goal.returns-clause-bytes
returns-clause-bytes c =
    let source = c.args.self.now in
    let part = c.copy_from_slice.new.self in
    let n = c.min-n.result in
    (front_leaves source.bytes.items part _ source.at n (search rules) (search rules), λ zero room. drop_of_length-le source.bytes.items (omega arith))
