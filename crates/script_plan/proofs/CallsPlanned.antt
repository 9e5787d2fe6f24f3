-- What a plan says of the calls of a script.
use Rattle.std.proofs.Common.{◌≡◌, ◌∙◌, ◌≤◌, ◌+◌, ◌-◌, ◌++◌, ℕ, zero, suc, Bool, true, false, List, [], ◌∷◌, length, map, take, drop, flat_map, refl, sym, ap, add-one, ◌||◌, arith}
use Rattle.std.specs.List.{take-map}
use Rattle.std.specs.Prelude.{slice_range}
use Rattle.std.proofs.lemmas.List.{length-map, drop-map, take_at}
use Rattle.sleep_model.specs.declared.entry.Kind.{Kind}
use Rattle.sleep_model.specs.declared.machine.Op.{Op}
use Rattle.sleep_model.specs.declared.machine.Op.TheVariants as op
use Rattle.sleep_model.specs.declared.machine.Report.{Report}
use Rattle.sleep_model.specs.declared.machine.Script.{Script}
use Rattle.sleep_model.specs.Calls.{calls_at, note}
use Rattle.sleep_model.specs.declared.entry.Kind.TheVariants as kind
use Rattle.sleep_model.specs.Scripts.{Piece, Calls, Turns, autosleep_pieces, operations, pieces_of, pieces}
use Rattle.sleep_model.specs.Tasks.{is_mem, is_off}
use Rattle.script_plan.specs.CallPlans.{noted, calls_of_autosleep, calls_made, calls_ahead}
use Rattle.script_plan.specs.Plans.{expanded, ops_of, calls_before}
use Rattle.script_plan.proofs.Planned.{ops_are}

-- ---- pieces

-- all calls among the pieces, in order
abbrev pub all_calls : List Piece → List Kind
all_calls [] = []
all_calls (Calls note ∷ rest) = note ∷ all_calls rest
all_calls (Turns ∷ rest) = all_calls rest

drop_one : (n : Kind) (xs : List Kind) (k : ℕ) → drop (k + 1) (n ∷ xs) ≡ drop k xs
drop_one n xs k = rw (add-one k) refl

first_parted : (ps : List Piece) → all_calls ps ≡ calls_at ps 0 ++ drop (calls_before ps 0) (all_calls ps)
first_parted [] = refl
first_parted (Calls n ∷ rest) = ap (λ xs. n ∷ xs) (first_parted rest ∙ ap (λ xs. calls_at rest 0 ++ xs) (sym (drop_one n (all_calls rest) (calls_before rest 0))))
first_parted (Turns ∷ rest) = refl

-- from those ahead of a turn on: those right before it, then those after it
split : (ps : List Piece) (k : ℕ) → drop (calls_ahead ps k) (all_calls ps) ≡ calls_at ps k ++ drop (calls_before ps k) (all_calls ps)
split ps zero = first_parted ps
split [] (suc k) = refl
split (Calls n ∷ rest) (suc k) =
    drop_one n (all_calls rest) (calls_before rest k)
    ∙ (split rest (suc k) ∙ ap (λ xs. calls_at rest (suc k) ++ xs) (sym (drop_one n (all_calls rest) (calls_before rest (suc k)))))
split (Turns ∷ rest) (suc zero) = first_parted rest
split (Turns ∷ rest) (suc (suc k)) = split rest (suc k)

first_many : (ps : List Piece) → length (calls_at ps 0) ≡ calls_before ps 0
first_many [] = refl
first_many (Calls n ∷ rest) = omega (arith, first_many rest)
first_many (Turns ∷ rest) = refl

-- so many calls are made right before a turn
many : (ps : List Piece) (k : ℕ) → calls_ahead ps k + length (calls_at ps k) ≡ calls_before ps k
many ps zero = omega (arith, first_many ps)
many [] (suc k) = refl
many (Calls n ∷ rest) (suc k) = omega (arith, many rest (suc k))
many (Turns ∷ rest) (suc zero) = omega (arith, first_many rest)
many (Turns ∷ rest) (suc (suc k)) = many rest (suc k)

-- no more calls are made before a turn than there are
fit : (ps : List Piece) (k : ℕ) → calls_before ps k ≤ length (all_calls ps)
fit [] k = omega arith
fit (Calls n ∷ rest) k = omega (arith, fit rest k)
fit (Turns ∷ rest) zero = omega arith
fit (Turns ∷ rest) (suc k) = fit rest k

-- ---- operations

autosleep_made : (source : ℕ) (good : Bool) (ops : List Op) → map noted (calls_made source ops) ≡ all_calls (flat_map (pieces_of source) ops)
    → map noted (calls_of_autosleep source good ++ calls_made source ops) ≡ all_calls (autosleep_pieces source good ++ flat_map (pieces_of source) ops)
autosleep_made source true ops same = ap (λ xs. kind.Awake source ∷ (kind.Relax source ∷ xs)) same
autosleep_made source false ops same = same

all_made : (source : ℕ) (ops : List Op) → map noted (calls_made source ops) ≡ all_calls (flat_map (pieces_of source) ops)
all_made source [] = refl
all_made source (op.Awake s ∷ ops) = ap (λ xs. kind.Awake s ∷ xs) (all_made source ops)
all_made source (op.Relax s ∷ ops) = ap (λ xs. kind.Relax s ∷ xs) (all_made source ops)
all_made source (op.Event s ms hard ∷ ops) = ap (λ xs. kind.Event s ms hard ∷ xs) (all_made source ops)
all_made source (op.Autosleep text ∷ ops) = autosleep_made source (is_mem text || is_off text) ops (all_made source ops)
all_made source (_ ∷ ops) = all_made source ops

-- ---- what is read

-- the calls ahead of a turn that is not the first
pub ahead_is : (ps : List Piece) (k n : ℕ) → (k ≡ 0 → ⊥) → n ≡ calls_before ps (k - 1) → n ≡ calls_ahead ps k
ahead_is ps zero n not is = absurd (not refl)
ahead_is ps (suc k) n not is = let one : suc k - 1 ≡ k = omega arith in is ∙ ap (calls_before ps) one

module _ (source : ℕ) (s : Script) (calls : List Report) (are : calls ≡ calls_made source (ops_of s.steps (expanded s))) where
  all_are : map noted calls ≡ all_calls (pieces source s)
  all_are = ap (map noted) are ∙ (ap (λ ops. map noted (calls_made source ops)) (ops_are s) ∙ all_made source (operations s))

  -- the bounds of the calls right before a turn
  pub within : (k to : ℕ) → to ≡ calls_before (pieces source s) k → to ≤ length calls
  within k to is =
      let few : calls_before (pieces source s) k ≤ length (all_calls (pieces source s)) = fit (pieces source s) k in
      let same : length (all_calls (pieces source s)) ≡ length calls = ap length (sym all_are) ∙ length-map calls noted in
      omega arith

  pub in_order : (k from to : ℕ) → from ≡ calls_ahead (pieces source s) k → to ≡ calls_before (pieces source s) k → from ≤ to
  in_order k from to is_from is_to = omega (arith, many (pieces source s) k)

  -- the calls between them
  pub stretch : (k from to : ℕ) → from ≡ calls_ahead (pieces source s) k → to ≡ calls_before (pieces source s) k → map noted (slice_range calls from to) ≡ calls_at (pieces source s) k
  stretch k from to is_from is_to =
      let ps = pieces source s in
      let long : length (calls_at ps k) ≡ to - from = omega (arith, many ps k) in
      sym (take-map noted (to - from) (drop from calls))
      ∙ (ap (take (to - from)) (sym (drop-map noted from calls))
      ∙ (ap (λ xs. take (to - from) (drop from xs)) all_are
      ∙ (ap (λ n. take (to - from) (drop n (all_calls ps))) is_from
      ∙ (ap (take (to - from)) (split ps k)
      ∙ take_at (calls_at ps k) (drop (calls_before ps k) (all_calls ps)) (to - from) long))))
