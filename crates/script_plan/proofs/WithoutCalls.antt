-- A script that makes no calls.
use Rattle.std.proofs.Common.{◌≡◌, ◌∙◌, ◌++◌, ◌==◌, ℕ, zero, suc, Bool, true, false, List, [], ◌∷◌, map, filter, flat_map, replicate, refl, sym, ap, subst, cond, All, ◌||◌, ◌&&◌, eqb-true, arith}
use Rattle.std.specs.List.{list_all}
use Rattle.std.proofs.lemmas.Bool.{false≢true}
use Rattle.std.proofs.lemmas.List.Elements.{All-append, All-replicate, All-nil, All-head, All-tail}
use Rattle.sleep_model.specs.declared.machine.Op.{Op}
use Rattle.sleep_model.specs.declared.machine.Op.TheVariants as op
use Rattle.sleep_model.specs.declared.machine.Script.{Script}
use Rattle.sleep_model.specs.declared.machine.Step.{Step}
use Rattle.sleep_model.specs.Scripts.{Piece, Turns, operations, makes_entry, pieces_of, pieces, autosleep_pieces}
use Rattle.sleep_model.specs.Tasks.{is_mem, is_off}
use Rattle.script_plan.specs.CallPlans.{calls_made, calls_made_by, calls_of_autosleep}
use Rattle.script_plan.specs.Plans.{expanded, op_at, ops_of, entry_indices, one_or_two, calls_in, calls_before}
use Rattle.script_plan.proofs.Planned.{copies, ops_are, times_within}

-- an operation that makes no calls
abbrev pub HasNone : Op → Type 0
HasNone o = calls_in o ≡ 0

-- ---- one operation

makes_one : (o : Op) → HasNone o → makes_entry o ≡ true
makes_one (op.Awake s) none = absurd (omega (arith, none))
makes_one (op.Relax s) none = absurd (omega (arith, none))
makes_one (op.Event s ms hard) none = absurd (omega (arith, none))
makes_one _ none = refl

sets_nothing : (source : ℕ) (good : Bool) → one_or_two false good ≡ 0 → calls_of_autosleep source good ≡ []
sets_nothing source true none = absurd (omega (arith, none))
sets_nothing source false none = refl

makes_none : (source : ℕ) (o : Op) → HasNone o → calls_made_by source o ≡ []
makes_none source (op.Awake s) none = absurd (omega (arith, none))
makes_none source (op.Relax s) none = absurd (omega (arith, none))
makes_none source (op.Event s ms hard) none = absurd (omega (arith, none))
makes_none source (op.Autosleep text) none = sets_nothing source (is_mem text || is_off text) none
makes_none source _ none = refl

sets_once : (source : ℕ) (good : Bool) → one_or_two false good ≡ 0 → autosleep_pieces source good ≡ Turns ∷ []
sets_once source true none = absurd (omega (arith, none))
sets_once source false none = refl

one_turn : (source : ℕ) (o : Op) → HasNone o → pieces_of source o ≡ Turns ∷ []
one_turn source (op.Awake s) none = absurd (omega (arith, none))
one_turn source (op.Relax s) none = absurd (omega (arith, none))
one_turn source (op.Event s ms hard) none = absurd (omega (arith, none))
one_turn source (op.Autosleep text) none = sets_once source (is_mem text || is_off text) none
one_turn source _ none = refl

-- ---- operations in a row

all_kept : (f : ℕ → Op) (places : List ℕ) → All HasNone (map f places) → filter (λ at. makes_entry (f at)) places ≡ places
all_kept f [] all = refl
all_kept f (at ∷ rest) all =
    rw (makes_one (f at) (All-head HasNone (f at) (map f rest) all)) (ap (λ xs. at ∷ xs) (all_kept f rest (All-tail HasNone (f at) (map f rest) all)))

none_made : (source : ℕ) (ops : List Op) → All HasNone ops → calls_made source ops ≡ []
none_made source [] all = refl
none_made source (o ∷ ops) all =
    ap (λ xs. xs ++ calls_made source ops) (makes_none source o (All-head HasNone o ops all)) ∙ none_made source ops (All-tail HasNone o ops all)

none_before : (source : ℕ) (ops : List Op) → All HasNone ops → (k : ℕ) → calls_before (flat_map (pieces_of source) ops) k ≡ 0
none_before source [] all k = refl
none_before source (o ∷ ops) all zero =
    ap (λ ps. calls_before (ps ++ flat_map (pieces_of source) ops) zero) (one_turn source o (All-head HasNone o ops all))
none_before source (o ∷ ops) all (suc k) =
    ap (λ ps. calls_before (ps ++ flat_map (pieces_of source) ops) (suc k)) (one_turn source o (All-head HasNone o ops all))
    ∙ none_before source ops (All-tail HasNone o ops all) k

-- ---- a script

copies_have_none : (ss : List Step) → list_all (λ s. calls_in s.op == 0) ss ≡ true → All HasNone (flat_map copies ss)
copies_have_none [] none = All-nil HasNone
copies_have_none (s ∷ ss) none = by_test (copies_have_none ss) (calls_in s.op == 0) refl none
  where
    by_test : (list_all (λ s. calls_in s.op == 0) ss ≡ true → All HasNone (flat_map copies ss)) → (b : Bool) → (calls_in s.op == 0) ≡ b → (b && list_all (λ s. calls_in s.op == 0) ss) ≡ true → All HasNone (flat_map copies (s ∷ ss))
    by_test rest true e h =
        All-append HasNone (replicate s.times s.op) (flat_map copies ss) (All-replicate HasNone s.times s.op (eqb-true (calls_in s.op) 0 e)) (rest h)
    by_test rest false e h = absurd (false≢true h)

module _ (s : Script) (none : list_all (λ s. calls_in s.op == 0) s.steps ≡ true) where
  all_have_none : All HasNone (operations s)
  all_have_none = times_within HasNone s.repeat (flat_map copies s.steps) (copies_have_none s.steps none)

  -- each step makes an entry
  pub all_enter : entry_indices s.steps (expanded s) ≡ expanded s
  all_enter = all_kept (op_at s.steps) (expanded s) (subst (All HasNone) (sym (ops_are s)) all_have_none)

  -- its steps make no calls
  pub no_calls : (source : ℕ) → calls_made source (ops_of s.steps (expanded s)) ≡ []
  no_calls source = ap (calls_made source) (ops_are s) ∙ none_made source (operations s) all_have_none

  -- none is made before any turn
  pub none_ahead : (source k : ℕ) → calls_before (pieces source s) k ≡ 0
  none_ahead source k = none_before source (operations s) all_have_none k
