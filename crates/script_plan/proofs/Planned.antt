-- What a script's plan says of its operations and of its calls.
use Rattle.std.proofs.Common.{◌≡◌, ◌∙◌, ◌<◌, ◌≤◌, ◌+◌, ◌++◌, ℕ, zero, suc, Bool, true, false, List, [], ◌∷◌, length, map, filter, flat_map, replicate, Some, None, refl, sym, ap, subst, cond, All, ◌||◌, slice_get, slice_index_or, option_map, arith}
use Rattle.std.proofs.lemmas.List.{map-append, length-map}
use Rattle.std.proofs.lemmas.List.Elements.{All-append, All-replicate, All-nil, All-cons, All-head, All-tail}
use Rattle.std.proofs.lemmas.Option.{slice_get-map, slice_get-get_or, slice_get_past}
use Rattle.sleep_model.specs.declared.machine.Op.{Op}
use Rattle.sleep_model.specs.declared.machine.Op.TheVariants as op
use Rattle.sleep_model.specs.declared.machine.Script.{Script}
use Rattle.sleep_model.specs.declared.machine.Step.{Step}
use Rattle.sleep_model.specs.Scripts.{times_over, operations, makes_entry, entry_steps, pieces_of, pieces, autosleep_pieces}
use Rattle.sleep_model.specs.Tasks.{is_mem, is_off}
use Rattle.script_plan.specs.Plans.{round_from, expanded, op_at, ops_of, entry_indices, one_or_two, turns_of_autosleep, turns_from, calls_after, count_or, calls_before}

-- ---- the operations

map_replicate : {A B : Type 0} (f : A → B) (n : ℕ) (x : A) → map f (replicate n x) ≡ replicate n (f x)
map_replicate f zero x = refl
map_replicate f (suc n) x = ap (λ rest. f x ∷ rest) (map_replicate f n x)

map_times : {A B : Type 0} (f : A → B) (n : ℕ) (xs : List A) → map f (times_over n xs) ≡ times_over n (map f xs)
map_times f zero xs = refl
map_times f (suc n) xs = map-append f (times_over n xs) xs ∙ ap (λ rest. rest ++ map f xs) (map_times f n xs)

-- the steps of one round are the operations, each as often as it is made
abbrev pub copies : Step → List Op
copies s = replicate s.times s.op

round_ops : (f : ℕ → Op) (at : ℕ) (ss : List Step) → ((j : ℕ) → j < length ss → f (at + j) ≡ op_at ss j) → map f (round_from at ss) ≡ flat_map copies ss
round_ops f at [] here = refl
round_ops f at (s ∷ ss) here =
    let first : f at ≡ s.op = ap f (omega arith) ∙ here 0 (omega arith) in
    let later : (j : ℕ) → j < length ss → f (suc at + j) ≡ op_at ss j = λ j within. ap f (omega arith) ∙ here (suc j) (omega arith) in
    map-append f (replicate s.times at) (round_from (suc at) ss)
    ∙ (ap (λ xs. xs ++ map f (round_from (suc at) ss)) (map_replicate f s.times at ∙ ap (replicate s.times) first)
    ∙ ap (λ xs. copies s ++ xs) (round_ops f (suc at) ss later))

-- the steps of a script are its operations
pub ops_are : (s : Script) → ops_of s.steps (expanded s) ≡ operations s
ops_are s = map_times (op_at s.steps) s.repeat (round_from 0 s.steps) ∙ ap (times_over s.repeat) (round_ops (op_at s.steps) 0 s.steps (λ j within. ap (op_at s.steps) (omega arith)))

filter_map : {A B : Type 0} (p : B → Bool) (f : A → B) (xs : List A) → filter p (map f xs) ≡ map f (filter (λ x. p (f x)) xs)
filter_map p f [] = refl
filter_map p f (x ∷ xs) = by_case (filter_map p f xs) (p (f x))
  where
    by_case : filter p (map f xs) ≡ map f (filter (λ x. p (f x)) xs) → (b : Bool) → cond b (f x ∷ filter p (map f xs)) (filter p (map f xs)) ≡ map f (cond b (x ∷ filter (λ x. p (f x)) xs) (filter (λ x. p (f x)) xs))
    by_case rest true = ap (λ rest. f x ∷ rest) rest
    by_case rest false = rest

-- the operations that make entries have the indices that the list has
pub entry_steps_are : (s : Script) → entry_steps s ≡ map (op_at s.steps) (entry_indices s.steps (expanded s))
entry_steps_are s = ap (filter makes_entry) (sym (ops_are s)) ∙ filter_map makes_entry (op_at s.steps) (expanded s)

-- ---- the indices

pub times_within : {A : Type 0} (P : A → Type 0) (n : ℕ) (xs : List A) → All P xs → All P (times_over n xs)
times_within P zero xs all = All-nil P
times_within P (suc n) xs all = All-append P (times_over n xs) xs (times_within P n xs all) all

round_within : (at n : ℕ) (ss : List Step) → at + length ss ≤ n → All (λ (k : ℕ). k < n) (round_from at ss)
round_within at n [] fits = All-nil (λ (k : ℕ). k < n)
round_within at n (s ∷ ss) fits =
    All-append (λ (k : ℕ). k < n) (replicate s.times at) (round_from (suc at) ss) (All-replicate (λ (k : ℕ). k < n) s.times at (omega arith)) (round_within (suc at) n ss (omega arith))

-- each index is one of the script's list
pub places_within : (s : Script) → All (λ (k : ℕ). k < length s.steps) (expanded s)
places_within s = times_within (λ (k : ℕ). k < length s.steps) s.repeat (round_from 0 s.steps) (round_within 0 (length s.steps) s.steps (omega arith))

pub filter_within : (P : ℕ → Type 0) (p : ℕ → Bool) (xs : List ℕ) → All P xs → All P (filter p xs)
filter_within P p [] all = All-nil P
filter_within P p (x ∷ xs) all = by_case (filter_within P p xs (All-tail P x xs all)) (p x)
  where
    by_case : All P (filter p xs) → (b : Bool) → All P (cond b (x ∷ filter p xs) (filter p xs))
    by_case rest true = All-cons P x (filter p xs) (All-head P x xs all) rest
    by_case rest false = rest

-- there are as many as operations
pub places_few : (s : Script) (n : ℕ) → length (operations s) ≤ n → length (expanded s) ≤ n
places_few s n few = omega (arith, few, sym (length-map (expanded s) (op_at s.steps)) ∙ ap length (ops_are s))

-- ---- the calls

-- the calls before a turn of these operations, if so many were made before
calls_are : (source : ℕ) (ops : List Op) (n k : ℕ) → count_or (slice_get (turns_from n ops) k) (calls_after n ops) ≡ n + calls_before (flat_map (pieces_of source) ops) k
calls_are source [] n k = omega arith
calls_are source (op.Awake s ∷ ops) n k = calls_are source ops (n + 1) k ∙ omega arith
calls_are source (op.Relax s ∷ ops) n k = calls_are source ops (n + 1) k ∙ omega arith
calls_are source (op.Event s ms hard ∷ ops) n k = calls_are source ops (n + 1) k ∙ omega arith
calls_are source (op.Autosleep text ∷ ops) n k = by_case (λ j b. calls_are source ops (n + b) j) (is_mem text || is_off text) k
  where
    by_case : ((j b : ℕ) → count_or (slice_get (turns_from (n + b) ops) j) (calls_after (n + b) ops) ≡ n + b + calls_before (flat_map (pieces_of source) ops) j) → (good : Bool) (k : ℕ) → count_or (slice_get (turns_of_autosleep n good ++ turns_from (n + one_or_two false good) ops) k) (calls_after (n + one_or_two false good) ops) ≡ n + calls_before (autosleep_pieces source good ++ flat_map (pieces_of source) ops) k
    by_case rest true zero = omega arith
    by_case rest true (suc zero) = omega arith
    by_case rest true (suc (suc k)) = rest k 2 ∙ omega arith
    by_case rest false zero = omega arith
    by_case rest false (suc k) = rest k 0 ∙ omega arith
calls_are source (_ ∷ ops) n zero = omega arith
calls_are source (_ ∷ ops) n (suc k) = calls_are source ops (n + 0) k ∙ omega arith

-- the calls before a turn of a script
pub planned_calls : (source : ℕ) (s : Script) (k : ℕ) → count_or (slice_get (turns_from 0 (ops_of s.steps (expanded s))) k) (calls_after 0 (ops_of s.steps (expanded s))) ≡ calls_before (pieces source s) k
planned_calls source s k = subst (λ ops. count_or (slice_get (turns_from 0 (ops_of s.steps (expanded s))) k) (calls_after 0 (ops_of s.steps (expanded s))) ≡ calls_before (flat_map (pieces_of source) ops) k) (ops_are s) (calls_are source (ops_of s.steps (expanded s)) 0 k ∙ omega arith)

-- ---- what is read

some_at : {A : Type 0} (xs ys : List A) (k : ℕ) (v : A) → ys ≡ xs → k < length ys → v ≡ slice_index_or ys k v → slice_get xs k ≡ Some v
some_at xs ys k v same within read = ap (λ zs. slice_get zs k) (sym same) ∙ (slice_get-get_or ys k v within ∙ ap Some (sym read))

none_at : {A : Type 0} (xs ys : List A) (k : ℕ) → ys ≡ xs → length ys ≤ k → slice_get xs k ≡ None
none_at xs ys k same past = ap (λ zs. slice_get zs k) (sym same) ∙ slice_get_past ys k past

-- the operation at an index that is read
pub operation_at : (s : Script) (ys : List ℕ) (k at : ℕ) → ys ≡ entry_indices s.steps (expanded s) → k < length ys → at ≡ slice_index_or ys k at → slice_get (entry_steps s) k ≡ Some (op_at s.steps at)
operation_at s ys k at same within read =
    ap (λ zs. slice_get zs k) (entry_steps_are s) ∙ (slice_get-map (op_at s.steps) (entry_indices s.steps (expanded s)) k ∙ ap (option_map (op_at s.steps)) (some_at (entry_indices s.steps (expanded s)) ys k at same within read))

-- after the last there is none
pub no_operation : (s : Script) (ys : List ℕ) (k : ℕ) → ys ≡ entry_indices s.steps (expanded s) → length ys ≤ k → slice_get (entry_steps s) k ≡ None
no_operation s ys k same past =
    ap (λ zs. slice_get zs k) (entry_steps_are s) ∙ (slice_get-map (op_at s.steps) (entry_indices s.steps (expanded s)) k ∙ ap (option_map (op_at s.steps)) (none_at (entry_indices s.steps (expanded s)) ys k same past))

-- the calls before a turn, as they are counted
pub counted_calls : (s : Script) (ys : List ℕ) (last : ℕ) → ys ≡ turns_from 0 (ops_of s.steps (expanded s)) → last ≡ calls_after 0 (ops_of s.steps (expanded s)) → (source k : ℕ) → count_or (slice_get ys k) last ≡ calls_before (pieces source s) k
counted_calls s ys last turns all source k =
    ap (λ (zs : List ℕ). count_or (slice_get zs k) last) turns ∙ (ap (count_or (slice_get (turns_from 0 (ops_of s.steps (expanded s))) k)) all ∙ planned_calls source s k)
