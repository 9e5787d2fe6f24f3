-- What words ask for has its numbers in their ranges.
use Rattle.std.proofs.Common.{ℕ, ◌≡◌, ◌≤◌, ◌-◌, ◌^◌, ◌&&◌, ◌++◌, Bool, cond, true, false, List, [], ◌∷◌, Option, Some, None, option_map, length, codes, refl, sym, subst, leb-true}
use Rattle.std.specs.Prelude.{IfSome, nat_le, option_and_then, bytes_eq, take, drop}
use Rattle.std.specs.List.{list_all}
use Rattle.clap.proofs.WalkLemmas.{both}
use Rattle.sleep_base.specs.Digits.{is_digit}
use Rattle.command_line.specs.declared.command.Command.{Command}
use Rattle.command_line.specs.declared.command.Command.TheVariants.{Run, Gen, Soak, Check, Locks, Stats, Idle}
use Rattle.command_line.specs.Words.{IsInRange, alone_of, command_in, command_of, after_option, idle_of, idle_sizes, option_index, workers_named, workers_number, has_no_zero_before, number_in, run_of, seeded_of, value_of, workers_of, workers_prefix}

if_so : (b : Bool) (n : ℕ) (P : ℕ → Type 0) → (b ≡ true → P n) → IfSome (cond b (Some n) None) P
if_so true n P h = h refl
if_so false n P h = tt

either : (b : Bool) (x y : Option Command) → IfSome x IsInRange → IfSome y IsInRange → IfSome (cond b x y) IsInRange
either true x y h g = h
either false x y h g = g

-- a number that was read is in its range
number_range : (least most : ℕ) (word : List ℕ) → IfSome (number_in least most word) (λ n. (least ≤ n) × (n ≤ most))
number_range least most word =
    if_so (list_all is_digit word && has_no_zero_before word && nat_le least (value_of word) && nat_le (value_of word) most) (value_of word) (λ n. (least ≤ n) × (n ≤ most))
    (λ e.
    let last = both (list_all is_digit word && has_no_zero_before word && nat_le least (value_of word)) (nat_le (value_of word) most) e in
    let first = both (list_all is_digit word && has_no_zero_before word) (nat_le least (value_of word)) last.0 in
    (leb-true least (value_of word) first.1, leb-true (value_of word) most last.1))

workers_range : (word : List ℕ) → IfSome (workers_of word) IsInRange
workers_range word = go (number_in 1 64 word) (number_range 1 64 word)
  where
    go : (o : Option ℕ) → IfSome o (λ n. (1 ≤ n) × (n ≤ 64)) → IfSome (option_map Run o) IsInRange
    go None h = tt
    go (Some n) h = h

run_range : (words : List (List ℕ)) → IfSome (run_of words) IsInRange
run_range [] = (leb-true 1 4 refl, leb-true 4 64 refl)
run_range (word ∷ []) = either (bytes_eq (take (length workers_prefix) word) workers_prefix) _ None (workers_range (drop (length workers_prefix) word)) tt
run_range (word ∷ n ∷ []) = either (bytes_eq word (codes "--workers")) _ None (workers_range n) tt
run_range (word ∷ n ∷ more ∷ words) = tt

seeded_range : (make : ℕ → ℕ → Command) → ((s d : ℕ) → 1 ≤ d → d ≤ 1000 → IsInRange (make s d)) → (words : List (List ℕ)) → IfSome (seeded_of make words) IsInRange
seeded_range make h [] = tt
seeded_range make h (seed ∷ []) = tt
seeded_range make h (seed ∷ devices ∷ []) = go (number_in 0 (2 ^ 64 - 1) seed)
  where
    by : (s : ℕ) (o : Option ℕ) → IfSome o (λ n. (1 ≤ n) × (n ≤ 1000)) → IfSome (option_map (make s) o) IsInRange
    by s None g = tt
    by s (Some n) g = h s n g.0 g.1

    go : (o : Option ℕ) → IfSome (option_and_then (λ s. option_map (make s) (number_in 1 1000 devices)) o) IsInRange
    go None = tt
    go (Some s) = by s (number_in 1 1000 devices) (number_range 1 1000 devices)
seeded_range make h (seed ∷ devices ∷ more ∷ words) = tt

alone_range : (what : Command) → IsInRange what → (words : List (List ℕ)) → IfSome (alone_of what words) IsInRange
alone_range what h [] = h
alone_range what h (word ∷ words) = tt

number_word : (word : List ℕ) → IfSome (workers_number word) (λ n. (1 ≤ n) × (n ≤ 64))
number_word word = so (bytes_eq (take (length workers_prefix) word) workers_prefix)
  where
    so : (b : Bool) → IfSome (cond b (number_in 1 64 (drop (length workers_prefix) word)) None) (λ n. (1 ≤ n) × (n ≤ 64))
    so true = number_range 1 64 (drop (length workers_prefix) word)
    so false = tt

-- how many workers are named is in range
named_range : (words : List (List ℕ)) → IfSome (workers_named words) (λ n. (1 ≤ n) × (n ≤ 64))
named_range [] = (leb-true 1 4 refl, leb-true 4 64 refl)
named_range (word ∷ []) = number_word word
named_range (word ∷ n ∷ words) = so (bytes_eq word (codes "--workers"))
  where
    so : (b : Bool) → IfSome (cond b (number_in 1 64 n) (workers_number word)) (λ n. (1 ≤ n) × (n ≤ 64))
    so true = number_range 1 64 n
    so false = number_word word

-- so it is few
pub named_few : (words : List (List ℕ)) (n : ℕ) → Some n ≡ workers_named words → n ≤ 64
named_few words n e = (subst (λ (o : Option ℕ). IfSome o (λ m. (1 ≤ m) × (m ≤ 64))) (sym e) (named_range words)).1

sized_range : (wakers events sessions : Option ℕ) (n : ℕ) → (1 ≤ n) × (n ≤ 64) → IfSome wakers (λ w. (1 ≤ w) × (w ≤ 16)) → IfSome events (λ e. (1 ≤ e) × (e ≤ 1000)) → IfSome sessions (λ s. (1 ≤ s) × (s ≤ 1000))
    → IfSome (option_and_then (λ w. option_and_then (λ e. option_map (λ s. Idle w e s n) sessions) events) wakers) IsInRange
sized_range None events sessions n h a b c = tt
sized_range (Some w) None sessions n h a b c = tt
sized_range (Some w) (Some e) None n h a b c = tt
sized_range (Some w) (Some e) (Some s) n h a b c = (a, b, c, h)

sizes_range : (words : List (List ℕ)) (n : ℕ) → (1 ≤ n) × (n ≤ 64) → IfSome (idle_sizes words n) IsInRange
sizes_range [] n h = tt
sizes_range (w ∷ []) n h = tt
sizes_range (w ∷ e ∷ []) n h = tt
sizes_range (w ∷ e ∷ s ∷ []) n h = sized_range (number_in 1 16 w) (number_in 1 1000 e) (number_in 1 1000 s) n h (number_range 1 16 w) (number_range 1 1000 e) (number_range 1 1000 s)
sizes_range (w ∷ e ∷ s ∷ more ∷ words) n h = tt

idle_range : (words : List (List ℕ)) → IfSome (idle_of words) IsInRange
idle_range words = go (workers_named (drop (option_index words) words)) (named_range (drop (option_index words) words))
  where
    sizes : List (List ℕ)
    sizes = take (option_index words) words ++ after_option (drop (option_index words) words)

    go : (o : Option ℕ) → IfSome o (λ n. (1 ≤ n) × (n ≤ 64)) → IfSome (option_and_then (λ n. idle_sizes sizes n) o) IsInRange
    go None h = tt
    go (Some n) h = sizes_range sizes n h

-- what words ask for is in range
in_range : (words : List (List ℕ)) → IfSome (command_of words) IsInRange
in_range [] = tt
in_range (name ∷ []) = tt
in_range (name ∷ word ∷ words) =
    either (bytes_eq word (codes "idle")) _ _ (idle_range words)
    (either (bytes_eq word (codes "run")) _ _ (run_range words)
    (either (bytes_eq word (codes "gen")) _ _ (seeded_range Gen (λ s d l m. (l, m)) words)
    (either (bytes_eq word (codes "soak")) _ _ (seeded_range Soak (λ s d l m. (l, m)) words)
    (either (bytes_eq word (codes "locks")) _ _ (alone_range Locks tt words)
    (either (bytes_eq word (codes "stats")) _ _ (alone_range Stats tt words)
    (either (bytes_eq word (codes "check")) _ None (alone_range Check tt words) tt))))))

-- so is what was read of them
pub asked_in_range : (words : List (List ℕ)) (o : Option Command) → o ≡ command_of words → IfSome o IsInRange
asked_in_range words o e = subst (λ (o : Option Command). IfSome o IsInRange) (sym e) (in_range words)

-- so is what the words after idle ask for
pub idle_in_range : (words : List (List ℕ)) (o : Option Command) → o ≡ idle_of words → IfSome o IsInRange
idle_in_range words o e = subst (λ (o : Option Command). IfSome o IsInRange) (sym e) (idle_range words)
