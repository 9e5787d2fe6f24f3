-- What is read from the matches.
use Rattle.std.proofs.Common.{ℕ, ◌≡◌, ◌∙◌, List, [], ◌∷◌, Option, Some, None, Bool, true, not, ◌≤◌, length, map, le-leb, arith, refl, sym, ap, ap₂, codes, Bor, option_map}
use Rattle.std.specs.Option.{option_map_or}
use Rattle.std.specs.Prelude.{nat_le, option_and_then}
use Rattle.std.proofs.lemmas.List.{length-map}
use Rattle.std.specs.List.{list_any}
use Rattle.clap.specs.Matches.{first_value}
use Rattle.clap.specs.Walk.{Text, first_of, rows_of}
use Rattle.clap.specs.declared.parser.matches.Found.{Found}
use Rattle.clap.proofs.WalkLemmas.{first_value-rows, list_any-map}
use Rattle.command_line.specs.declared.command.Command.{Command}
use Rattle.command_line.specs.declared.command.Command.TheVariants.{Run}
use Rattle.command_line.specs.Words.{seeded_of, workers_of}
use Rattle.command_line.specs.Parses.{are_few, is_end_of_options, run_read, seeded_read}

pub text_of : (f : Found) (id : Text) (o : Option (Bor Text)) → option_map (λ s. s.now) o ≡ first_value f id → first_of id (rows_of f) ≡ option_map (λ s. s.now) o
text_of f id o e = sym (first_value-rows f id) ∙ sym e

pub some_workers : (f : Found) (o : Option (Bor Text)) (w : Bor Text) → option_map (λ s. s.now) o ≡ first_value f (codes "workers") → o ≡ Some w
    → workers_of w.now ≡ run_read (rows_of f)
some_workers f o w e is = sym (ap (λ t. option_map_or workers_of t (Some (Run 4))) (text_of f (codes "workers") o e ∙ ap (option_map (λ s. s.now)) is))

pub no_workers : (f : Found) (o : Option (Bor Text)) → option_map (λ s. s.now) o ≡ first_value f (codes "workers") → o ≡ None → Some (Run 4) ≡ run_read (rows_of f)
no_workers f o e is = sym (ap (λ t. option_map_or workers_of t (Some (Run 4))) (text_of f (codes "workers") o e ∙ ap (option_map (λ s. s.now)) is))

-- what is read of two texts
abbrev read_of : (ℕ → ℕ → Command) → Option Text → Option Text → Option Command
read_of make seed devices = option_and_then (λ s. option_and_then (λ d. seeded_of make (s ∷ d ∷ [])) devices) seed

pub no_seed : (make : ℕ → ℕ → Command) (f : Found) (a : Option (Bor Text)) → option_map (λ s. s.now) a ≡ first_value f (codes "seed") → a ≡ None → None ≡ seeded_read make (rows_of f)
no_seed make f a e none = sym (ap (λ t. read_of make t (first_of (codes "devices") (rows_of f))) (text_of f (codes "seed") a e ∙ ap (option_map (λ s. s.now)) none))

two_texts : (make : ℕ → ℕ → Command) (f : Found) (a b : Option (Bor Text)) → option_map (λ s. s.now) a ≡ first_value f (codes "seed")
    → option_map (λ s. s.now) b ≡ first_value f (codes "devices") → read_of make (option_map (λ s. s.now) a) (option_map (λ s. s.now) b) ≡ seeded_read make (rows_of f)
two_texts make f a b e g = sym (ap₂ (read_of make) (text_of f (codes "seed") a e) (text_of f (codes "devices") b g))

pub no_devices : (make : ℕ → ℕ → Command) (f : Found) (a b : Option (Bor Text)) (s : Bor Text) → option_map (λ s. s.now) a ≡ first_value f (codes "seed")
    → option_map (λ s. s.now) b ≡ first_value f (codes "devices") → a ≡ Some s → b ≡ None → None ≡ seeded_read make (rows_of f)
no_devices make f a b s e g a_is b_is = sym (ap₂ (λ a b. read_of make (option_map (λ s. s.now) a) (option_map (λ s. s.now) b)) a_is b_is) ∙ two_texts make f a b e g

pub both_read : (make : ℕ → ℕ → Command) (f : Found) (a b : Option (Bor Text)) (s d : Bor Text) → option_map (λ s. s.now) a ≡ first_value f (codes "seed")
    → option_map (λ s. s.now) b ≡ first_value f (codes "devices") → a ≡ Some s → b ≡ Some d → seeded_of make (s.now ∷ d.now ∷ []) ≡ seeded_read make (rows_of f)
both_read make f a b s d e g a_is b_is = sym (ap₂ (λ a b. read_of make (option_map (λ s. s.now) a) (option_map (λ s. s.now) b)) a_is b_is) ∙ two_texts make f a b e g

-- as many words as are counted, and none that ends the options
pub few_is : {S : Type 0} (f : S → Text) (xs : List S) (r : Bool) → r ≡ list_any (λ x. is_end_of_options (f x)) xs → 1 ≤ length xs → length xs ≤ 3 → not r ≡ are_few (map f xs)
few_is f xs r e some few =
    let least : nat_le 1 (length (map f xs)) ≡ true = le-leb 1 (length (map f xs)) (omega (arith, length-map xs f)) in
    let most : nat_le (length (map f xs)) 3 ≡ true = le-leb (length (map f xs)) 3 (omega (arith, length-map xs f)) in
    ap not (e ∙ list_any-map is_end_of_options f xs) ∙ sym (rw (least, most) refl)
