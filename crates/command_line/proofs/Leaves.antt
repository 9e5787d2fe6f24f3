-- What the parse of a leaf comes to, word after word.
use Rattle.std.proofs.Common.{ℕ, ◌≡◌, ◌∙◌, ◌⊎◌, ◌++◌, Bool, true, false, List, [], ◌∷◌, length, take, drop, Option, Some, None, refl, sym, subst, inl, inr, codes, fold}
use Rattle.std.specs.Str.{bytes_eq}
use Rattle.clap.specs.Kinds.{Kinds, or_else}
use Rattle.clap.specs.Walk.{Row, Text, Walk, finished, idle, nothing_held, option, settled, used, walk_from, walked}
use Rattle.clap.specs.Simple.{App, Shape, built_leaf, filled, inherited, marked_built, with_index, with_leaf_noted}
use Rattle.clap.specs.Faults.{check_fault, defaults_fault, settle_fault, turn_fault, walk_fault}
use Rattle.clap.specs.declared.error.kind.ErrorKind.{ErrorKind}
use Rattle.clap.specs.declared.error.kind.ErrorKind.TheVariants.{InvalidValue, UnknownArgument}
use Rattle.clap.proofs.OnLiterals.{clap_on_literals}
use Rattle.command_line.specs.declared.command.Command.{Command}
use Rattle.command_line.specs.Words.{alone_of, run_of, seeded_of, workers_of, workers_prefix}
use Rattle.command_line.specs.Parses.{alone_app, alone_read, run_app, run_read, seeded_app, seeded_read, whole_app, workers_rule}
use Rattle.command_line.proofs.Turns.{place, turn_by, word_is, IsLong, IsPlain}
use Rattle.command_line.proofs.Named.{joined_parts, minus_devices, minus_seed, minus_workers, names_no_workers, same_text}

-- what is read is what is asked for, if no step fails, and else nothing is asked for
abbrev pub Agrees : Kinds → Option Command → Option Command → Type 0
Agrees [] read asked = read ≡ asked
Agrees (k ∷ ks) read asked = asked ≡ None

module _ (s : Shape) (read : List Row → Option Command) (asked : Option Command) where
  -- what is left of the parse from here on
  abbrev pub end_from : Walk → Kinds
  end_from w = or_else (settle_fault s.rules s.args_override_self w.held)
      (or_else (defaults_fault (settled s.rules w.held).rows s.rules) (check_fault s (finished s.rules w.held) false))

  abbrev pub LeafAgrees : Walk → List Text → Type 0
  LeafAgrees w words = Agrees (or_else (walk_fault s [] w words) (or_else [] (end_from (fold (walked s.rules []) w words))))
      (read (finished s.rules (fold (walked s.rules []) w words).held)) asked

  pub fails : (w : Walk) (x : Text) (rest : List Text) (k : ErrorKind) (ks : Kinds) → turn_fault s [] w x ≡ k ∷ ks → asked ≡ None → LeafAgrees w (x ∷ rest)
  unfolding walk_fault
  fails w x rest k ks e none = subst (λ t. Agrees (or_else (or_else t (walk_fault s [] (walked s.rules [] w x) rest)) (or_else [] (end_from (fold (walked s.rules []) w (x ∷ rest)))))
      (read (finished s.rules (fold (walked s.rules []) w (x ∷ rest)).held)) asked) (sym e) none

  pub passes : (w v : Walk) (x : Text) (rest : List Text) → turn_fault s [] w x ≡ [] → walked s.rules [] w x ≡ v → LeafAgrees v rest → LeafAgrees w (x ∷ rest)
  unfolding walk_fault
  passes w v x rest e f h = subst (λ (p : Kinds × Walk). Agrees (or_else (or_else p.0 (walk_fault s [] p.1 rest)) (or_else [] (end_from (fold (walked s.rules []) p.1 rest))))
      (read (finished s.rules (fold (walked s.rules []) p.1 rest).held)) asked) (sym (λ i. (e i, f i))) h

-- a leaf as it is built
abbrev pub leaf : App → Shape
leaf a = built_leaf (inherited (with_leaf_noted (marked_built whole_app.top)) a.top)

abbrev pub run_leaf : Shape
run_leaf = leaf run_app

abbrev pub seeded_leaf : Text → Shape
seeded_leaf name = leaf (seeded_app name)

-- ---- run

-- a word that names no option of run
run_stray : (rows : List Row) (x : Text) → bytes_eq x (codes "--") ≡ false → bytes_eq x (codes "--workers") ≡ false
    → bytes_eq (take (length workers_prefix) x) workers_prefix ≡ false → turn_fault run_leaf [] (place run_leaf [] rows None idle 1 x) x ≡ UnknownArgument ∷ []
unfolding clap_on_literals
run_stray rows x end alone joined = go (word_is run_leaf [] rows None idle 1 x (λ c. refl) refl end)
  where
    unnamed : (p : Text × Option Text) → bytes_eq (codes "workers") p.0 ≡ false → turn_by run_leaf [] rows None idle 1 x (Some p) ≡ UnknownArgument ∷ []
    unnamed p e = rw e refl

    go : IsLong run_leaf [] rows None idle 1 x ⊎ IsPlain run_leaf [] rows None idle 1 x → turn_fault run_leaf [] (place run_leaf [] rows None idle 1 x) x ≡ UnknownArgument ∷ []
    go (inl h) = h.2 ∙ unnamed h.0 (names_no_workers x h.0 h.1 alone joined)
    go (inr (inl h)) = h.0
    go (inr (inr h)) = h.0

-- the word after `--workers`
abbrev waits : Text → Walk
waits x = place run_leaf [] [] (Some (codes "workers", [])) (option (codes "workers")) 1 x

run_value : (x : Text) → bytes_eq x (codes "--") ≡ false → LeafAgrees run_leaf run_read (workers_of x) (waits x) (x ∷ [])
unfolding clap_on_literals
run_value x end = go (word_is run_leaf [] [] (Some (codes "workers", [])) (option (codes "workers")) 1 x (λ c. refl) refl end)
  where
    named : (n : Text) (v : Option Text) (b : Bool) → bytes_eq (codes "workers") n ≡ b
        → (k : ErrorKind) × (turn_by run_leaf [] [] (Some (codes "workers", [])) (option (codes "workers")) 1 x (Some (n, v)) ≡ k ∷ [])
    named n v false e = (UnknownArgument, rw e refl)
    named n None true e = (InvalidValue, rw e refl)
    named n (Some v) true e = (InvalidValue, rw e refl)

    go : IsLong run_leaf [] [] (Some (codes "workers", [])) (option (codes "workers")) 1 x ⊎ IsPlain run_leaf [] [] (Some (codes "workers", [])) (option (codes "workers")) 1 x
        → LeafAgrees run_leaf run_read (workers_of x) (waits x) (x ∷ [])
    go (inl h) =
        let bad = named h.0.0 h.0.1 (bytes_eq (codes "workers") h.0.0) refl in
        fails run_leaf run_read (workers_of x) (waits x) x [] bad.0 [] (h.2 ∙ bad.1) (minus_workers x h.3.0 h.3.1)
    go (inr (inl h)) = fails run_leaf run_read (workers_of x) (waits x) x [] UnknownArgument [] h.0 (minus_workers x h.1.0 h.1.1)
    go (inr (inr h)) = passes run_leaf run_read (workers_of x) (waits x) _ x [] h.0 h.1 refl

abbrev RunAgrees : List Text → Type 0
RunAgrees words = LeafAgrees run_leaf run_read (run_of words) (walk_from nothing_held) words

pub run_none : RunAgrees []
unfolding clap_on_literals
run_none = refl

pub run_one : (x : Text) → bytes_eq x (codes "--") ≡ false → RunAgrees (x ∷ [])
unfolding clap_on_literals
run_one x end = alone (bytes_eq x (codes "--workers")) refl
  where
    joined : bytes_eq x (codes "--workers") ≡ false → (b : Bool) → bytes_eq (take (length workers_prefix) x) workers_prefix ≡ b → RunAgrees (x ∷ [])
    joined e true f = subst (λ z. RunAgrees (z ∷ [])) (sym (joined_parts x f)) refl
    joined e false f = fails run_leaf run_read (run_of (x ∷ [])) (walk_from nothing_held) x [] UnknownArgument [] (run_stray [] x end e f) (rw f refl)

    alone : (b : Bool) → bytes_eq x (codes "--workers") ≡ b → RunAgrees (x ∷ [])
    alone true e = subst (λ z. RunAgrees (z ∷ [])) (sym (same_text x (codes "--workers") e)) refl
    alone false e = joined e (bytes_eq (take (length workers_prefix) x) workers_prefix) refl

-- the row of the option after a word that holds its value
abbrev given : Text → List Row
given v = used (with_index 1 (filled workers_rule)) (v ∷ []) []

-- a word after one that holds a value
run_again : (v y : Text) → bytes_eq y (codes "--") ≡ false → RunAgrees ((workers_prefix ++ v) ∷ y ∷ [])
unfolding clap_on_literals
run_again v y end = alone (bytes_eq y (codes "--workers")) refl
  where
    joined : bytes_eq y (codes "--workers") ≡ false → (b : Bool) → bytes_eq (take (length workers_prefix) y) workers_prefix ≡ b → RunAgrees ((workers_prefix ++ v) ∷ y ∷ [])
    joined e true f = subst (λ z. RunAgrees ((workers_prefix ++ v) ∷ z ∷ [])) (sym (joined_parts y f)) refl
    joined e false f = passes run_leaf run_read None (walk_from nothing_held) (place run_leaf [] (given v) None idle 1 y) (workers_prefix ++ v) (y ∷ []) refl refl
        (fails run_leaf run_read None (place run_leaf [] (given v) None idle 1 y) y [] UnknownArgument [] (run_stray (given v) y end e f) refl)

    alone : (b : Bool) → bytes_eq y (codes "--workers") ≡ b → RunAgrees ((workers_prefix ++ v) ∷ y ∷ [])
    alone true e = subst (λ z. RunAgrees ((workers_prefix ++ v) ∷ z ∷ [])) (sym (same_text y (codes "--workers") e)) refl
    alone false e = joined e (bytes_eq (take (length workers_prefix) y) workers_prefix) refl

pub run_two : (x y : Text) → bytes_eq x (codes "--") ≡ false → bytes_eq y (codes "--") ≡ false → RunAgrees (x ∷ y ∷ [])
unfolding clap_on_literals
run_two x y end end_y = alone (bytes_eq x (codes "--workers")) refl
  where
    joined : bytes_eq x (codes "--workers") ≡ false → (b : Bool) → bytes_eq (take (length workers_prefix) x) workers_prefix ≡ b → RunAgrees (x ∷ y ∷ [])
    joined e true f = subst (λ z. RunAgrees (z ∷ y ∷ [])) (sym (joined_parts x f)) (run_again (drop (length workers_prefix) x) y end_y)
    joined e false f = fails run_leaf run_read (run_of (x ∷ y ∷ [])) (walk_from nothing_held) x (y ∷ []) UnknownArgument [] (run_stray [] x end e f) (rw e refl)

    alone : (b : Bool) → bytes_eq x (codes "--workers") ≡ b → RunAgrees (x ∷ y ∷ [])
    alone true e = subst (λ z. RunAgrees (z ∷ y ∷ [])) (sym (same_text x (codes "--workers") e))
        (passes run_leaf run_read (workers_of y) (walk_from nothing_held) (waits y) (codes "--workers") (y ∷ []) refl refl (run_value y end_y))
    alone false e = joined e (bytes_eq (take (length workers_prefix) x) workers_prefix) refl

-- ---- gen and soak

module _ (name : Text) (make : ℕ → ℕ → Command) where
  abbrev SeededAgrees : List Text → Type 0
  SeededAgrees words = LeafAgrees (seeded_leaf name) (seeded_read make) (seeded_of make words) (walk_from nothing_held) words

  pub seeded_none : SeededAgrees []
  unfolding clap_on_literals
  seeded_none = refl

  pub seeded_one : (x : Text) → bytes_eq x (codes "--") ≡ false → SeededAgrees (x ∷ [])
  unfolding clap_on_literals
  seeded_one x end = go (word_is (seeded_leaf name) [] [] None idle 1 x (λ c. refl) refl end)
    where
      go : IsLong (seeded_leaf name) [] [] None idle 1 x ⊎ IsPlain (seeded_leaf name) [] [] None idle 1 x → SeededAgrees (x ∷ [])
      go (inl h) = fails (seeded_leaf name) (seeded_read make) None (walk_from nothing_held) x [] UnknownArgument [] h.2 refl
      go (inr (inl h)) = fails (seeded_leaf name) (seeded_read make) None (walk_from nothing_held) x [] UnknownArgument [] h.0 refl
      go (inr (inr h)) = passes (seeded_leaf name) (seeded_read make) None (walk_from nothing_held) _ x [] h.0 h.1 refl

  abbrev seed_held : Text → Option (Text × List Text)
  seed_held x = Some (codes "seed", x ∷ [])

  seeded_last : (x y : Text) → bytes_eq y (codes "--") ≡ false
      → LeafAgrees (seeded_leaf name) (seeded_read make) (seeded_of make (x ∷ y ∷ [])) (place (seeded_leaf name) [] [] (seed_held x) idle 2 y) (y ∷ [])
  unfolding clap_on_literals
  seeded_last x y end = go (word_is (seeded_leaf name) [] [] (seed_held x) idle 2 y (λ c. refl) refl end)
    where
      asked : Option Command
      asked = seeded_of make (x ∷ y ∷ [])

      go : IsLong (seeded_leaf name) [] [] (seed_held x) idle 2 y ⊎ IsPlain (seeded_leaf name) [] [] (seed_held x) idle 2 y
          → LeafAgrees (seeded_leaf name) (seeded_read make) (seeded_of make (x ∷ y ∷ [])) (place (seeded_leaf name) [] [] (seed_held x) idle 2 y) (y ∷ [])
      go (inl h) = fails (seeded_leaf name) (seeded_read make) asked (place (seeded_leaf name) [] [] (seed_held x) idle 2 y) y [] UnknownArgument [] h.2 (minus_devices make x y h.3.0 h.3.1)
      go (inr (inl h)) = fails (seeded_leaf name) (seeded_read make) asked (place (seeded_leaf name) [] [] (seed_held x) idle 2 y) y [] UnknownArgument [] h.0 (minus_devices make x y h.1.0 h.1.1)
      go (inr (inr h)) = passes (seeded_leaf name) (seeded_read make) asked (place (seeded_leaf name) [] [] (seed_held x) idle 2 y) _ y [] h.0 h.1 refl

  pub seeded_two : (x y : Text) → bytes_eq x (codes "--") ≡ false → bytes_eq y (codes "--") ≡ false → SeededAgrees (x ∷ y ∷ [])
  unfolding clap_on_literals
  seeded_two x y end end_y = go (word_is (seeded_leaf name) [] [] None idle 1 x (λ c. refl) refl end)
    where
      asked : Option Command
      asked = seeded_of make (x ∷ y ∷ [])

      go : IsLong (seeded_leaf name) [] [] None idle 1 x ⊎ IsPlain (seeded_leaf name) [] [] None idle 1 x → SeededAgrees (x ∷ y ∷ [])
      go (inl h) = fails (seeded_leaf name) (seeded_read make) asked (walk_from nothing_held) x (y ∷ []) UnknownArgument [] h.2 (minus_seed make x y h.3.0 h.3.1)
      go (inr (inl h)) = fails (seeded_leaf name) (seeded_read make) asked (walk_from nothing_held) x (y ∷ []) UnknownArgument [] h.0 (minus_seed make x y h.1.0 h.1.1)
      go (inr (inr h)) = passes (seeded_leaf name) (seeded_read make) asked (walk_from nothing_held) (place (seeded_leaf name) [] [] (seed_held x) idle 2 y) x (y ∷ []) h.0 h.1 (seeded_last x y end_y)

-- ---- a command without words of its own

abbrev pub alone_leaf : Text → Shape
alone_leaf name = leaf (alone_app name)

module _ (name : Text) (what : Command) where
  abbrev AloneAgrees : List Text → Type 0
  AloneAgrees words = LeafAgrees (alone_leaf name) (alone_read what) (alone_of what words) (walk_from nothing_held) words

  pub alone_none : AloneAgrees []
  unfolding clap_on_literals
  alone_none = refl

  -- such a command knows no word
  pub alone_more : (x : Text) (rest : List Text) → bytes_eq x (codes "--") ≡ false → AloneAgrees (x ∷ rest)
  unfolding clap_on_literals
  alone_more x rest end = fails (alone_leaf name) (alone_read what) None (walk_from nothing_held) x rest UnknownArgument [] (go (word_is (alone_leaf name) [] [] None idle 1 x (λ c. refl) refl end)) refl
    where
      go : IsLong (alone_leaf name) [] [] None idle 1 x ⊎ IsPlain (alone_leaf name) [] [] None idle 1 x → turn_fault (alone_leaf name) [] (place (alone_leaf name) [] [] None idle 1 x) x ≡ UnknownArgument ∷ []
      go (inl h) = h.2
      go (inr (inl h)) = h.0
      go (inr (inr h)) = h.0
