-- What the parse of one to three words comes to.
use Rattle.std.proofs.Common.{ℕ, ◌≡◌, ◌∙◌, ◌⊎◌, ◌&&◌, ◌||◌, Bool, cond, true, false, not, List, [], ◌∷◌, length, Option, None, refl, sym, ap, subst, inl, inr, codes, true≢false, arith, ◌≤◌, leb-true, le-leb, drop, take, take_all, ◌-◌, map}
use Rattle.std.specs.Prelude.{nat_le, is_some}
use Rattle.std.specs.List.{list_any}
use Rattle.std.specs.Str.{bytes_eq}
use Rattle.clap.specs.Kinds.{HasKind, Kinds, or_else}
use Rattle.clap.specs.Walk.{Held, Names, Row, Text, rows_after, finished, idle, nothing_held, settled, stop_after, subcommand_met, walk, walk_from, walked}
use Rattle.clap.specs.Simple.{App, Shape, built, entered, names_of, subcommand_of}
use Rattle.clap.specs.Faults.{check_fault, defaults_fault, settle_fault, entered_fault, fault_of, level_fault, turn_fault, walk_fault}
use Rattle.clap.specs.declared.error.kind.ErrorKind.{ErrorKind}
use Rattle.clap.specs.declared.error.kind.ErrorKind.TheVariants.{InvalidSubcommand, OutOfMemory, UnknownArgument}
use Rattle.clap.specs.declared.error.Error.{Error}
use Rattle.clap.specs.Values.{kind_of}
use Rattle.clap.proofs.OnLiterals.{clap_on_literals}
use Rattle.clap.proofs.WalkLemmas.{both}
use Rattle.command_line.specs.declared.command.Command.{Command}
use Rattle.command_line.specs.declared.command.Command.TheVariants.{Gen, Soak, Check, Locks, Stats}
use Rattle.command_line.specs.Words.{alone_of, command_in, parsed_of, run_of, seeded_of, workers_of}
use Rattle.command_line.specs.Parses.{alone_read, are_few, command_read, is_end_of_options, run_read, seeded_read, whole_app}
use Rattle.command_line.proofs.Turns.{word_is, IsLong, IsPlain}
use Rattle.command_line.proofs.Named.{minus_devices, other_text, same_text}
use Rattle.command_line.proofs.Leaves.{Agrees, LeafAgrees, run_leaf, run_none, run_one, run_two, seeded_leaf, seeded_none, seeded_one, seeded_two, alone_leaf, alone_more, alone_none}

below : (k : Kinds) (read asked : Option Command) → Agrees k read asked → Agrees (or_else k []) read asked
below [] read asked h = h
below (k ∷ ks) read asked h = h

lifted : (s : Shape) (read : List Row → Option Command) (asked : Option Command) (words : List Text) → LeafAgrees s read asked (walk_from nothing_held) words
    → Agrees (or_else (level_fault s [] nothing_held words false []) []) (read (rows_after s.rules [] words)) asked
lifted s read asked words h = below (level_fault s [] nothing_held words false []) (read (rows_after s.rules [] words)) asked h

abbrev pub WordsAgree : Text → List Text → Type 0
WordsAgree name words = Agrees (fault_of whole_app (name ∷ words)) (command_read (subcommand_of whole_app (name ∷ words))) (command_in words)

-- none of them ends the options
abbrev Ends : List Text → Type 0
Ends words = list_any is_end_of_options words ≡ false

not_any : (b : Bool) → not b ≡ true → b ≡ false
not_any true e = absurd (true≢false (sym e))
not_any false e = refl

neither : (a b : Bool) → (a || b) ≡ false → (a ≡ false) × (b ≡ false)
neither true b e = absurd (true≢false e)
neither false b e = (refl, e)

not_few : (x y z : Text) (rest : List Text) → nat_le (length (x ∷ y ∷ z ∷ rest)) 2 ≡ true → ⊥
not_few x y z rest few =
    let le : length (x ∷ y ∷ z ∷ rest) ≤ 2 = leb-true (length (x ∷ y ∷ z ∷ rest)) 2 few in
    omega arith

run_words : (name : Text) (words : List Text) → nat_le (length words) 2 ≡ true → Ends words → WordsAgree name (codes "run" ∷ words)
unfolding clap_on_literals
run_words name [] few ends = lifted run_leaf run_read (run_of []) [] run_none
run_words name (x ∷ []) few ends = lifted run_leaf run_read (run_of (x ∷ [])) (x ∷ []) (run_one x (neither (is_end_of_options x) false ends).0)
run_words name (x ∷ y ∷ []) few ends =
    let one = neither (is_end_of_options x) (is_end_of_options y || false) ends in
    lifted run_leaf run_read (run_of (x ∷ y ∷ [])) (x ∷ y ∷ []) (run_two x y one.0 (neither (is_end_of_options y) false one.1).0)
run_words name (x ∷ y ∷ z ∷ rest) few ends = absurd (not_few x y z rest few)

gen_words : (name : Text) (words : List Text) → nat_le (length words) 2 ≡ true → Ends words → WordsAgree name (codes "gen" ∷ words)
unfolding clap_on_literals
gen_words name [] few ends = lifted (seeded_leaf (codes "gen")) (seeded_read Gen) (seeded_of Gen []) [] (seeded_none (codes "gen") Gen)
gen_words name (x ∷ []) few ends = lifted (seeded_leaf (codes "gen")) (seeded_read Gen) (seeded_of Gen (x ∷ [])) (x ∷ []) (seeded_one (codes "gen") Gen x (neither (is_end_of_options x) false ends).0)
gen_words name (x ∷ y ∷ []) few ends =
    let one = neither (is_end_of_options x) (is_end_of_options y || false) ends in
    lifted (seeded_leaf (codes "gen")) (seeded_read Gen) (seeded_of Gen (x ∷ y ∷ [])) (x ∷ y ∷ []) (seeded_two (codes "gen") Gen x y one.0 (neither (is_end_of_options y) false one.1).0)
gen_words name (x ∷ y ∷ z ∷ rest) few ends = absurd (not_few x y z rest few)

soak_words : (name : Text) (words : List Text) → nat_le (length words) 2 ≡ true → Ends words → WordsAgree name (codes "soak" ∷ words)
unfolding clap_on_literals
soak_words name [] few ends = lifted (seeded_leaf (codes "soak")) (seeded_read Soak) (seeded_of Soak []) [] (seeded_none (codes "soak") Soak)
soak_words name (x ∷ []) few ends = lifted (seeded_leaf (codes "soak")) (seeded_read Soak) (seeded_of Soak (x ∷ [])) (x ∷ []) (seeded_one (codes "soak") Soak x (neither (is_end_of_options x) false ends).0)
soak_words name (x ∷ y ∷ []) few ends =
    let one = neither (is_end_of_options x) (is_end_of_options y || false) ends in
    lifted (seeded_leaf (codes "soak")) (seeded_read Soak) (seeded_of Soak (x ∷ y ∷ [])) (x ∷ y ∷ []) (seeded_two (codes "soak") Soak x y one.0 (neither (is_end_of_options y) false one.1).0)
soak_words name (x ∷ y ∷ z ∷ rest) few ends = absurd (not_few x y z rest few)

locks_words : (name : Text) (words : List Text) → nat_le (length words) 2 ≡ true → Ends words → WordsAgree name (codes "locks" ∷ words)
unfolding clap_on_literals
locks_words name [] few ends = lifted (alone_leaf (codes "locks")) (alone_read Locks) (alone_of Locks []) [] (alone_none (codes "locks") Locks)
locks_words name (x ∷ []) few ends = lifted (alone_leaf (codes "locks")) (alone_read Locks) None (x ∷ []) (alone_more (codes "locks") Locks x [] (neither (is_end_of_options x) false ends).0)
locks_words name (x ∷ y ∷ []) few ends = lifted (alone_leaf (codes "locks")) (alone_read Locks) None (x ∷ y ∷ []) (alone_more (codes "locks") Locks x (y ∷ []) (neither (is_end_of_options x) (is_end_of_options y || false) ends).0)
locks_words name (x ∷ y ∷ z ∷ rest) few ends = absurd (not_few x y z rest few)

stats_words : (name : Text) (words : List Text) → nat_le (length words) 2 ≡ true → Ends words → WordsAgree name (codes "stats" ∷ words)
unfolding clap_on_literals
stats_words name [] few ends = lifted (alone_leaf (codes "stats")) (alone_read Stats) (alone_of Stats []) [] (alone_none (codes "stats") Stats)
stats_words name (x ∷ []) few ends = lifted (alone_leaf (codes "stats")) (alone_read Stats) None (x ∷ []) (alone_more (codes "stats") Stats x [] (neither (is_end_of_options x) false ends).0)
stats_words name (x ∷ y ∷ []) few ends = lifted (alone_leaf (codes "stats")) (alone_read Stats) None (x ∷ y ∷ []) (alone_more (codes "stats") Stats x (y ∷ []) (neither (is_end_of_options x) (is_end_of_options y || false) ends).0)
stats_words name (x ∷ y ∷ z ∷ rest) few ends = absurd (not_few x y z rest few)

check_words : (name : Text) (words : List Text) → nat_le (length words) 2 ≡ true → Ends words → WordsAgree name (codes "check" ∷ words)
unfolding clap_on_literals
check_words name [] few ends = lifted (alone_leaf (codes "check")) (alone_read Check) (alone_of Check []) [] (alone_none (codes "check") Check)
check_words name (x ∷ []) few ends = lifted (alone_leaf (codes "check")) (alone_read Check) None (x ∷ []) (alone_more (codes "check") Check x [] (neither (is_end_of_options x) false ends).0)
check_words name (x ∷ y ∷ []) few ends = lifted (alone_leaf (codes "check")) (alone_read Check) None (x ∷ y ∷ []) (alone_more (codes "check") Check x (y ∷ []) (neither (is_end_of_options x) (is_end_of_options y || false) ends).0)
check_words name (x ∷ y ∷ z ∷ rest) few ends = absurd (not_few x y z rest few)

-- if the first word's turn fails, the level does
level_fails : (s : Shape) (names : Names) (h : Held) (word : Text) (words : List Text) (has : Bool) (under : Kinds) (k : ErrorKind) (ks : Kinds)
    → turn_fault s names (walk_from h) word ≡ k ∷ ks → level_fault s names h (word ∷ words) has under ≡ k ∷ ks
unfolding walk_fault
level_fails s names h word words has under k ks e =
    let end = (walk s.rules names h (word ∷ words)).held in
    ap (λ t. or_else (or_else t (walk_fault s names (walked s.rules names (walk_from h) word) words))
    (or_else under (or_else (settle_fault s.rules s.args_override_self end)
    (or_else (defaults_fault (settled s.rules end).rows s.rules) (check_fault s (finished s.rules end) has))))) e

abbrev top : App
top = built whole_app

-- a first word that names none of the six
module _ (name word : Text) (words : List Text) (no_run : bytes_eq word (codes "run") ≡ false) (no_gen : bytes_eq word (codes "gen") ≡ false)
    (no_soak : bytes_eq word (codes "soak") ≡ false) (no_locks : bytes_eq word (codes "locks") ≡ false) (no_stats : bytes_eq word (codes "stats") ≡ false) (no_check : bytes_eq word (codes "check") ≡ false) (end : is_end_of_options word ≡ false) where
  unnamed : subcommand_met (names_of top) idle word ≡ None
  unnamed = rw (other_text word (codes "run") no_run, other_text word (codes "gen") no_gen, other_text word (codes "soak") no_soak, other_text word (codes "locks") no_locks, other_text word (codes "stats") no_stats, other_text word (codes "check") no_check) refl

  first_fails : (k : ErrorKind) × (ks : Kinds) × (turn_fault top.top (names_of top) (walk_from nothing_held) word ≡ k ∷ ks)
  unfolding clap_on_literals
  first_fails = go (word_is top.top (names_of top) [] None idle 1 word (λ c. refl) unnamed end)
    where
      go : IsLong top.top (names_of top) [] None idle 1 word ⊎ IsPlain top.top (names_of top) [] None idle 1 word
          → (k : ErrorKind) × (ks : Kinds) × (turn_fault top.top (names_of top) (walk_from nothing_held) word ≡ k ∷ ks)
      go (inl h) = (UnknownArgument, [], h.2)
      go (inr (inl h)) = (UnknownArgument, [], h.0)
      go (inr (inr h)) = (UnknownArgument, InvalidSubcommand ∷ [], h.0)

  no_command : command_in (word ∷ words) ≡ None
  no_command = rw (no_run, no_gen, no_soak, no_locks, no_stats, no_check) refl

  whole_fails : (k : ErrorKind) (ks : Kinds) → turn_fault top.top (names_of top) (walk_from nothing_held) word ≡ k ∷ ks → fault_of whole_app (name ∷ word ∷ words) ≡ k ∷ ks
  whole_fails k ks e = level_fails top.top (names_of top) nothing_held word words (is_some (entered top (stop_after top.top.rules (names_of top) (word ∷ words))))
      (entered_fault top (stop_after top.top.rules (names_of top) (word ∷ words))) k ks e

  other_words : WordsAgree name (word ∷ words)
  other_words =
      let first = first_fails in
      subst (λ k. Agrees k (command_read (subcommand_of whole_app (name ∷ word ∷ words))) (command_in (word ∷ words))) (sym (whole_fails first.0 first.1 first.2)) no_command

-- what is read is what is asked for, and else nothing is asked for
pub words_agree : (name : Text) (words : List Text) → are_few words ≡ true → WordsAgree name words
words_agree name [] few = absurd (true≢false (sym few))
words_agree name (word ∷ words) few = run (bytes_eq word (codes "run")) refl
  where
    sized : (nat_le (length (word ∷ words)) 3 ≡ true) × (not (list_any is_end_of_options (word ∷ words)) ≡ true)
    sized = both (nat_le (length (word ∷ words)) 3) (not (list_any is_end_of_options (word ∷ words)))
        (both (nat_le 1 (length (word ∷ words))) (nat_le (length (word ∷ words)) 3 && not (list_any is_end_of_options (word ∷ words))) few).1

    ends : Ends (word ∷ words)
    ends = not_any (list_any is_end_of_options (word ∷ words)) sized.1

    one : nat_le (length words) 2 ≡ true
    one =
        let le : length (word ∷ words) ≤ 3 = leb-true (length (word ∷ words)) 3 sized.0 in
        le-leb (length words) 2 (omega arith)

    parts : (is_end_of_options word ≡ false) × Ends words
    parts = neither (is_end_of_options word) (list_any is_end_of_options words) ends

    check : bytes_eq word (codes "run") ≡ false → bytes_eq word (codes "gen") ≡ false → bytes_eq word (codes "soak") ≡ false → bytes_eq word (codes "locks") ≡ false → bytes_eq word (codes "stats") ≡ false → (b : Bool) → bytes_eq word (codes "check") ≡ b → WordsAgree name (word ∷ words)
    check r g s l t true e = subst (λ w. WordsAgree name (w ∷ words)) (sym (same_text word (codes "check") e)) (check_words name words one parts.1)
    check r g s l t false e = other_words name word words r g s l t e parts.0

    stats : bytes_eq word (codes "run") ≡ false → bytes_eq word (codes "gen") ≡ false → bytes_eq word (codes "soak") ≡ false → bytes_eq word (codes "locks") ≡ false → (b : Bool) → bytes_eq word (codes "stats") ≡ b → WordsAgree name (word ∷ words)
    stats r g s l true e = subst (λ w. WordsAgree name (w ∷ words)) (sym (same_text word (codes "stats") e)) (stats_words name words one parts.1)
    stats r g s l false e = check r g s l e (bytes_eq word (codes "check")) refl

    locks : bytes_eq word (codes "run") ≡ false → bytes_eq word (codes "gen") ≡ false → bytes_eq word (codes "soak") ≡ false → (b : Bool) → bytes_eq word (codes "locks") ≡ b → WordsAgree name (word ∷ words)
    locks r g s true e = subst (λ w. WordsAgree name (w ∷ words)) (sym (same_text word (codes "locks") e)) (locks_words name words one parts.1)
    locks r g s false e = stats r g s e (bytes_eq word (codes "stats")) refl

    soak : bytes_eq word (codes "run") ≡ false → bytes_eq word (codes "gen") ≡ false → (b : Bool) → bytes_eq word (codes "soak") ≡ b → WordsAgree name (word ∷ words)
    soak r g true e = subst (λ w. WordsAgree name (w ∷ words)) (sym (same_text word (codes "soak") e)) (soak_words name words one parts.1)
    soak r g false e = locks r g e (bytes_eq word (codes "locks")) refl

    gen : bytes_eq word (codes "run") ≡ false → (b : Bool) → bytes_eq word (codes "gen") ≡ b → WordsAgree name (word ∷ words)
    gen r true e = subst (λ w. WordsAgree name (w ∷ words)) (sym (same_text word (codes "gen") e)) (gen_words name words one parts.1)
    gen r false e = soak r e (bytes_eq word (codes "soak")) refl

    run : (b : Bool) → bytes_eq word (codes "run") ≡ b → WordsAgree name (word ∷ words)
    run true e = subst (λ w. WordsAgree name (w ∷ words)) (sym (same_text word (codes "run") e)) (run_words name words one parts.1)
    run false e = gen e (bytes_eq word (codes "gen")) refl

-- ---- words of no form

choose : (a b c d e f : Bool) (p q r s t u : Option Command) → p ≡ None → q ≡ None → r ≡ None → s ≡ None → t ≡ None → u ≡ None → cond a p (cond b q (cond c r (cond d s (cond e t (cond f u None))))) ≡ None
choose true b c d e f p q r s t u one two three four five six = one
choose false true c d e f p q r s t u one two three four five six = two
choose false false true d e f p q r s t u one two three four five six = three
choose false false false true e f p q r s t u one two three four five six = four
choose false false false false true f p q r s t u one two three four five six = five
choose false false false false false true p q r s t u one two three four five six = six
choose false false false false false false p q r s t u one two three four five six = refl

-- whatever the first word is, these after it make no form
unformed : (word : Text) (words : List Text) → run_of words ≡ None → ((make : ℕ → ℕ → Command) → seeded_of make words ≡ None) → ((what : Command) → alone_of what words ≡ None) → command_in (word ∷ words) ≡ None
unformed word words run seeded alone =
    choose (bytes_eq word (codes "run")) (bytes_eq word (codes "gen")) (bytes_eq word (codes "soak")) (bytes_eq word (codes "locks")) (bytes_eq word (codes "stats")) (bytes_eq word (codes "check"))
    (run_of words) (seeded_of Gen words) (seeded_of Soak words) (alone_of Locks words) (alone_of Stats words) (alone_of Check words)
    run (seeded Gen) (seeded Soak) (alone Locks) (alone Stats) (alone Check)

end_is : (word : Text) → is_end_of_options word ≡ true → word ≡ codes "--"
end_is word e = same_text word (codes "--") e

end_last : (x : Text) → run_of (x ∷ codes "--" ∷ []) ≡ None
end_last x = go (bytes_eq x (codes "--workers"))
  where
    go : (b : Bool) → cond b (workers_of (codes "--")) None ≡ None
    go true = refl
    go false = refl

not_none : (b : Bool) → not b ≡ false → b ≡ true
not_none true e = refl
not_none false e = absurd (true≢false e)

two_none : (word x : Text) (a b : Bool) → is_end_of_options word ≡ a → is_end_of_options x ≡ b → (a || (b || false)) ≡ true → command_in (word ∷ x ∷ []) ≡ None
two_none word x true b e f any = ap (λ w. command_in (w ∷ x ∷ [])) (end_is word e)
two_none word x false true e f any = ap (λ z. command_in (word ∷ z ∷ [])) (end_is x f) ∙ unformed word (codes "--" ∷ []) refl (λ make. refl) (λ what. refl)
two_none word x false false e f any = absurd (true≢false (sym any))

three_none : (word x y : Text) (a b c : Bool) → is_end_of_options word ≡ a → is_end_of_options x ≡ b → is_end_of_options y ≡ c → (a || (b || (c || false))) ≡ true
    → command_in (word ∷ x ∷ y ∷ []) ≡ None
three_none word x y true b c e f g any = ap (λ w. command_in (w ∷ x ∷ y ∷ [])) (end_is word e)
three_none word x y false true c e f g any = ap (λ z. command_in (word ∷ z ∷ y ∷ [])) (end_is x f) ∙ unformed word (codes "--" ∷ y ∷ []) refl (λ make. refl) (λ what. refl)
three_none word x y false false true e f g any = ap (λ z. command_in (word ∷ x ∷ z ∷ [])) (end_is y g)
    ∙ unformed word (x ∷ codes "--" ∷ []) (end_last x) (λ make. minus_devices make x (codes "--") (codes "-") refl) (λ what. refl)
three_none word x y false false false e f g any = absurd (true≢false (sym any))

others_none : (words : List Text) → are_few words ≡ false → command_in words ≡ None
others_none [] few = refl
others_none (word ∷ []) few = one (is_end_of_options word) refl (not_none _ few)
  where
    one : (a : Bool) → is_end_of_options word ≡ a → (is_end_of_options word || false) ≡ true → command_in (word ∷ []) ≡ None
    one true e any = ap (λ w. command_in (w ∷ [])) (end_is word e)
    one false e any =
        let no : (is_end_of_options word || false) ≡ false = ap (λ b. b || false) e in
        absurd (true≢false (sym any ∙ no))
others_none (word ∷ x ∷ []) few = two_none word x (is_end_of_options word) (is_end_of_options x) refl refl (not_none _ few)
others_none (word ∷ x ∷ y ∷ []) few = three_none word x y (is_end_of_options word) (is_end_of_options x) (is_end_of_options y) refl refl refl (not_none _ few)
others_none (word ∷ x ∷ y ∷ z ∷ rest) few = unformed word (x ∷ y ∷ z ∷ rest) refl (λ make. refl) (λ what. refl)

-- ---- what the answers cite

module _ {S : Type 0} (f : S → Text) where
  after_name : (name : S) (words : List S) (b : Bool) → are_few (map f (take (length (name ∷ words) - 1) (drop 1 (name ∷ words)))) ≡ b → are_few (map f words) ≡ b
  after_name name words b e =
      let count : length (name ∷ words) - 1 ≡ length words = omega arith in
      ap (λ l. are_few (map f l)) (sym (ap (λ k. take k words) count ∙ take_all (length words) words (omega arith))) ∙ e

  pub nothing_asked : (words : List S) → 1 ≤ length words → are_few (map f (take (length words - 1) (drop 1 words))) ≡ false → parsed_of (map f words) ≡ None
  nothing_asked [] some few = absurd (omega arith)
  nothing_asked (name ∷ words) some few = others_none (map f words) (after_name name words false few)

  pub read_asked : (words : List S) → 1 ≤ length words → are_few (map f (take (length words - 1) (drop 1 words))) ≡ true → fault_of whole_app (map f words) ≡ []
      → command_read (subcommand_of whole_app (map f words)) ≡ parsed_of (map f words)
  read_asked [] some few none = absurd (omega arith)
  read_asked (name ∷ words) some few none =
      subst (λ k. Agrees k (command_read (subcommand_of whole_app (map f (name ∷ words)))) (parsed_of (map f (name ∷ words)))) none (words_agree (f name) (map f words) (after_name name words true few))

  pub refused_asked : (words : List S) (e : Error) → 1 ≤ length words → are_few (map f (take (length words - 1) (drop 1 words))) ≡ true → HasKind (fault_of whole_app (map f words)) e
      → (kind_of e ≡ OutOfMemory → ⊥) → parsed_of (map f words) ≡ None
  refused_asked [] e some few kinds other = absurd (omega arith)
  refused_asked (name ∷ words) e some few kinds other =
      go (fault_of whole_app (map f (name ∷ words))) (words_agree (f name) (map f words) (after_name name words true few)) kinds
    where
      go : (k : Kinds) → Agrees k (command_read (subcommand_of whole_app (map f (name ∷ words)))) (parsed_of (map f (name ∷ words))) → HasKind k e
          → parsed_of (map f (name ∷ words)) ≡ None
      go [] agrees (inl memory) = absurd (other memory)
      go [] agrees (inr none) = absurd none
      go (k ∷ ks) agrees has = agrees
