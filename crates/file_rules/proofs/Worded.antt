-- Operations by their words.
use Rattle.std.proofs.Common.{◌≡◌, ◌∙◌, ◌||◌, ℕ, Bool, true, false, cond, List, [], ◌∷◌, map, find, bytes_eq, codes, unwrap_or, option_and_then, option_map, Option, Some, None, refl, sym, ap}
use Rattle.serde_json.specs.Data.{Data}
use Rattle.serde_json.specs.Find.{get, as_str}
use Rattle.sleep_model.specs.declared.machine.Op.{Op}
use Rattle.sleep_model.specs.declared.machine.Op.TheVariants.{Read}
use Rattle.file_rules.specs.declared.rules.operations.Word.{Word}
use Rattle.file_rules.specs.declared.rules.operations.Word.TheVariants as word
use Rattle.borrowed_json.specs.Look.{is_some_and, is_text, has_text, word_at}
use Rattle.file_rules.specs.Operations.{Known, Operation, operations, row_of, changes_links, spelled_op, whole_op}
use Rattle.file_rules.specs.OperationRows.{operation_of_word, words, word_changes_links, row_named, op_spelled}
use Rattle.file_rules.proofs.ScriptsValid.{member_apart}

-- the row of an operation is that of the text at its word
pub by_text : (o : Data) → option_and_then row_named (word_at (codes "op") o) ≡ row_of o
by_text o = at_member (get (codes "op") o)
  where
    text : (s : Option (List ℕ)) → option_and_then row_named s ≡ find (λ (r : Operation). is_some_and (λ t. bytes_eq t r.word) s) operations
    text None = refl
    text (Some s) = refl

    at_member : (d : Option Data) → option_and_then row_named (option_and_then as_str d) ≡ find (λ (r : Operation). is_some_and (is_text r.word) d) operations
    at_member None = refl
    at_member (Some d) = text (as_str d)

-- what is found passes
passes : {X : Type 0} (p : X → Bool) (x : X) (xs : List X) → find p xs ≡ Some x → p x ≡ true
passes p x [] e = cc
passes p x (y ∷ ys) e = by (p y) refl e (passes p x ys)
  where
    by : (b : Bool) → p y ≡ b → cond b (Some y) (find p ys) ≡ Some x → (find p ys ≡ Some x → p x ≡ true) → p x ≡ true
    by true h f rest = let same : y ≡ x = cc in sym (ap p same) ∙ h
    by false h f rest = rest f

-- a search by what is seen of each
find_seen : {X Y : Type 0} (t : Y → Bool) (f : X → Y) (xs : List X) → option_map f (find (λ x. t (f x)) xs) ≡ find t (map f xs)
find_seen t f [] = refl
find_seen t f (x ∷ xs) = by (t (f x)) ∙ ap (cond (t (f x)) (Some (f x))) (find_seen t f xs)
  where
    by : (b : Bool) → option_map f (cond b (Some x) (find (λ y. t (f y)) xs)) ≡ cond b (Some (f x)) (option_map f (find (λ y. t (f y)) xs))
    by true = refl
    by false = refl

-- the word that a text is has the row of that text
pub named_word : (text : List ℕ) → option_map operation_of_word (find (λ (w : Word). bytes_eq text (operation_of_word w).word) words) ≡ row_named text
named_word text = find_seen (λ (r : Operation). bytes_eq text r.word) operation_of_word words

-- a search by a test that is the same
find_same : {X : Type 0} (p q : X → Bool) (xs : List X) → ((x : X) → p x ≡ q x) → find p xs ≡ find q xs
find_same p q [] e = refl
find_same p q (x ∷ xs) e = ap (λ b. cond b (Some x) (find p xs)) (e x) ∙ ap (cond (q x) (Some x)) (find_same p q xs e)

-- an operation of the table has its row's word
word_there : (w : Word) (o : Data) → Some (operation_of_word w) ≡ row_of o → has_text (codes "op") (operation_of_word w).word o ≡ true
word_there w o e = passes (λ r. has_text (codes "op") r.word o) (operation_of_word w) operations (sym e)

-- the word by itself decides whether links are changed
pub changes : (w : Word) (o : Data) → Some (operation_of_word w) ≡ row_of o → word_changes_links w ≡ changes_links o
changes w o e =
    by w ∙ ap (λ b. b || bytes_eq (operation_of_word w).word (codes "link_state")) (sym (member_apart (get (codes "op") o) (operation_of_word w).word (codes "link") there))
    ∙ ap (λ b. has_text (codes "op") (codes "link") o || b) (sym (member_apart (get (codes "op") o) (operation_of_word w).word (codes "link_state") there))
  where
    there : has_text (codes "op") (operation_of_word w).word o ≡ true
    there = word_there w o e

    by : (w : Word) → word_changes_links w ≡ (bytes_eq (operation_of_word w).word (codes "link") || bytes_eq (operation_of_word w).word (codes "link_state"))
    by word.Read = refl
    by word.Save = refl
    by word.State = refl
    by word.Autosleep = refl
    by word.Sleep = refl
    by word.SleepD = refl
    by word.FreezePoint = refl
    by word.Post = refl
    by word.Wait = refl
    by word.Runtime = refl
    by word.Link = refl
    by word.LinkState = refl
    by word.Awake = refl
    by word.Relax = refl
    by word.Event = refl

module _ (names : Known) (o : Data) where
  found : (w : Word) → unwrap_or (option_map (λ q. q.1) (find (λ q. bytes_eq (operation_of_word w).word q.0) (spelled_op names o))) Read ≡ op_spelled w names o
  found word.Read = refl
  found word.Save = refl
  found word.State = refl
  found word.Autosleep = refl
  found word.Sleep = refl
  found word.SleepD = refl
  found word.FreezePoint = refl
  found word.Post = refl
  found word.Wait = refl
  found word.Runtime = refl
  found word.Link = refl
  found word.LinkState = refl
  found word.Awake = refl
  found word.Relax = refl
  found word.Event = refl

  -- an operation of the table is what its word spells
  pub by_word : (w : Word) → Some (operation_of_word w) ≡ row_of o → op_spelled w names o ≡ whole_op names o
  by_word w e =
      let there = word_there w o e in
      sym (ap (λ (q : Option (List ℕ × Op)). unwrap_or (option_map (λ x. x.1) q) Read)
      (find_same (λ q. has_text (codes "op") q.0 o) (λ q. bytes_eq (operation_of_word w).word q.0) (spelled_op names o) (λ q. member_apart (get (codes "op") o) (operation_of_word w).word q.0 there))
      ∙ found w)

  no_op : (q : Option (List ℕ × Op)) → option_map (λ x. x.0) q ≡ None → Read ≡ unwrap_or (option_map (λ x. x.1) q) Read
  no_op None e = refl
  no_op (Some x) e = cc

  -- one that is not is read as the first
  pub by_no_word : None ≡ row_of o → Read ≡ whole_op names o
  by_no_word e =
      let none : option_map (λ (r : Operation). r.word) (row_of o) ≡ None = ap (option_map (λ (r : Operation). r.word)) (sym e) in
      no_op (find (λ q. has_text (codes "op") q.0 o) (spelled_op names o))
      (find_seen (λ s. has_text (codes "op") s o) (λ (q : List ℕ × Op). q.0) (spelled_op names o)
      ∙ sym (find_seen (λ s. has_text (codes "op") s o) (λ (r : Operation). r.word) operations) ∙ none)
