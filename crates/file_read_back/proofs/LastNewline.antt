-- The tokens of a printed text are read with a newline after it, too.
use Rattle.std.proofs.Common.{◌≡◌, ◌∙◌, ◌&&◌, ℕ, Bool, true, false, cond, List, [], ◌∷◌, ◌++◌, refl, sym, ap, ap₂, append_assoc, append-nil}
use Rattle.json.specs.Token.{Token, begin_object, end_object, begin_array, end_array, key, string, number, boolean, null, bad}
use Rattle.json.specs.Word.{ends_word, word}
use Rattle.json.specs.Lex.{Lexeme, token, comma, colon, string_token, lex, between, fresh, punctuate, tokens}
use Rattle.json.specs.Print.{escape, quoted, token_text, begins, ends, separator, print_from, print, IsPrintable, ArePrintable}
use Rattle.json.proofs.Printed.Strings.{content-escape, lex-escape}
use Rattle.json.proofs.Printed.Numbers.{lex-number, in_word-ended}
use Rattle.json.proofs.Printed.Tokens.{tokens-print}

abbrev token_lexemes : Token → List Lexeme
token_lexemes begin_object = token begin_object ∷ []
token_lexemes end_object = token end_object ∷ []
token_lexemes begin_array = token begin_array ∷ []
token_lexemes end_array = token end_array ∷ []
token_lexemes (key s) = token (string s) ∷ colon ∷ []
token_lexemes (string s) = token (string s) ∷ []
token_lexemes (number s) = token (number s) ∷ []
token_lexemes (boolean b) = token (boolean b) ∷ []
token_lexemes null = token null ∷ []
token_lexemes bad = []

-- the lexemes of tokens, with their commas and colons
abbrev lexemes : Bool → List Token → List Lexeme
lexemes later [] = []
lexemes later (t ∷ ts) = cond (later && begins t) (comma ∷ []) [] ++ (token_lexemes t ++ lexemes (ends t) ts)

module _ (rest : List ℕ) (ended : ends_word rest ≡ true) where
  -- a value is followed by a comma, a closing bracket or the rest
  value_ends : (ts : List Token) → ends_word (print_from true ts ++ rest) ≡ true
  unfolding print_from
  value_ends [] = ended
  value_ends (begin_object ∷ ts) = refl
  value_ends (end_object ∷ ts) = refl
  value_ends (begin_array ∷ ts) = refl
  value_ends (end_array ∷ ts) = refl
  value_ends (key s ∷ ts) = refl
  value_ends (string s ∷ ts) = refl
  value_ends (number s ∷ ts) = refl
  value_ends (boolean b ∷ ts) = refl
  value_ends (null ∷ ts) = refl
  value_ends (bad ∷ ts) = refl

  lex-quoted : (s r : List ℕ) → lex between (quoted s ++ r) ≡ token (string s) ∷ lex between r
  unfolding lex
  lex-quoted s r =
      let e = append_assoc (escape s) (34 ∷ []) r in
      ap (λ l. lex between (34 ∷ l)) e ∙ ap₂ (λ o l. token (string_token o) ∷ l) (content-escape s r) (lex-escape s r)

  lex-token : (t : Token) (r : List ℕ) → IsPrintable t → (ends t ≡ true → ends_word r ≡ true) → lex between (token_text t ++ r) ≡ token_lexemes t ++ lex between r
  unfolding lex word
  lex-token begin_object r h e = refl
  lex-token end_object r h e = refl
  lex-token begin_array r h e = refl
  lex-token end_array r h e = refl
  lex-token (key s) r h e = ap (lex between) (append_assoc (quoted s) (58 ∷ []) r) ∙ lex-quoted s (58 ∷ r)
  lex-token (string s) r h e = lex-quoted s r
  lex-token (number s) r h e = lex-number s r h (e refl)
  lex-token (boolean true) r h e = ap₂ (λ b l. token (cond b (boolean true) bad) ∷ l) (e refl) (in_word-ended r (e refl))
  lex-token (boolean false) r h e = ap₂ (λ b l. token (cond b (boolean false) bad) ∷ l) (e refl) (in_word-ended r (e refl))
  lex-token null r h e = ap₂ (λ b l. token (cond b null bad) ∷ l) (e refl) (in_word-ended r (e refl))
  lex-token bad r h e = absurd h

  lex-comma : (b : Bool) (r : List ℕ) → lex between (cond b (44 ∷ []) [] ++ r) ≡ cond b (comma ∷ []) [] ++ lex between r
  unfolding lex
  lex-comma true r = refl
  lex-comma false r = refl

  regroup : (a b c : List ℕ) → (a ++ (b ++ c)) ++ rest ≡ a ++ (b ++ (c ++ rest))
  regroup a b c = simp append_assoc

  regroup_lexemes : (a b c d : List Lexeme) → a ++ (b ++ (c ++ d)) ≡ (a ++ (b ++ c)) ++ d
  regroup_lexemes a b c d = simp append_assoc

  lex-printed : (later : Bool) (ts : List Token) → ArePrintable ts → lex between (print_from later ts ++ rest) ≡ lexemes later ts ++ lex between rest
  unfolding lex print_from ArePrintable
  lex-printed later [] h = refl
  lex-printed later (t ∷ ts) h =
      ap (lex between) (regroup (separator later t) (token_text t) (print_from (ends t) ts))
      ∙ lex-comma (later && begins t) (token_text t ++ (print_from (ends t) ts ++ rest))
      ∙ ap (λ l. cond (later && begins t) (comma ∷ []) [] ++ l)
      (lex-token t (print_from (ends t) ts ++ rest) h.0 (λ e. ap (λ b. ends_word (print_from b ts ++ rest)) e ∙ value_ends ts)
      ∙ ap (λ l. token_lexemes t ++ l) (lex-printed (ends t) ts h.1))
      ∙ regroup_lexemes (cond (later && begins t) (comma ∷ []) []) (token_lexemes t) (lexemes (ends t) ts) (lex between rest)

both_ends : (ts : List Token) → ArePrintable ts → lex between (print ts ++ 10 ∷ []) ≡ lex between (print ts ++ [])
unfolding lex
both_ends ts h = lex-printed (10 ∷ []) refl false ts h ∙ sym (lex-printed [] refl false ts h)

-- the tokens that were printed, with a newline after them
pub tokens-newline : (ts : List Token) → ArePrintable ts → tokens (print ts ++ 10 ∷ []) ≡ ts
tokens-newline ts h = ap (punctuate fresh) (both_ends ts h ∙ ap (lex between) (append-nil (print ts))) ∙ tokens-print ts h
