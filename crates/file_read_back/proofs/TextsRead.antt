-- Each text of a value that is read of a UTF-8 text is UTF-8.
use Rattle.std.proofs.Common.{◌≡◌, ◌∙◌, ◌&&◌, ◌==◌, ◌≤◌, ℕ, zero, suc, nat_eq, drop, List, [], ◌∷◌, ◌++◌, length, Bool, true, false, cond, Option, Some, None, option_map, option_and_then, Ordering, Less, Equal, Greater, nat_cmp, IsUtf8, inl, inr, refl, sym, subst, arith, ne_eqb}
use Rattle.std.specs.Prelude.{⊤}
use Rattle.std.specs.Str.{is_utf8}
use Rattle.std.specs.Cmp.Lexicographic.{slice_cmp}
use Rattle.std.specs.Ordering.{match_ordering}
use Rattle.std.proofs.lemmas.Bool.{and_parts, true≢false, cases_lt}
use Rattle.std.proofs.lemmas.Str.{encode_ascii, IsUtf8-from_is_utf8}
use lib.Utf8.{scalar, scalars, encode, encodes}
use Rattle.json.specs.Text.{plain, content}
use Rattle.json.specs.Token.{Token, begin_object, end_object, begin_array, end_array, key, string, number, boolean, null, bad}
use Rattle.std.specs.List.{starts_with}
use Rattle.json.specs.Ascii as ascii
use Rattle.json.specs.Word.{is_operator, is_space, head, ends_word, after_number, number_before, literal, word}
use Rattle.json.specs.Lex.{Lexeme, token, comma, colon, quote, backslash, operator, space, other, operator_lexeme, string_token, Mode, between, in_word, in_string, in_escape, lex_byte, lex, Place, fresh, after_value, after_comma, after_key, begins_colon, may_begin, may_close, if_allowed, place_token, punctuate, tokens}
use Rattle.json.specs.Json as json
use Rattle.json.specs.Json.{Parse, parse_map, after_end_array, read_key, items_step, members_step, items, members, value_with, value, if_last}
use Rattle.serde_json.specs.Data.{Data, Items, Members, no_members, member, put}
use Rattle.serde_json.specs.Data as sort
use Rattle.serde_json.specs.Read.{number_of, of_json, of_items, of_members, read}
use Rattle.file_rules.specs.Tree.{tree}
use Rattle.file_read_back.proofs.Alike.{EachOf}
use Rattle.file_read_back.proofs.ContentRead.{content_utf8, high_bytes}
use Rattle.file_read_back.proofs.TextsIn.{MayBeUtf8, HasTexts, ItemsHaveTexts, MembersHaveTexts, MayHaveTexts}

-- ---- lexemes

-- a string has its bytes in UTF-8
abbrev GoodToken : Token → Type 0
GoodToken (string s) = IsUtf8 s
GoodToken _ = ⊤

abbrev GoodLexeme : Lexeme → Type 0
GoodLexeme (token t) = GoodToken t
GoodLexeme _ = ⊤

abbrev GoodLexemes : List Lexeme → Type 0
GoodLexemes [] = ⊤
GoodLexemes (l ∷ ls) = GoodLexeme l × GoodLexemes ls

either_token : (b : Bool) (t u : Token) → GoodToken t → GoodToken u → GoodToken (cond b t u)
either_token true t u h k = h
either_token false t u h k = k

number_good : (t : List ℕ) (o : Option (List ℕ)) → GoodToken (number_before t o)
number_good t None = tt
number_good t (Some rest) = either_token (ends_word rest) _ bad tt tt

literal_good : (name : List ℕ) (u : Token) (t : List ℕ) → GoodToken u → GoodToken (literal name u t)
literal_good name u t h = either_token (starts_with nat_eq t name && ends_word (drop (length name) t)) u bad h tt

abbrev null_or : List ℕ → Token
null_or t = cond (head t == ascii.lower_n) (literal ascii.null_text null t) (number_before t (after_number t))

abbrev false_or : List ℕ → Token
false_or t = cond (head t == ascii.lower_f) (literal ascii.false_text (boolean false) t) (null_or t)

word_good : (t : List ℕ) → GoodToken (word t)
unfolding word
word_good t =
    either_token (head t == ascii.lower_t) (literal ascii.true_text (boolean true) t) (false_or t) (literal_good ascii.true_text (boolean true) t tt)
    (either_token (head t == ascii.lower_f) (literal ascii.false_text (boolean false) t) (null_or t) (literal_good ascii.false_text (boolean false) t tt)
    (either_token (head t == ascii.lower_n) (literal ascii.null_text null t) (number_before t (after_number t)) (literal_good ascii.null_text null t tt) (number_good t (after_number t))))

six_good : (a b c d e : Bool) → GoodLexeme (cond a (token begin_object) (cond b (token end_object) (cond c (token begin_array) (cond d (token end_array) (cond e comma colon)))))
six_good true b c d e = tt
six_good false true c d e = tt
six_good false false true d e = tt
six_good false false false true e = tt
six_good false false false false true = tt
six_good false false false false false = tt

operator_good : (x : ℕ) → GoodLexeme (operator_lexeme x)
operator_good x = six_good (x == 123) (x == 125) (x == 91) (x == 93) (x == 44)

text_good : (o : Option (List ℕ)) → MayBeUtf8 o → GoodToken (string_token o)
text_good None h = tt
text_good (Some s) h = h

-- one byte
byte_good : (m : Mode) (x : ℕ) (xs : List ℕ) → ((x == 34) ≡ true → MayBeUtf8 (content plain xs)) → ((next : Mode) → GoodLexemes (lex next xs)) → GoodLexemes (lex m (x ∷ xs))
unfolding lex
byte_good m x xs text rest = by m (x == 34) (x == 92) (is_operator x) (is_space x) refl
  where
    by : (m : Mode) (q b o s : Bool) → (x == 34) ≡ q → GoodLexemes (lex_byte m (cond q quote (cond b backslash (cond o operator (cond s space other)))) x xs (λ next. lex next xs))
    by between true b o s e = (text_good (content plain xs) (text e), rest in_string)
    by between false true o s e = (tt, rest in_word)
    by between false false true s e = (operator_good x, rest between)
    by between false false false true e = rest between
    by between false false false false e = (word_good (x ∷ xs), rest in_word)
    by in_word true b o s e = rest in_word
    by in_word false true o s e = rest in_word
    by in_word false false true s e = (operator_good x, rest between)
    by in_word false false false true e = rest between
    by in_word false false false false e = rest in_word
    by in_string true b o s e = rest between
    by in_string false true o s e = rest in_escape
    by in_string false false true s e = rest in_string
    by in_string false false false true e = rest in_string
    by in_string false false false false e = rest in_string
    by in_escape q b o s e = rest in_string

-- the bytes of a character that has more than one
high_good : (bs xs : List ℕ) → EachOf (λ b. 128 ≤ b) bs → ((m : Mode) → GoodLexemes (lex m xs)) → (m : Mode) → GoodLexemes (lex m (bs ++ xs))
high_good [] xs h rest m = rest m
high_good (b ∷ bs) xs h rest m =
    let big : 128 ≤ b = h.0 in
    byte_good m b (bs ++ xs) (λ e. absurd (true≢false (sym e ∙ ne_eqb b 34 (λ f. omega arith)))) (high_good bs xs h.1 rest)

lex_good : (cs : List ℕ) → scalars cs ≡ true → (m : Mode) → GoodLexemes (lex m (encodes cs))
unfolding lex
lex_good [] s m = tt
lex_good (c ∷ cs) s m =
    let both = and_parts (scalar c) (scalars cs) s in
    let rest = lex_good cs both.1 in
    elim (cases_lt c 128) [
      | inl small ↦ subst (λ t. GoodLexemes (lex m (t ++ encodes cs))) (sym (encode_ascii c small)) (byte_good m c (encodes cs) (λ e. content_utf8 cs both.1) rest)
      | inr big ↦ high_good (encode c) (encodes cs) (high_bytes c big) rest m
    ]

-- ---- tokens

abbrev GoodTokens : List Token → Type 0
GoodTokens [] = ⊤
GoodTokens (t ∷ ts) = GoodToken t × GoodTokens ts

allowed_good : (b : Bool) (t : Token) (k : Place → List Token) (next : Place) → GoodToken t → ((p : Place) → GoodTokens (k p)) → GoodTokens (if_allowed b t k next)
allowed_good true t k next h rest = (h, rest next)
allowed_good false t k next h rest = (tt, tt)

place_good : (p : Place) (t : Token) (b : Bool) (k : Place → List Token) → GoodToken t → ((next : Place) → GoodTokens (k next)) → GoodTokens (place_token p t b k)
place_good p begin_object b k h rest = allowed_good (may_begin p) begin_object k fresh tt rest
place_good p end_object b k h rest = allowed_good (may_close p) end_object k after_value tt rest
place_good p begin_array b k h rest = allowed_good (may_begin p) begin_array k fresh tt rest
place_good p end_array b k h rest = allowed_good (may_close p) end_array k after_value tt rest
place_good p (key s) b k h rest = (tt, tt)
place_good p (string s) true k h rest = allowed_good (may_begin p) (key s) k after_key tt rest
place_good p (string s) false k h rest = allowed_good (may_begin p) (string s) k after_value h rest
place_good p (number s) b k h rest = allowed_good (may_begin p) (number s) k after_value tt rest
place_good p (boolean v) b k h rest = allowed_good (may_begin p) (boolean v) k after_value tt rest
place_good p null b k h rest = allowed_good (may_begin p) null k after_value tt rest
place_good p bad b k h rest = (tt, tt)

punctuate_good : (ls : List Lexeme) → GoodLexemes ls → (p : Place) → GoodTokens (punctuate p ls)
unfolding punctuate
punctuate_good [] h fresh = tt
punctuate_good [] h after_value = tt
punctuate_good [] h after_comma = (tt, tt)
punctuate_good [] h after_key = (tt, tt)
punctuate_good (token t ∷ ls) h fresh = place_good fresh t (begins_colon ls) (λ next. punctuate next ls) h.0 (punctuate_good ls h.1)
punctuate_good (token t ∷ ls) h after_value = place_good after_value t (begins_colon ls) (λ next. punctuate next ls) h.0 (punctuate_good ls h.1)
punctuate_good (token t ∷ ls) h after_comma = place_good after_comma t (begins_colon ls) (λ next. punctuate next ls) h.0 (punctuate_good ls h.1)
punctuate_good (token t ∷ ls) h after_key = place_good after_key t (begins_colon ls) (λ next. punctuate next ls) h.0 (punctuate_good ls h.1)
punctuate_good (comma ∷ ls) h fresh = (tt, tt)
punctuate_good (comma ∷ ls) h after_value = punctuate_good ls h.1 after_comma
punctuate_good (comma ∷ ls) h after_comma = (tt, tt)
punctuate_good (comma ∷ ls) h after_key = (tt, tt)
punctuate_good (colon ∷ ls) h fresh = (tt, tt)
punctuate_good (colon ∷ ls) h after_value = (tt, tt)
punctuate_good (colon ∷ ls) h after_comma = (tt, tt)
punctuate_good (colon ∷ ls) h after_key = punctuate_good ls h.1 fresh

tokens_good : (text : List ℕ) → IsUtf8 text → GoodTokens (tokens text)
tokens_good text u = punctuate_good (lex between text) (subst (λ t. GoodLexemes (lex between t)) u.1.1 (lex_good u.0 u.1.0 between)) fresh

-- ---- values of tokens

abbrev mutual
  JsonTexts : json.Json → Type 0
  JsonTexts json.null = ⊤
  JsonTexts (json.boolean b) = ⊤
  JsonTexts (json.number s) = ⊤
  JsonTexts (json.string s) = IsUtf8 s
  JsonTexts (json.array js) = ItemTexts js
  JsonTexts (json.object ms) = MemberTexts ms

  ItemTexts : json.Items → Type 0
  ItemTexts json.no_items = ⊤
  ItemTexts (json.item j js) = JsonTexts j × ItemTexts js

  MemberTexts : json.Members → Type 0
  MemberTexts json.no_members = ⊤
  MemberTexts (json.member k j ms) = JsonTexts j × MemberTexts ms

-- what is read is so, and what is left is good
abbrev OnRead : {A : Type 0} → (A → Type 0) → Option (A × List Token) → Type 0
OnRead P None = ⊤
OnRead P (Some p) = P p.0 × GoodTokens p.1

abbrev ReadsText : {A : Type 0} → (A → Type 0) → Parse A → Type 0
ReadsText P p = (ts : List Token) → GoodTokens ts → OnRead P (p ts)

mapped : {A B : Type 0} (P : A → Type 0) (Q : B → Type 0) (h : A → B) → ((a : A) → P a → Q (h a)) → (o : Option (A × List Token)) → OnRead P o → OnRead Q (parse_map h o)
mapped P Q h k None x = tt
mapped P Q h k (Some p) x = (k p.0 x.0, x.1)

and_more : {B : Type 0} (Q : B → Type 0) (h : json.Json → B → B) → ((j : json.Json) (b : B) → JsonTexts j → Q b → Q (h j b)) → (more : Parse B) → ReadsText Q more →
    (o : Option (json.Json × List Token)) → OnRead JsonTexts o → OnRead Q (option_and_then (λ q. parse_map (h q.0) (more q.1)) o)
and_more Q h is more reads None x = tt
and_more Q h is more reads (Some q) x = mapped Q Q (h q.0) (λ b y. is q.0 b x.0 y) (more q.1) (reads q.1 x.1)

abbrev OnTokens : Option (List Token) → Type 0
OnTokens None = ⊤
OnTokens (Some ts) = GoodTokens ts

end_good : (ts : List Token) → GoodTokens ts → OnTokens (after_end_array ts)
end_good [] h = tt
end_good (begin_object ∷ ts) h = tt
end_good (end_object ∷ ts) h = tt
end_good (begin_array ∷ ts) h = tt
end_good (end_array ∷ ts) h = h.1
end_good (key s ∷ ts) h = tt
end_good (string s ∷ ts) h = tt
end_good (number s ∷ ts) h = tt
end_good (boolean b ∷ ts) h = tt
end_good (null ∷ ts) h = tt
end_good (bad ∷ ts) h = tt

key_good : (ts : List Token) → GoodTokens ts → OnRead (λ k. ⊤) (read_key ts)
key_good [] h = tt
key_good (begin_object ∷ ts) h = tt
key_good (end_object ∷ ts) h = (tt, h.1)
key_good (begin_array ∷ ts) h = tt
key_good (end_array ∷ ts) h = tt
key_good (key s ∷ ts) h = (tt, h.1)
key_good (string s ∷ ts) h = tt
key_good (number s ∷ ts) h = tt
key_good (boolean b ∷ ts) h = tt
key_good (null ∷ ts) h = tt
key_good (bad ∷ ts) h = tt

module _ (p : Parse json.Json) (reads : ReadsText JsonTexts p) where
  item_turn : (more : Parse json.Items) → ReadsText ItemTexts more → (ts : List Token) → GoodTokens ts → (o : Option (List Token)) → OnTokens o → OnRead ItemTexts (items_step p more ts o)
  item_turn more again ts h (Some r) k = (tt, k)
  item_turn more again ts h None k = and_more ItemTexts json.item (λ j b x y. (x, y)) more again (p ts) (reads ts h)

  items_good : (n : ℕ) → ReadsText ItemTexts (items p n)
  unfolding items
  items_good zero ts h = tt
  items_good (suc n) ts h = item_turn (items p n) (items_good n) ts h (after_end_array ts) (end_good ts h)

  member_turn : (more : Parse json.Members) → ReadsText MemberTexts more → (o : Option (Option (List ℕ) × List Token)) → OnRead (λ k. ⊤) o → OnRead MemberTexts (option_and_then (λ q. members_step p more q.0 q.1) o)
  member_turn more again None k = tt
  member_turn more again (Some (None, s)) k = (tt, k.1)
  member_turn more again (Some (Some name, s)) k = and_more MemberTexts (json.member name) (λ j b x y. (x, y)) more again (p s) (reads s k.1)

  members_good : (n : ℕ) → ReadsText MemberTexts (members p n)
  unfolding members
  members_good zero ts h = tt
  members_good (suc n) ts h = member_turn (members p n) (members_good n) (read_key ts) (key_good ts h)

one_level : (a : Parse json.Items) (o : Parse json.Members) → ReadsText ItemTexts a → ReadsText MemberTexts o → ReadsText JsonTexts (value_with a o)
one_level a o p q [] h = tt
one_level a o p q (begin_object ∷ ts) h = mapped MemberTexts JsonTexts json.object (λ ms x. x) (o ts) (q ts h.1)
one_level a o p q (end_object ∷ ts) h = tt
one_level a o p q (begin_array ∷ ts) h = mapped ItemTexts JsonTexts json.array (λ js x. x) (a ts) (p ts h.1)
one_level a o p q (end_array ∷ ts) h = tt
one_level a o p q (key s ∷ ts) h = tt
one_level a o p q (string s ∷ ts) h = (h.0, h.1)
one_level a o p q (number s ∷ ts) h = (tt, h.1)
one_level a o p q (boolean b ∷ ts) h = (tt, h.1)
one_level a o p q (null ∷ ts) h = (tt, h.1)
one_level a o p q (bad ∷ ts) h = tt

value_good : (d : ℕ) → ReadsText JsonTexts (value d)
unfolding value
value_good zero = one_level (λ ts. None) (λ ts. None) (λ ts h. tt) (λ ts h. tt)
value_good (suc d) =
    one_level (λ ts. items (value d) (length ts) ts) (λ ts. members (value d) (length ts) ts)
    (λ ts h. items_good (value d) (value_good d) (length ts) ts h) (λ ts h. members_good (value d) (value_good d) (length ts) ts h)

-- ---- data

number_texts : (s : List ℕ) → MayHaveTexts (option_map sort.number (number_of s))
number_texts s = by (number_of s)
  where
    by : (o : Option Rattle.serde_json.specs.Data.Num) → MayHaveTexts (option_map sort.number o)
    by None = tt
    by (Some n) = tt

abbrev MayItems : Option Items → Type 0
MayItems None = ⊤
MayItems (Some ds) = ItemsHaveTexts ds

abbrev MayMembers : Option Members → Type 0
MayMembers None = ⊤
MayMembers (Some ms) = MembersHaveTexts ms

array_texts : (o : Option Items) → MayItems o → MayHaveTexts (option_map sort.array o)
array_texts None h = tt
array_texts (Some ds) h = h

object_texts : (o : Option Members) → MayMembers o → MayHaveTexts (option_map sort.object o)
object_texts None h = tt
object_texts (Some ms) h = h

put_texts : (k : List ℕ) (d : Data) (ms : Members) → HasTexts d → MembersHaveTexts ms → MembersHaveTexts (put k d ms)
put_texts k d no_members h e = (h, tt)
put_texts k d (member l f ms) h e = by (slice_cmp nat_cmp k l) (put_texts k d ms h e.1)
  where
    by : (o : Ordering) → MembersHaveTexts (put k d ms) → MembersHaveTexts (match_ordering o (member k d (member l f ms)) (member l d ms) (member l f (put k d ms)))
    by Less rest = (h, e)
    by Equal rest = (h, e.1)
    by Greater rest = (e.0, rest)

item_texts : (o : Option Data) (rest : Option Items) → MayHaveTexts o → MayItems rest → MayItems (option_and_then (λ d. option_map (sort.item d) rest) o)
item_texts None rest h k = tt
item_texts (Some d) None h k = tt
item_texts (Some d) (Some ds) h k = (h, k)

member_texts : (name : List ℕ) (o : Option Data) (ms : json.Members) (found : Members) → MayHaveTexts o → MembersHaveTexts found →
    ((d : Data) → HasTexts d → MayMembers (of_members ms (put name d found))) → MayMembers (option_and_then (λ d. of_members ms (put name d found)) o)
member_texts name None ms found h k rest = tt
member_texts name (Some d) ms found h k rest = rest d h

mutual
  json_texts : (j : json.Json) → JsonTexts j → MayHaveTexts (of_json j)
  json_texts json.null h = tt
  json_texts (json.boolean b) h = tt
  json_texts (json.number s) h = number_texts s
  json_texts (json.string s) h = h
  json_texts (json.array js) h = array_texts (of_items js) (items_texts js h)
  json_texts (json.object ms) h = object_texts (of_members ms no_members) (members_texts ms no_members h tt)

  items_texts : (js : json.Items) → ItemTexts js → MayItems (of_items js)
  items_texts json.no_items h = tt
  items_texts (json.item j js) h = item_texts (of_json j) (of_items js) (json_texts j h.0) (items_texts js h.1)

  members_texts : (ms : json.Members) (found : Members) → MemberTexts ms → MembersHaveTexts found → MayMembers (of_members ms found)
  members_texts json.no_members found h k = k
  members_texts (json.member name j ms) found h k = member_texts name (of_json j) ms found (json_texts j h.0) k (λ d e. members_texts ms (put name d found) h.1 (put_texts name d found e k))

-- ---- the whole text

abbrev MayJson : Option json.Json → Type 0
MayJson None = ⊤
MayJson (Some j) = JsonTexts j

last_good : (o : Option (json.Json × List Token)) → OnRead JsonTexts o → MayJson (option_and_then (λ p. if_last p.0 p.1) o)
last_good None h = tt
last_good (Some (j, [])) h = h.0
last_good (Some (j, t ∷ ts)) h = tt

then_data : (o : Option json.Json) → MayJson o → MayHaveTexts (option_and_then of_json o)
then_data None h = tt
then_data (Some j) h = json_texts j h

read_texts : (text : List ℕ) → IsUtf8 text → MayHaveTexts (read text)
read_texts text u =
    then_data (option_and_then (λ p. if_last p.0 p.1) (value 127 (tokens text))) (last_good (value 127 (tokens text)) (value_good 127 (tokens text) (tokens_good text u)))

-- each text of the value of a file is UTF-8
pub file_texts : (bytes : List ℕ) (d : Data) → tree bytes ≡ Some d → HasTexts d
file_texts bytes d e = subst MayHaveTexts e (by (is_utf8 bytes) refl)
  where
    by : (b : Bool) → is_utf8 bytes ≡ b → MayHaveTexts (cond b (read bytes) None)
    by true h = read_texts bytes (IsUtf8-from_is_utf8 bytes h)
    by false h = tt
