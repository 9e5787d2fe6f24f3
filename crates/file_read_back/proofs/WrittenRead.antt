-- The compact text of a value, with a newline after it, is UTF-8 and is read as that value.
use Rattle.std.proofs.Common.{◌≡◌, ◌∙◌, ◌&&◌, ◌<◌, ◌≤◌, ◌^◌, ℕ, zero, suc, List, [], ◌∷◌, ◌++◌, Bool, true, false, cond, pos, negsuc, Option, Some, None, option_map, option_and_then, Ordering, Less, Equal, Greater, nat_cmp, IsUtf8, refl, sym, ap, arith, append-nil}
use Rattle.std.specs.Prelude.{⊤}
use Rattle.std.specs.Cmp.Lexicographic.{slice_cmp}
use Rattle.std.specs.Ordering.{is_lt, match_ordering, ordering_reverse}
use Rattle.std.proofs.lemmas.Bool.{and_parts, false≢true}
use Rattle.std.proofs.lemmas.Cmp.{nat_list_cmp_total}
use Rattle.std.proofs.lemmas.Fmt.{IsAscii-decimal, IsAscii-signed}
use Rattle.std.proofs.lemmas.Str.{IsUtf8-append, IsUtf8-nil, IsUtf8-from_ascii, is_utf8-from_IsUtf8}
use Rattle.json.specs.Lex.{tokens}
use Rattle.json.specs.Print.{quoted}
use Rattle.json.specs.Json as json
use Rattle.json.specs.Tree as tree
use Rattle.json.proofs.Printed.Decimals.{IsNumber-decimal, IsNumber-signed_decimal}
use Rattle.json.proofs.Printed.Trees.{value-json_tokens, ArePrintable-json_tokens}
use Rattle.json.proofs.Printed.Utf8.{IsUtf8-are_ascii, IsUtf8-quoted, IsUtf8-boolean}
use Rattle.serde_json.specs.Data.{Num, unsigned, negative, float, Data, null, boolean, number, string, array, object, Items, no_items, item, Members, no_members, member, put}
use Rattle.serde_json.specs.Read.{of_json, of_items, of_members, read}
use Rattle.serde_json.specs.Written.{outline, items_outline, members_outline, comma_if, compact_text, items_text, members_text}
use Rattle.serde_json.proofs.Numbers.{number_of-decimal, number_of-negative}
use Rattle.serde_json.proofs.Texts.{print-outline}
use Rattle.file_rules.specs.Tree as file
use Rattle.file_read_back.proofs.LastNewline.{tokens-newline}

-- ---- values that are read as they are written

-- the name comes before those of the members
abbrev pub stands_first : List ℕ → Members → Bool
stands_first k no_members = true
stands_first k (member l d ms) = is_lt (slice_cmp nat_cmp k l) && stands_first k ms

-- a whole number of 64 bits, or one from -1000 on
abbrev pub IsWhole : Num → Type 0
IsWhole (unsigned n) = n < 2 ^ 64
IsWhole (negative (pos n)) = ⊥
IsWhole (negative (negsuc n)) = n < 1000
IsWhole (float x) = ⊥

-- whole numbers, texts that are UTF-8, and members in the order of their names, nested no deeper
abbrev mutual
  pub IsPlain : ℕ → Data → Type 0
  IsPlain n null = ⊤
  IsPlain n (boolean b) = ⊤
  IsPlain n (number x) = IsWhole x
  IsPlain n (string s) = IsUtf8 s
  IsPlain zero (array ds) = ⊥
  IsPlain zero (object ms) = ⊥
  IsPlain (suc n) (array ds) = ArePlain n ds
  IsPlain (suc n) (object ms) = AreMembers n ms

  pub ArePlain : ℕ → Items → Type 0
  ArePlain n no_items = ⊤
  ArePlain n (item d ds) = IsPlain n d × ArePlain n ds

  pub AreMembers : ℕ → Members → Type 0
  AreMembers n no_members = ⊤
  AreMembers n (member k d ms) = (IsUtf8 k × (stands_first k ms ≡ true)) × (IsPlain n d × AreMembers n ms)

-- ---- what its outline is read as

abbrev joined_members : Members → Members → Members
joined_members no_members ms = ms
joined_members (member k d fs) ms = member k d (joined_members fs ms)

-- each name of the ones comes before those of the others
abbrev StandBefore : Members → Members → Type 0
StandBefore no_members ms = ⊤
StandBefore (member k d fs) ms = (stands_first k ms ≡ true) × StandBefore fs ms

after : (k l : List ℕ) → is_lt (slice_cmp nat_cmp k l) ≡ true → slice_cmp nat_cmp l k ≡ Greater
after k l e = nat_list_cmp_total.antisymm l k ∙ ap ordering_reverse (by (slice_cmp nat_cmp k l) e)
  where
    by : (o : Ordering) → is_lt o ≡ true → o ≡ Less
    by Less h = refl
    by Equal h = absurd (false≢true h)
    by Greater h = absurd (false≢true h)

put_last : (k : List ℕ) (d : Data) (ms found : Members) → StandBefore found (member k d ms) → put k d found ≡ joined_members found (member k d no_members)
put_last k d ms no_members h = refl
put_last k d ms (member l e fs) h =
    let less = (and_parts (is_lt (slice_cmp nat_cmp l k)) (stands_first l ms) h.0).0 in
    ap (λ o. match_ordering o (member k d (member l e fs)) (member l d fs) (member l e (put k d fs))) (after l k less) ∙ ap (member l e) (put_last k d ms fs h.1)

joined_more : (found : Members) (k : List ℕ) (d : Data) (ms : Members) → joined_members (joined_members found (member k d no_members)) ms ≡ joined_members found (member k d ms)
joined_more no_members k d ms = refl
joined_more (member l e fs) k d ms = ap (member l e) (joined_more fs k d ms)

before_more : (found : Members) (k : List ℕ) (d : Data) (ms : Members) → StandBefore found (member k d ms) → stands_first k ms ≡ true → StandBefore (joined_members found (member k d no_members)) ms
before_more no_members k d ms h e = (e, tt)
before_more (member l f fs) k d ms h e = ((and_parts (is_lt (slice_cmp nat_cmp l k)) (stands_first l ms) h.0).1, before_more fs k d ms h.1 e)

joined_none : (found : Members) → joined_members found no_members ≡ found
joined_none no_members = refl
joined_none (member k d fs) = ap (member k d) (joined_none fs)

mutual
  outline_read : (n : ℕ) (d : Data) → IsPlain n d → of_json (outline d) ≡ Some d
  outline_read n null h = refl
  outline_read n (boolean b) h = refl
  outline_read n (number (unsigned k)) h = ap (option_map number) (number_of-decimal k h)
  outline_read n (number (negative (pos k))) h = absurd h
  outline_read n (number (negative (negsuc k))) h = ap (option_map number) (number_of-negative k (omega (arith, h)))
  outline_read n (number (float x)) h = absurd h
  outline_read n (string s) h = refl
  outline_read zero (array ds) h = absurd h
  outline_read zero (object ms) h = absurd h
  outline_read (suc n) (array ds) h = ap (option_map array) (items_read n ds h)
  outline_read (suc n) (object ms) h = ap (option_map object) (members_read n ms no_members h tt)

  items_read : (n : ℕ) (ds : Items) → ArePlain n ds → of_items (items_outline ds) ≡ Some ds
  items_read n no_items h = refl
  items_read n (item d ds) h =
      ap (option_and_then (λ x. option_map (item x) (of_items (items_outline ds)))) (outline_read n d h.0) ∙ ap (option_map (item d)) (items_read n ds h.1)

  members_read : (n : ℕ) (ms found : Members) → AreMembers n ms → StandBefore found ms → of_members (members_outline ms) found ≡ Some (joined_members found ms)
  members_read n no_members found h e = ap Some (sym (joined_none found))
  members_read n (member k d ms) found h e =
      ap (option_and_then (λ x. of_members (members_outline ms) (put k x found))) (outline_read n d h.1.0)
      ∙ ap (of_members (members_outline ms)) (put_last k d ms found e)
      ∙ members_read n ms (joined_members found (member k d no_members)) h.1.1 (before_more found k d ms e h.0.1)
      ∙ ap Some (joined_more found k d ms)

-- ---- its numbers, and how deep it is

mutual
  numbers : (n : ℕ) (d : Data) → IsPlain n d → tree.HasNumbers (outline d)
  numbers n null h = tt
  numbers n (boolean b) h = tt
  numbers n (number (unsigned k)) h = IsNumber-decimal k h
  numbers n (number (negative (pos k))) h = absurd h
  numbers n (number (negative (negsuc k))) h = IsNumber-signed_decimal (negsuc k) (omega (arith, h))
  numbers n (number (float x)) h = absurd h
  numbers n (string s) h = tt
  numbers zero (array ds) h = absurd h
  numbers zero (object ms) h = absurd h
  numbers (suc n) (array ds) h = items_numbers n ds h
  numbers (suc n) (object ms) h = members_numbers n ms h

  items_numbers : (n : ℕ) (ds : Items) → ArePlain n ds → tree.ItemsHaveNumbers (items_outline ds)
  items_numbers n no_items h = tt
  items_numbers n (item d ds) h = (numbers n d h.0, items_numbers n ds h.1)

  members_numbers : (n : ℕ) (ms : Members) → AreMembers n ms → tree.MembersHaveNumbers (members_outline ms)
  members_numbers n no_members h = tt
  members_numbers n (member k d ms) h = (numbers n d h.1.0, members_numbers n ms h.1.1)

mutual
  shallow : (n : ℕ) (d : Data) → IsPlain n d → tree.depth (outline d) ≤ n
  shallow n null h = omega arith
  shallow n (boolean b) h = omega arith
  shallow n (number x) h = omega arith
  shallow n (string s) h = omega arith
  shallow zero (array ds) h = absurd h
  shallow zero (object ms) h = absurd h
  shallow (suc n) (array ds) h = omega (arith, items_shallow n ds h)
  shallow (suc n) (object ms) h = omega (arith, members_shallow n ms h)

  items_shallow : (n : ℕ) (ds : Items) → ArePlain n ds → tree.items_depth (items_outline ds) ≤ n
  items_shallow n no_items h = omega arith
  items_shallow n (item d ds) h = omega (arith, shallow n d h.0, items_shallow n ds h.1)

  members_shallow : (n : ℕ) (ms : Members) → AreMembers n ms → tree.members_depth (members_outline ms) ≤ n
  members_shallow n no_members h = omega arith
  members_shallow n (member k d ms) h = omega (arith, shallow n d h.1.0, members_shallow n ms h.1.1)

-- ---- its text is UTF-8

comma_utf8 : (b : Bool) → IsUtf8 (comma_if b)
comma_utf8 true = IsUtf8-are_ascii (44 ∷ []) refl
comma_utf8 false = IsUtf8-nil

one_utf8 : (x : ℕ) (xs : List ℕ) → IsUtf8 (x ∷ []) → IsUtf8 xs → IsUtf8 (x ∷ xs)
one_utf8 x xs h k = IsUtf8-append (x ∷ []) xs h k

mutual
  text_utf8 : (n : ℕ) (d : Data) → IsPlain n d → IsUtf8 (compact_text d)
  text_utf8 n null h = IsUtf8-are_ascii _ refl
  text_utf8 n (boolean b) h = IsUtf8-boolean b
  text_utf8 n (number (unsigned k)) h = IsUtf8-from_ascii _ (IsAscii-decimal k h)
  text_utf8 n (number (negative (pos k))) h = absurd h
  text_utf8 n (number (negative (negsuc k))) h = IsUtf8-from_ascii _ (IsAscii-signed (negsuc k) (omega (arith, h)))
  text_utf8 n (number (float x)) h = absurd h
  text_utf8 n (string s) h = IsUtf8-quoted s h
  text_utf8 zero (array ds) h = absurd h
  text_utf8 zero (object ms) h = absurd h
  text_utf8 (suc n) (array ds) h = one_utf8 91 (items_text false ds) (IsUtf8-are_ascii (91 ∷ []) refl) (items_utf8 n false ds h)
  text_utf8 (suc n) (object ms) h = one_utf8 123 (members_text false ms) (IsUtf8-are_ascii (123 ∷ []) refl) (members_utf8 n false ms h)

  items_utf8 : (n : ℕ) (later : Bool) (ds : Items) → ArePlain n ds → IsUtf8 (items_text later ds)
  items_utf8 n later no_items h = IsUtf8-are_ascii (93 ∷ []) refl
  items_utf8 n later (item d ds) h = IsUtf8-append (comma_if later) _ (comma_utf8 later) (IsUtf8-append (compact_text d) _ (text_utf8 n d h.0) (items_utf8 n true ds h.1))

  members_utf8 : (n : ℕ) (later : Bool) (ms : Members) → AreMembers n ms → IsUtf8 (members_text later ms)
  members_utf8 n later no_members h = IsUtf8-are_ascii (125 ∷ []) refl
  members_utf8 n later (member k d ms) h =
      IsUtf8-append (comma_if later) _ (comma_utf8 later)
      (IsUtf8-append (quoted k) _ (IsUtf8-quoted k h.0.0) (one_utf8 58 _ (IsUtf8-are_ascii (58 ∷ []) refl) (IsUtf8-append (compact_text d) _ (text_utf8 n d h.1.0) (members_utf8 n true ms h.1.1))))

-- ---- the file

abbrev whole_read : Option (json.Json × List Rattle.json.specs.Token.Token) → Option Data
whole_read o = option_and_then of_json (option_and_then (λ p. json.if_last p.0 p.1) o)

text_read : (n : ℕ) (d : Data) → n ≤ 127 → IsPlain n d → read (compact_text d ++ 10 ∷ []) ≡ Some d
text_read n d few h =
    let ts = tree.json_tokens (outline d) in
    let same : tokens (compact_text d ++ 10 ∷ []) ≡ ts = ap (λ t. tokens (t ++ 10 ∷ [])) (sym (print-outline d)) ∙ tokens-newline ts (ArePrintable-json_tokens (outline d) (numbers n d h)) in
    ap whole_read (ap (json.value 127) (same ∙ sym (append-nil ts)) ∙ value-json_tokens (outline d) 127 [] (omega (arith, shallow n d h))) ∙ outline_read n d h

-- what is written is read as the value
pub file_read : (n : ℕ) (d : Data) → n ≤ 127 → IsPlain n d → file.tree (compact_text d ++ 10 ∷ []) ≡ Some d
file_read n d few h =
    ap (λ b. cond b (read (compact_text d ++ 10 ∷ [])) None) (is_utf8-from_IsUtf8 _ (IsUtf8-append (compact_text d) (10 ∷ []) (text_utf8 n d h) (IsUtf8-are_ascii (10 ∷ []) refl)))
    ∙ text_read n d few h
