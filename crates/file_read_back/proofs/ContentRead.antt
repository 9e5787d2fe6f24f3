-- The content of a string of a UTF-8 text is UTF-8.
use Rattle.std.proofs.Common.{◌≡◌, ◌∙◌, ◌&&◌, ◌||◌, ◌==◌, ◌<◌, ◌≤◌, ◌+◌, ◌*◌, ◌-◌, ℕ, zero, suc, nat_lt, nat_le, List, [], ◌∷◌, ◌++◌, length, get_or, Bool, true, false, cond, Option, Some, None, option_and_then, IsUtf8, inl, inr, refl, sym, ap, subst, arith, append-nil, append_assoc, length-append, ltb-true, lt-ltb, le-leb, ne_eqb}
use Rattle.std.specs.Prelude.{⊤}
use Rattle.std.specs.Char.{digit_value, is_digit, encode_utf8}
use Rattle.std.proofs.lemmas.Bool.{and_parts, and_from, false≢true, eqb-true, leb-true, cases_lt, or_cases}
use Rattle.std.proofs.lemmas.Str.{IsUtf8-append, IsUtf8-nil, IsUtf8-encode, IsUtf8-past_char, encode_ascii, inside_one}
use lib.Utf8.{scalar, scalars, encode, encodes, low_scalar}
use Rattle.json.specs.Text.{code_unit, short_escape, is_high_surrogate, is_low_surrogate, surrogate_pair, plain, after_backslash, after_u, after_high, prepend, content}
use Rattle.file_read_back.proofs.Alike.{EachOf}
use Rattle.file_read_back.proofs.TextsIn.{MayBeUtf8}

prepend_utf8 : (bytes : List ℕ) (o : Option (List ℕ)) → IsUtf8 bytes → MayBeUtf8 o → MayBeUtf8 (prepend bytes o)
prepend_utf8 bytes None h k = tt
prepend_utf8 bytes (Some s) h k = IsUtf8-append bytes s h k

low_utf8 : (x : ℕ) → x < 128 → IsUtf8 (x ∷ [])
low_utf8 x small = subst IsUtf8 (encode_ascii x small) (IsUtf8-encode x (low_scalar x (omega arith)))

prepend_twice : (a b : List ℕ) (o : Option (List ℕ)) → prepend a (prepend b o) ≡ prepend (a ++ b) o
prepend_twice a b None = refl
prepend_twice a b (Some s) = ap Some (sym (append_assoc a b s))

prepend_nothing : (o : Option (List ℕ)) → o ≡ prepend [] o
prepend_nothing None = refl
prepend_nothing (Some s) = refl

-- after an ASCII byte the text goes on as UTF-8
tail_utf8 : (x : ℕ) (xs : List ℕ) → x < 128 → IsUtf8 (x ∷ xs) → IsUtf8 xs
tail_utf8 x xs small u = IsUtf8-past_char (x ∷ xs) xs x u (sym (ap (λ e. e ++ xs) (encode_ascii x small)))

-- ---- digits and scalar values

small_by : (a k v rest : ℕ) → k ≤ 123 → (nat_lt rest 16 ≡ true → a < 123) → nat_lt (cond (nat_lt a k) v rest) 16 ≡ true → a < 123
small_by a k v rest few f e = by (nat_lt a k) refl e
  where
    by : (b : Bool) → nat_lt a k ≡ b → nat_lt (cond b v rest) 16 ≡ true → a < 123
    by true h g = let l = ltb-true a k h in omega arith
    by false h g = f g

digit_small : (a : ℕ) → is_digit a 16 ≡ true → a < 128
digit_small a e =
    let few : a < 123 =
    small_by a 48 36 _ (omega arith) (small_by a 58 (a - 48) _ (omega arith) (small_by a 65 36 _ (omega arith) (small_by a 91 (a - 55) _ (omega arith) (small_by a 97 36 _ (omega arith)
    (small_by a 123 (a - 87) 36 (omega arith) (λ h. absurd (false≢true h))))))) e in
    omega arith

high_scalar : (u : ℕ) → 57344 ≤ u → u < 1114112 → scalar u ≡ true
high_scalar u least most = by (nat_lt u 55296)
  where
    by : (b : Bool) → cond b true (nat_le 57344 u && nat_lt u 1114112) ≡ true
    by true = refl
    by false = and_from _ _ (le-leb 57344 u least) (lt-ltb u 1114112 most)

unit_scalar : (u : ℕ) → is_high_surrogate u ≡ false → is_low_surrogate u ≡ false → u < 65536 → scalar u ≡ true
unit_scalar u high low few = elim (cases_lt u 55296) [
  | inl small ↦ low_scalar u small
  | inr big ↦ elim (cases_lt u 56320) [
    | inl between ↦ absurd (false≢true (sym high ∙ and_from _ _ (le-leb 55296 u big) (lt-ltb u 56320 between)))
    | inr above ↦ elim (cases_lt u 57344) [
      | inl between ↦ absurd (false≢true (sym low ∙ and_from _ _ (le-leb 56320 u above) (lt-ltb u 57344 between)))
      | inr behind ↦ high_scalar u behind (omega arith)
    ]
  ]
]

pair_scalar : (h l : ℕ) → is_high_surrogate h ≡ true → is_low_surrogate l ≡ true → scalar (surrogate_pair h l) ≡ true
pair_scalar h l high low =
    let hs = and_parts (nat_le 55296 h) (nat_lt h 56320) high in
    let ls = and_parts (nat_le 56320 l) (nat_lt l 57344) low in
    let a = leb-true 55296 h hs.0 in
    let b = ltb-true h 56320 hs.1 in
    let c = leb-true 56320 l ls.0 in
    let e = ltb-true l 57344 ls.1 in
    high_scalar (surrogate_pair h l) (omega arith) (omega arith)

-- ---- escapes

-- a short escape and its meaning are ASCII
abbrev IsShortEscape : ℕ → Option ℕ → Type 0
IsShortEscape y None = ⊤
IsShortEscape y (Some c) = (y < 128) × (c < 128)

one_short : (b : Bool) (y c : ℕ) (rest : Option ℕ) → (b ≡ true → (y < 128) × (c < 128)) → IsShortEscape y rest → IsShortEscape y (cond b (Some c) rest)
one_short true y c rest f g = f refl
one_short false y c rest f g = g

is_small : (y k : ℕ) → k < 128 → (y == k) ≡ true → y < 128
is_small y k few e = let s = eqb-true y k e in omega arith

three_small : (y : ℕ) → ((y == 34) || (y == 92) || (y == 47)) ≡ true → y < 128
three_small y e = elim (or_cases ((y == 34) || (y == 92)) (y == 47) e) [
  | inl two ↦ elim (or_cases (y == 34) (y == 92) two) [ inl a ↦ is_small y 34 (omega arith) a | inr a ↦ is_small y 92 (omega arith) a ]
  | inr a ↦ is_small y 47 (omega arith) a
]

short_small : (y : ℕ) → IsShortEscape y (short_escape y)
unfolding short_escape
short_small y =
    one_short _ y y _ (λ e. (three_small y e, three_small y e))
    (one_short (y == 98) y 8 _ (λ e. (is_small y 98 (omega arith) e, omega arith))
    (one_short (y == 102) y 12 _ (λ e. (is_small y 102 (omega arith) e, omega arith))
    (one_short (y == 110) y 10 _ (λ e. (is_small y 110 (omega arith) e, omega arith))
    (one_short (y == 114) y 13 _ (λ e. (is_small y 114 (omega arith) e, omega arith))
    (one_short (y == 116) y 9 None (λ e. (is_small y 116 (omega arith) e, omega arith)) tt)))))

-- four hex digits are ASCII, and spell less than 65536
record IsUnit (a b c d u : ℕ) : Type 0 where
  a_small : a < 128
  b_small : b < 128
  c_small : c < 128
  d_small : d < 128
  few : u < 65536

abbrev MayBeUnit : ℕ → ℕ → ℕ → ℕ → Option ℕ → Type 0
MayBeUnit a b c d None = ⊤
MayBeUnit a b c d (Some u) = IsUnit a b c d u

unit_small : (a b c d : ℕ) → MayBeUnit a b c d (code_unit a b c d)
unfolding code_unit
unit_small a b c d = by (is_digit a 16 && is_digit b 16 && is_digit c 16 && is_digit d 16) refl
  where
    by : (t : Bool) → (is_digit a 16 && is_digit b 16 && is_digit c 16 && is_digit d 16) ≡ t →
        MayBeUnit a b c d (cond t (Some (digit_value a * 4096 + digit_value b * 256 + digit_value c * 16 + digit_value d)) None)
    by false e = tt
    by true e =
        let three = and_parts (is_digit a 16 && is_digit b 16 && is_digit c 16) (is_digit d 16) e in
        let two = and_parts (is_digit a 16 && is_digit b 16) (is_digit c 16) three.0 in
        let one = and_parts (is_digit a 16) (is_digit b 16) two.0 in
        let p = ltb-true (digit_value a) 16 one.0 in
        let q = ltb-true (digit_value b) 16 one.1 in
        let r = ltb-true (digit_value c) 16 two.1 in
        let s = ltb-true (digit_value d) 16 three.1 in
        record { a_small = digit_small a one.0; b_small = digit_small b one.1; c_small = digit_small c two.1; d_small = digit_small d three.1; few = omega (arith, p, q, r, s) }

module _ (n : ℕ) (again : (ys : List ℕ) → length ys ≤ n → IsUtf8 ys → MayBeUtf8 (content plain ys)) where
  high_step : (h : ℕ) (zs : List ℕ) → is_high_surrogate h ≡ true → length zs ≤ n → IsUtf8 zs → MayBeUtf8 (content (after_high h) zs)
  unfolding content
  high_step h [] high l u = tt
  high_step h (s ∷ []) high l u = tt
  high_step h (s ∷ v ∷ []) high l u = tt
  high_step h (s ∷ v ∷ a ∷ []) high l u = tt
  high_step h (s ∷ v ∷ a ∷ b ∷ []) high l u = tt
  high_step h (s ∷ v ∷ a ∷ b ∷ c ∷ []) high l u = tt
  high_step h (s ∷ v ∷ a ∷ b ∷ c ∷ d ∷ xs) high l u = by ((s == 92) && (v == 117)) refl
    where
      low : (p : Bool) (w : ℕ) → is_low_surrogate w ≡ p → IsUtf8 xs → MayBeUtf8 (cond p (prepend (encode_utf8 (surrogate_pair h w)) (content plain xs)) None)
      low false w e k = tt
      low true w e k = prepend_utf8 (encode_utf8 (surrogate_pair h w)) (content plain xs) (IsUtf8-encode (surrogate_pair h w) (pair_scalar h w high e)) (again xs (omega arith) k)

      unit : (o : Option ℕ) → MayBeUnit a b c d o → IsUtf8 (a ∷ b ∷ c ∷ d ∷ xs) →
          MayBeUtf8 (option_and_then (λ w. cond (is_low_surrogate w) (prepend (encode_utf8 (surrogate_pair h w)) (content plain xs)) None) o)
      unit None h k = tt
      unit (Some w) h k =
          low (is_low_surrogate w) w refl (tail_utf8 d xs h.d_small (tail_utf8 c (d ∷ xs) h.c_small (tail_utf8 b (c ∷ d ∷ xs) h.b_small (tail_utf8 a (b ∷ c ∷ d ∷ xs) h.a_small k))))

      by : (t : Bool) → ((s == 92) && (v == 117)) ≡ t →
          MayBeUtf8 (cond t (option_and_then (λ w. cond (is_low_surrogate w) (prepend (encode_utf8 (surrogate_pair h w)) (content plain xs)) None) (code_unit a b c d)) None)
      by false e = tt
      by true e =
          let both = and_parts (s == 92) (v == 117) e in
          unit (code_unit a b c d) (unit_small a b c d) (tail_utf8 v (a ∷ b ∷ c ∷ d ∷ xs) (is_small v 117 (omega arith) both.1) (tail_utf8 s (v ∷ a ∷ b ∷ c ∷ d ∷ xs) (is_small s 92 (omega arith) both.0) u))

  u_step : (ys : List ℕ) → length ys ≤ n → IsUtf8 ys → MayBeUtf8 (content after_u ys)
  unfolding content
  u_step [] l u = tt
  u_step (a ∷ []) l u = tt
  u_step (a ∷ b ∷ []) l u = tt
  u_step (a ∷ b ∷ c ∷ []) l u = tt
  u_step (a ∷ b ∷ c ∷ d ∷ xs) l u = unit (code_unit a b c d) (unit_small a b c d)
    where
      single : (p : Bool) (w : ℕ) → is_low_surrogate w ≡ p → is_high_surrogate w ≡ false → w < 65536 → IsUtf8 xs → MayBeUtf8 (cond p None (prepend (encode_utf8 w) (content plain xs)))
      single true w e f few k = tt
      single false w e f few k = prepend_utf8 (encode_utf8 w) (content plain xs) (IsUtf8-encode w (unit_scalar w f e few)) (again xs (omega arith) k)

      high : (p : Bool) (w : ℕ) → is_high_surrogate w ≡ p → w < 65536 → IsUtf8 xs → MayBeUtf8 (cond p (content (after_high w) xs) (cond (is_low_surrogate w) None (prepend (encode_utf8 w) (content plain xs))))
      high true w e few k = high_step w xs e (omega arith) k
      high false w e few k = single (is_low_surrogate w) w refl e few k

      unit : (o : Option ℕ) → MayBeUnit a b c d o →
          MayBeUtf8 (option_and_then (λ w. cond (is_high_surrogate w) (content (after_high w) xs) (cond (is_low_surrogate w) None (prepend (encode_utf8 w) (content plain xs)))) o)
      unit None h = tt
      unit (Some w) h =
          high (is_high_surrogate w) w refl h.few (tail_utf8 d xs h.d_small (tail_utf8 c (d ∷ xs) h.c_small (tail_utf8 b (c ∷ d ∷ xs) h.b_small (tail_utf8 a (b ∷ c ∷ d ∷ xs) h.a_small u))))

  backslash_step : (ys : List ℕ) → length ys ≤ n → IsUtf8 ys → MayBeUtf8 (content after_backslash ys)
  unfolding content
  backslash_step [] l u = tt
  backslash_step (y ∷ ys) l u = by (y == 117) refl
    where
      short : (o : Option ℕ) → IsShortEscape y o → MayBeUtf8 (option_and_then (λ c. prepend (c ∷ []) (content plain ys)) o)
      short None h = tt
      short (Some c) h = prepend_utf8 (c ∷ []) (content plain ys) (low_utf8 c h.1) (again ys (omega arith) (tail_utf8 y ys h.0 u))

      by : (p : Bool) → (y == 117) ≡ p → MayBeUtf8 (cond p (content after_u ys) (option_and_then (λ c. prepend (c ∷ []) (content plain ys)) (short_escape y)))
      by true e = u_step ys (omega arith) (tail_utf8 y ys (is_small y 117 (omega arith) e) u)
      by false e = short (short_escape y) (short_small y)

  low_step : (x : ℕ) (xs : List ℕ) → x < 128 → length xs ≤ n → IsUtf8 xs → MayBeUtf8 (content plain (x ∷ xs))
  unfolding content
  low_step x xs small l u = by (x == 34) (x == 92) (nat_lt x 32)
    where
      by : (p q r : Bool) → MayBeUtf8 (cond p (Some []) (cond q (content after_backslash xs) (cond r None (prepend (x ∷ []) (content plain xs)))))
      by true q r = IsUtf8-nil
      by false true r = backslash_step xs l u
      by false false true = tt
      by false false false = prepend_utf8 (x ∷ []) (content plain xs) (low_utf8 x small) (again xs l u)

-- ---- characters of more bytes

run : (bs r : List ℕ) → EachOf (λ b. 128 ≤ b) bs → content plain (bs ++ r) ≡ prepend bs (content plain r)
unfolding content
run [] r h = prepend_nothing (content plain r)
run (b ∷ bs) r h =
    let high : 128 ≤ b = h.0 in
    let big : nat_lt b 32 ≡ false = not_less b 32 (omega arith) in
    (λ i. cond (ne_eqb b 34 (λ e. omega arith) i) (Some []) (cond (ne_eqb b 92 (λ e. omega arith) i) (content after_backslash (bs ++ r)) (cond (big i) None (prepend (b ∷ []) (content plain (bs ++ r))))))
    ∙ ap (prepend (b ∷ [])) (run bs r h.1) ∙ prepend_twice (b ∷ []) bs (content plain r)
  where
    not_less : (x k : ℕ) → k ≤ x → nat_lt x k ≡ false
    not_less x k l = by (nat_lt x k) refl
      where
        by : (p : Bool) → nat_lt x k ≡ p → p ≡ false
        by true e = let f = ltb-true x k e in absurd (omega arith)
        by false e = refl

pub each_high : (bs : List ℕ) → ((k : ℕ) → k < length bs → 128 ≤ get_or bs k 0) → EachOf (λ b. 128 ≤ b) bs
each_high [] h = tt
each_high (b ∷ bs) h = (h 0 (omega arith), each_high bs (λ k l. h (suc k) (omega arith)))

pub high_bytes : (c : ℕ) → 128 ≤ c → EachOf (λ b. 128 ≤ b) (encode c)
high_bytes c big =
    each_high (encode c) (λ k below. elim (cases_lt (get_or (encode c) k 0) 128) [
      | inl low ↦ absurd (let e = inside_one c [] (encode c) k (sym (append-nil (encode c))) below low in omega arith)
      | inr h ↦ h
    ])

some_of : (c x y z : ℕ) (ys zs ws : List ℕ) (p q r : Bool) → 0 < length (cond p (c ∷ []) (cond q (x ∷ ys) (cond r (y ∷ zs) (z ∷ ws))))
some_of c x y z ys zs ws true q r = omega arith
some_of c x y z ys zs ws false true r = omega arith
some_of c x y z ys zs ws false false true = omega arith
some_of c x y z ys zs ws false false false = omega arith

some_byte : (c : ℕ) → 0 < length (encode c)
unfolding encode
some_byte c = some_of c _ _ _ _ _ _ (nat_lt c 128) (nat_lt c 2048) (nat_lt c 65536)

content_good : (n : ℕ) (cs : List ℕ) → length (encodes cs) ≤ n → scalars cs ≡ true → MayBeUtf8 (content plain (encodes cs))
unfolding content
content_good n [] l s = tt
content_good zero (c ∷ cs) l s = absurd (let p = some_byte c in let q = length-append (encode c) (encodes cs) in omega arith)
content_good (suc n) (c ∷ cs) l s =
    let both = and_parts (scalar c) (scalars cs) s in
    let some = some_byte c in
    let len = length-append (encode c) (encodes cs) in
    elim (cases_lt c 128) [
      | inl small ↦
          subst (λ t. MayBeUtf8 (content plain (t ++ encodes cs))) (sym (encode_ascii c small))
          (low_step n (λ ys few u. subst (λ t. MayBeUtf8 (content plain t)) u.1.1 (content_good n u.0 (subst (λ t. length t ≤ n) (sym u.1.1) few) u.1.0)) c (encodes cs) small (omega arith) (cs, (both.1, refl)))
      | inr big ↦
          subst MayBeUtf8 (sym (run (encode c) (encodes cs) (high_bytes c big)))
          (prepend_utf8 (encode c) (content plain (encodes cs)) (IsUtf8-encode c both.0) (content_good n cs (omega arith) both.1))
    ]

-- the content of a string, after its quote
pub content_utf8 : (cs : List ℕ) → scalars cs ≡ true → MayBeUtf8 (content plain (encodes cs))
content_utf8 cs s = content_good (length (encodes cs)) cs (omega arith) s
