-- How a line is cut into words, and what numbers they spell.
use Rattle.std.specs.Prelude.{ℕ, ◌==◌, ◌+◌, ◌-◌, ◌*◌, ◌&&◌, List, [], ◌∷◌, length, take, Option, Some, None, option_and_then, position, if◌then◌else◌}
use Rattle.std.specs.Str.{bytes_eq}
use Rattle.sleep_base.specs.Cutting.{before, after_first}
use Rattle.sleep_base.specs.Digits.{is_digit}
use Rattle.sleep_model.specs.Fits.{is_word32, is_word64}
use Rattle.log_text.specs.Named.{is_name_long}

-- what comes before the first space
abbrev pub word : List ℕ → List ℕ
word text = before 32 text

-- what follows the first space
abbrev pub rest : List ℕ → List ℕ
rest text = after_first 32 text

-- all but the last byte
abbrev pub without_last : List ℕ → List ℕ
without_last text = take (length text - 1) text

-- the number with one digit more, if it is one and the number stays in 64 bits
abbrev pub digit_after : ℕ → ℕ → Option ℕ
digit_after n b = if is_digit b && is_word64 (n * 10 + (b - 48)) then Some (n * 10 + (b - 48)) else None

-- the number that the digits spell after those of n
abbrev pub number_after : ℕ → List ℕ → Option ℕ
number_after n [] = Some n
number_after n (b ∷ bytes) = option_and_then (λ k. number_after k bytes) (digit_after n b)

-- the number of 64 bits that the digits spell, if there are some
abbrev pub word64 : List ℕ → Option ℕ
word64 [] = None
word64 (b ∷ bytes) = number_after 0 (b ∷ bytes)

-- a number if it has 32 bits
abbrev pub short : ℕ → Option ℕ
short n = if is_word32 n then Some n else None

-- the number of 32 bits that the digits spell, if there are some
abbrev pub word32 : List ℕ → Option ℕ
word32 text = option_and_then short (word64 text)

-- the first thing of that name
abbrev pub index_in : List (List ℕ) → List ℕ → Option ℕ
index_in names name = if is_name_long name then position (bytes_eq name) names else None
