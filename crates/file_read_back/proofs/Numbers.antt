-- Numbers that are left out if they have their default.
use Rattle.std.proofs.Common.{◌≡◌, ◌&&◌, ◌==◌, ℕ, Bool, true, false, cond, nat_le, Option, Some, None, option_map, option_and_then, unwrap_or, refl, sym}
use Rattle.std.proofs.lemmas.Bool.{false≢true, eqb-true}
use Rattle.serde_json.specs.Data.{Data, boolean}
use Rattle.serde_json.specs.Find.{as_number, as_u64, as_bool}
use Rattle.borrowed_json.specs.Look.{is_some_and, is_none_or, is_within, is_truth}
use Rattle.machine_file.specs.Spelling.{count}

-- the number at a member, by what is there
abbrev pub number_of : Option Data → Option ℕ
number_of r = option_and_then as_u64 (option_and_then as_number r)

-- the number, unless it has its default
abbrev pub unless_default : ℕ → ℕ → Option Data
unless_default default n = cond (n == default) None (Some (count n))

pub number_back : (default n : ℕ) → unwrap_or (number_of (unless_default default n)) default ≡ n
number_back default n = by (n == default) refl
  where
    by : (b : Bool) → (n == default) ≡ b → unwrap_or (number_of (cond b None (Some (count n)))) default ≡ n
    by true e = sym (eqb-true n default e)
    by false e = refl

-- a number that may be given is of its range, if the default is, too
pub in_range_or : (least most default : ℕ) (r : Option Data) → is_none_or (is_within least most) r ≡ true → (nat_le least default && nat_le default most) ≡ true →
    (nat_le least (unwrap_or (number_of r) default) && nat_le (unwrap_or (number_of r) default) most) ≡ true
in_range_or least most default None e h = h
in_range_or least most default (Some x) e h = by (option_and_then as_u64 (as_number x)) e
  where
    by : (o : Option ℕ) → is_some_and (λ n. nat_le least n && nat_le n most) o ≡ true → (nat_le least (unwrap_or o default) && nat_le (unwrap_or o default) most) ≡ true
    by None k = absurd (false≢true k)
    by (Some n) k = k

pub number_form : (least most default n : ℕ) → (nat_le least n && nat_le n most) ≡ true → is_none_or (is_within least most) (unless_default default n) ≡ true
number_form least most default n e = by (n == default)
  where
    by : (b : Bool) → is_none_or (is_within least most) (cond b None (Some (count n))) ≡ true
    by true = refl
    by false = e

-- a number that may be given, given again
pub maybe_back : (o : Option ℕ) → number_of (option_map count o) ≡ o
maybe_back None = refl
maybe_back (Some n) = refl

pub maybe_form : (least most : ℕ) (r : Option Data) → is_none_or (is_within least most) r ≡ true → is_none_or (is_within least most) (option_map count (number_of r)) ≡ true
maybe_form least most None e = refl
maybe_form least most (Some x) e = by (option_and_then as_u64 (as_number x)) e
  where
    by : (o : Option ℕ) → is_some_and (λ n. nat_le least n && nat_le n most) o ≡ true → is_none_or (is_within least most) (option_map count o) ≡ true
    by None k = refl
    by (Some n) k = k

-- the value true if it holds
abbrev pub if_true : Bool → Option Data
if_true b = cond b (Some (boolean true)) None

pub truth_back : (b : Bool) → unwrap_or (option_and_then as_bool (if_true b)) false ≡ b
truth_back true = refl
truth_back false = refl

pub truth_form : (b : Bool) → is_none_or is_truth (if_true b) ≡ true
truth_form true = refl
truth_form false = refl
