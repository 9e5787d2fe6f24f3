-- What one word does to the parse of a leaf that has no short options.
use Rattle.std.proofs.Common.{ℕ, ◌≡◌, ◌∙◌, ◌⊎◌, Bool, cond, true, false, List, [], ◌∷◌, length, Option, Some, None, refl, sym, ap, subst, inl, inr, eqb}
use Rattle.std.specs.Prelude.{slice_get}
use Rattle.std.specs.Option.{option_map_or}
use Rattle.std.specs.Str.{bytes_eq, chars}
use Rattle.std.proofs.lemmas.Bool.Decides.{Decides-eqb}
use Rattle.clap.specs.Lexer.{long_of, short_of, strip_byte}
use Rattle.clap.specs.Kinds.{Kinds, or_else}
use Rattle.clap.specs.Walk.{Held, Names, Row, Text, Waiting, Walk, after_step, arg_by_short, bundle_met, bundle_step, long_or_other, plain, after_flag, plain_word, short_or_plain, subcommand_met, subcommand_or_other, trailing, walked}
use Rattle.clap.specs.Simple.{Shape}
use Rattle.clap.specs.Faults.{bundle_fault, bundle_step_fault, flag_word_fault, flags_fault, other_fault, step_fault, turn_fault}
use Rattle.clap.specs.declared.error.kind.ErrorKind.TheVariants.{UnknownArgument}

-- a byte comes first, or there is none to strip
pub stripped : (c : ℕ) (x : Text) → ((r : Text) × (x ≡ c ∷ r)) ⊎ (strip_byte c x ≡ None)
stripped c [] = inr refl
stripped c (y ∷ ys) = go (eqb y c) refl
  where
    go : (b : Bool) → eqb y c ≡ b → ((r : Text) × (y ∷ ys ≡ c ∷ r)) ⊎ (strip_byte c (y ∷ ys) ≡ None)
    go true e = inl (ys, ap (λ z. z ∷ ys) ((Decides-eqb y c).0 e))
    go false e = inr (rw e refl)

module _ (s : Shape) (names : Names) (rows : List Row) (pending : Option (Text × List Text)) (waiting : Waiting) (position : ℕ) (x : Text) where
  abbrev pub held : Held
  held = record { rows = rows; pending = pending; skip = 0 }

  abbrev pub place : Walk
  place = record { held = held; waiting = waiting; position = position; is_trailing = false; stopped = None }

  abbrev pub turn_by : Option (Text × Option Text) → Kinds
  turn_by l = or_else (flag_word_fault s.rules s.args_override_self l x held)
      (step_fault s position (long_or_other s.rules waiting x l held).0 (long_or_other s.rules waiting x l held).1)

  abbrev pub walked_by : Option (Text × Option Text) → Walk
  walked_by l = after_step s.rules x place (long_or_other s.rules waiting x l held).0 (long_or_other s.rules waiting x l held).1

  abbrev plain_turn : Kinds
  plain_turn = step_fault s position (plain_word s.rules waiting x held).0 (plain_word s.rules waiting x held).1

  abbrev plain_walked : Walk
  plain_walked = after_step s.rules x place (plain_word s.rules waiting x held).0 (plain_word s.rules waiting x held).1

  -- the word is one of no option, or it is as a word that is no option
  abbrev IsOther : Kinds → Walk → Type 0
  IsOther turn after = ((turn ≡ UnknownArgument ∷ []) × ((r : Text) × (x ≡ 45 ∷ r))) ⊎ ((turn ≡ plain_turn) × (after ≡ plain_walked))

  -- `--name`, whose turn is that of its name
  abbrev pub IsLong : Type 0
  IsLong = (p : Text × Option Text) × (long_of x ≡ Some p) × (turn_fault s names place x ≡ turn_by (Some p)) × ((r : Text) × (x ≡ 45 ∷ r))

  abbrev pub IsPlain : Type 0
  IsPlain = IsOther (turn_fault s names place x) (walked s.rules names place x)

  module _ (no_short : (c : ℕ) → arg_by_short s.rules c ≡ None) where
    abbrev bundle_turn : Text → ℕ → Option ℕ → Kinds
    bundle_turn flags k o =
        let step = after_flag s.rules waiting x (bundle_step s.rules o flags 0 plain held (bundle_met s.rules k)).0 (bundle_step s.rules o flags 0 plain held (bundle_met s.rules k)).1 in
        or_else (bundle_step_fault s.rules s.args_override_self o flags 0 held (flags_fault s.rules s.args_override_self k)) (step_fault s position step.0 step.1)

    abbrev bundle_walked : Text → ℕ → Option ℕ → Walk
    bundle_walked flags k o =
        let step = after_flag s.rules waiting x (bundle_step s.rules o flags 0 plain held (bundle_met s.rules k)).0 (bundle_step s.rules o flags 0 plain held (bundle_met s.rules k)).1 in
        after_step s.rules x place step.0 step.1

    bundle_other : (flags : Text) (k : ℕ) (o : Option ℕ) → (r : Text) × (x ≡ 45 ∷ r) → IsOther (bundle_turn flags k o) (bundle_walked flags k o)
    bundle_other flags k None minus = inr (refl, refl)
    bundle_other flags k (Some c) minus = inl (rw (no_short c) refl, minus)

    abbrev short_turn : Option Text → Kinds
    short_turn o = or_else (option_map_or (λ flags. bundle_fault s.rules s.args_override_self flags held) o [])
        (step_fault s position (short_or_plain s.rules waiting x o held).0 (short_or_plain s.rules waiting x o held).1)

    abbrev short_walked : Option Text → Walk
    short_walked o = after_step s.rules x place (short_or_plain s.rules waiting x o held).0 (short_or_plain s.rules waiting x o held).1

    short_other : (o : Option Text) → (r : Text) × (x ≡ 45 ∷ r) → IsOther (short_turn o) (short_walked o)
    unfolding flags_fault bundle_met
    short_other None minus = inr (refl, refl)
    short_other (Some []) minus = inr (refl, refl)
    short_other (Some (c ∷ cs)) minus = bundle_other (c ∷ cs) (length cs) (slice_get (chars (c ∷ cs)) 0) minus

    module _ (no_name : subcommand_met names waiting x ≡ None) (not_end : bytes_eq x (45 ∷ 45 ∷ []) ≡ false) where
      turn_is : turn_fault s names place x ≡ turn_by (long_of x)
      turn_is = ap (λ o. or_else (other_fault s o x held) (step_fault s position (subcommand_or_other s.rules o waiting position x held).0 (subcommand_or_other s.rules o waiting position x held).1)) no_name
          ∙ ap (λ (b : Bool). or_else (cond b [] (flag_word_fault s.rules s.args_override_self (long_of x) x held))
          (step_fault s position (cond b (held, trailing position) (long_or_other s.rules waiting x (long_of x) held)).0 (cond b (held, trailing position) (long_or_other s.rules waiting x (long_of x) held)).1)) not_end

      walked_is : walked s.rules names place x ≡ walked_by (long_of x)
      unfolding walked
      walked_is = ap (λ o. after_step s.rules x place (subcommand_or_other s.rules o waiting position x held).0 (subcommand_or_other s.rules o waiting position x held).1) no_name
          ∙ ap (λ (b : Bool). after_step s.rules x place (cond b (held, trailing position) (long_or_other s.rules waiting x (long_of x) held)).0
          (cond b (held, trailing position) (long_or_other s.rules waiting x (long_of x) held)).1) not_end

      pub word_is : IsLong ⊎ IsPlain
      word_is = first (stripped 45 x)
        where
          no_long : long_of x ≡ None → IsOther (short_turn (short_of x)) (short_walked (short_of x)) → IsPlain
          no_long e h = subst (λ (p : Kinds × Walk). IsOther p.0 p.1) (sym (λ i. ((turn_is ∙ ap turn_by e) i, (walked_is ∙ ap walked_by e) i))) h

          go : (l : Option (Text × Option Text)) → long_of x ≡ l → (r : Text) × (x ≡ 45 ∷ r) → IsLong ⊎ IsPlain
          go None e minus = inr (no_long e (short_other (short_of x) minus))
          go (Some p) e minus = inl (p, e, turn_is ∙ ap turn_by e, minus)

          first : ((r : Text) × (x ≡ 45 ∷ r)) ⊎ (strip_byte 45 x ≡ None) → IsLong ⊎ IsPlain
          first (inl minus) = go (long_of x) refl minus
          first (inr none) =
              let long_none : long_of x ≡ None = rw none refl in
              let short_none : short_of x ≡ None = rw none refl in
              inr (no_long long_none (subst (λ o. IsOther (short_turn o) (short_walked o)) (sym short_none) (inr (refl, refl))))
