-- What a word means, by what is found in the tables of names.
use Rattle.std.proofs.Common.{◌≡◌, ◌≢◌, ◌∙◌, ℕ, Bool, true, false, cond, List, bytes_eq, codes, unwrap_or, IfSome, IfNone, Option, Some, None, ℤ, pos, negsuc, refl, sym, ap}
use Rattle.std.specs.Cmp.Lexicographic.{bytes_decides}
use Rattle.sleep_base.specs.declared.errno.Errno.TheVariants.{EINVAL}
use Rattle.sleep_base.specs.Errno.{name_of, error_of_number}
use Rattle.sleep_model.specs.declared.entry.SkipCause.{SkipCause}
use Rattle.sleep_model.specs.declared.entry.SkipCause.TheVariants as cause
use Rattle.sleep_model.specs.declared.entry.Group.{Group}
use Rattle.sleep_model.specs.declared.entry.Group.TheVariants as group
use Rattle.sleep_model.specs.declared.entry.Kind.{Kind}
use Rattle.sleep_model.specs.declared.entry.Kind.TheVariants as kind
use Rattle.sleep_model.specs.declared.machine.PlatDo.{PlatDo}
use Rattle.sleep_model.specs.declared.machine.PlatDo.TheVariants as down
use Rattle.sleep_model.specs.declared.machine.PlatUndo.{PlatUndo}
use Rattle.sleep_model.specs.declared.machine.PlatUndo.TheVariants as up
use Rattle.sleep_model.specs.Text.{cause_text, group_word, down_word, up_word, prepare_text}
use Rattle.log_text.specs.Words.{cause_in, group_in, down_in, is_negative}
use Rattle.log_text.specs.Reading.{platform_kind}
use Rattle.log_text.proofs.WordsBack.{cause_back, group_back, down_back}

differs : (w n : List ℕ) → w ≢ n → bytes_eq w n ≡ false
differs w n h = by (bytes_eq w n) refl
  where
    by : (b : Bool) → bytes_eq w n ≡ b → b ≡ false
    by true e = absurd (h ((bytes_decides w n).0 e))
    by false e = refl

-- a value by the last rung of a ladder whose other rungs fail
module _ {A : Type 0} (z : A) where
  one : (a : Bool) (x : A) → a ≡ false → z ≡ cond a x z
  one a x e = rw e refl

  next : (a : Bool) (x : A) (rest : A) → a ≡ false → z ≡ rest → z ≡ cond a x rest
  next a x rest e h = rw e h

pub cause_injective : (w : List ℕ) (o : Option SkipCause) → IfSome o (λ c. w ≡ cause_text c) → IfNone o ((c : SkipCause) → w ≢ cause_text c) → unwrap_or o cause.Direct ≡ cause_in w
cause_injective w (Some c) found none = sym (ap cause_in found ∙ cause_back c)
cause_injective w None found none =
    next cause.Direct _ cause.Error _ (differs w (cause_text cause.Error) (none cause.Error)) (one cause.Direct _ cause.Pending (differs w (cause_text cause.Pending) (none cause.Pending)))

pub group_injective : (w : List ℕ) (o : Option Group) → IfSome o (λ g. w ≡ group_word g) → IfNone o ((g : Group) → w ≢ group_word g) → unwrap_or o group.Kernel ≡ group_in w
group_injective w (Some g) found none = sym (ap group_in found ∙ group_back g)
group_injective w None found none = one group.Kernel _ group.User (differs w (group_word group.User) (none group.User))

pub down_injective : (w : List ℕ) (o : Option PlatDo) → IfSome o (λ s. w ≡ down_word s) → IfNone o ((s : PlatDo) → w ≢ down_word s) → unwrap_or o down.PrepareLate ≡ down_in w
down_injective w (Some s) found none = sym (ap down_in found ∙ down_back s)
down_injective w None found none =
    next down.PrepareLate _ down.Begin _ (differs w (down_word down.Begin) (none down.Begin)) (one down.PrepareLate _ down.Prepare (differs w (down_word down.Prepare) (none down.Prepare)))

up_back : (u : PlatUndo) → kind.PlatformUndo u ≡ platform_kind (up_word u)
up_back up.Recover = refl
up_back up.Wake = refl
up_back up.Finish = refl
up_back up.End = refl

-- a step up that is named
pub up_injective : (w : List ℕ) (u : PlatUndo) → w ≡ up_word u → kind.PlatformUndo u ≡ platform_kind w
up_injective w u found = up_back u ∙ ap platform_kind (sym found)

-- if none is, it is a step down
pub up_untold : (w : List ℕ) (k : Kind) → ((u : PlatUndo) → w ≢ up_word u)
    → cond (bytes_eq w (codes "recover")) (kind.PlatformUndo up.Recover) (cond (bytes_eq w (codes "wake")) (kind.PlatformUndo up.Wake)
    (cond (bytes_eq w (codes "finish")) (kind.PlatformUndo up.Finish) (cond (bytes_eq w (codes "end")) (kind.PlatformUndo up.End) k))) ≡ k
up_untold w k none =
    sym (next k _ (kind.PlatformUndo up.Recover) _ (differs w (up_word up.Recover) (none up.Recover)) (next k _ (kind.PlatformUndo up.Wake) _ (differs w (up_word up.Wake) (none up.Wake))
    (next k _ (kind.PlatformUndo up.Finish) _ (differs w (up_word up.Finish) (none up.Finish)) (one k _ (kind.PlatformUndo up.End) (differs w (up_word up.End) (none up.End))))))

-- the name of the error that a number below 0 means
pub failed_injective : (r : ℤ) → is_negative r ≡ true → name_of (unwrap_or (error_of_number r) EINVAL) ≡ prepare_text r
failed_injective (pos n) below = cc
failed_injective (negsuc n) below = refl
