-- The value that bytes are, from what the reader of JSON ensures.
use Rattle.std.proofs.Common.{◌≡◌, ℕ, List, Bool, true, false, cond, Option, Some, None, Result, Ok, Err, IfOk, IfSome, IfNone, refl, ap, ◌∙◌}
use Rattle.std.proofs.lemmas.Str.{IsUtf8-from_is_utf8, is_utf8-from_IsUtf8}
use Rattle.std.specs.Str.{IsUtf8, is_utf8}
use Rattle.serde_json.specs.Data.{Data}
use Rattle.serde_json.specs.Read.{read}
use Rattle.borrowed_json.specs.View.{Value, view}
use Rattle.sleep_base.specs.declared.outside.Mem.{Mem}
use Rattle.file_rules.specs.Tree.{tree}

pub tree-some : (bytes : List ℕ) (d : Data) → IsUtf8 bytes → read bytes ≡ Some d → tree bytes ≡ Some d
tree-some bytes d text is = ap (λ b. cond b (read bytes) None) (is_utf8-from_IsUtf8 bytes text) ∙ is

none_at : (b : Bool) (bytes : List ℕ) → is_utf8 bytes ≡ b → (IsUtf8 bytes → read bytes ≡ None) → cond b (read bytes) None ≡ None
none_at true bytes e none = none (IsUtf8-from_is_utf8 bytes e)
none_at false bytes e none = refl

pub tree-none : (bytes : List ℕ) → (IsUtf8 bytes → read bytes ≡ None) → tree bytes ≡ None
tree-none bytes none = none_at (is_utf8 bytes) bytes refl none

-- what the reader of JSON reads is the value that the bytes are
pub tree-read : (bytes : List ℕ) (r : Result (Option Value) Mem) → IfOk r (λ o. IfSome o (λ v. IsUtf8 bytes × (read bytes ≡ Some (view v)))) → IfOk r (λ o. IfSome o (λ v. tree bytes ≡ Some (view v)))
tree-read bytes (Ok (Some v)) h = tree-some bytes (view v) h.0 h.1
tree-read bytes (Ok None) h = h
tree-read bytes (Err e) h = h

pub tree-unread : (bytes : List ℕ) (r : Result (Option Value) Mem) → IfOk r (λ o. IfNone o (IsUtf8 bytes → read bytes ≡ None)) → IfOk r (λ o. IfNone o (tree bytes ≡ None))
tree-unread bytes (Ok (Some v)) h = h
tree-unread bytes (Ok None) h = tree-none bytes h
tree-unread bytes (Err e) h = h
