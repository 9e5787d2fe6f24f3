-- Each script has its state of freezing.
use Rattle.std.proofs.Common.{◌≡◌, ℕ, suc, List, [], ◌∷◌, length, map, refl, ap, arith}
use Rattle.std.proofs.lemmas.List.{length-set}
use Rattle.sleep_model.specs.declared.entry.Actor.{Actor}
use Rattle.sleep_model.specs.declared.entry.Actor.TheVariants as actor
use Rattle.sleep_model.specs.declared.entry.Group.{Group}
use Rattle.sleep_model.specs.declared.entry.Kind.{Kind}
use Rattle.sleep_model.specs.declared.entry.Kind.TheVariants as kind
use Rattle.sleep_model.specs.declared.entry.Thaw.{Thaw}
use Rattle.sleep_model.specs.declared.machine.Script.{Script}
use Rattle.sleep_model.specs.declared.progress.Freezing.{Freezing}
use Rattle.sleep_model.specs.Freezer.{unasked, all_asked, all_let_go, put_frozen, freezings, freezings_after}
use Rattle.check_account.specs.Accounts.{AllFollow, EachIsKnown}

pub follow : AllFollow
follow m past e = record { attempt = refl; tasks = refl; devices = refl }

asked_len : (g : Group) (who : Actor) (i : ℕ) (ss : List Script) (fs : List Freezing) → length fs ≡ length ss → length (all_asked g who i ss fs) ≡ length ss
asked_len g who i [] [] all = refl
asked_len g who i [] (f ∷ fs) all = refl
asked_len g who i (s ∷ ss) [] all = all
asked_len g who i (s ∷ ss) (f ∷ fs) all = omega (arith, asked_len g who (suc i) ss fs (omega arith))

let_go_len : (those : Thaw) (ss : List Script) (fs : List Freezing) → length fs ≡ length ss → length (all_let_go those ss fs) ≡ length ss
let_go_len those [] [] all = refl
let_go_len those [] (f ∷ fs) all = refl
let_go_len those (s ∷ ss) [] all = all
let_go_len those (s ∷ ss) (f ∷ fs) all = omega (arith, let_go_len those ss fs (omega arith))

frozen_len : (n : ℕ) (who : Actor) (fs : List Freezing) → length fs ≡ n → length (put_frozen who fs) ≡ n
frozen_len n (actor.Script i) fs all = grind (arith, length-set)
frozen_len n _ fs all = all

one_len : (ss : List Script) (who : Actor) (k : Kind) (fs : List Freezing) → length fs ≡ length ss → length (freezings_after ss who k fs) ≡ length ss
one_len ss who (kind.Freeze g) fs all = asked_len g who 0 ss fs all
one_len ss who (kind.Thaw those) fs all = let_go_len those ss fs all
one_len ss who kind.Frozen fs all = frozen_len (length ss) who fs all
one_len ss who _ fs all = all

none_len : (ss : List Script) → length (map (λ (s : Script). unasked) ss) ≡ length ss
none_len [] = refl
none_len (s ∷ ss) = ap suc (none_len ss)

pub placed : EachIsKnown
placed ss [] = none_len ss
placed ss (e ∷ past) = one_len ss e.actor e.kind (freezings ss past) (placed ss past)
