-- What a look at the event word says, by what the looked-at object shows.
use Rattle.std.specs.Prelude.{◌≡◌, List, ◌∷◌, ◌++◌, Option, Some, None}
use Rattle.sleep_model.specs.declared.word.EventNow.{EventNow}

-- the word is the one that the holder shows, if it shows one
abbrev pub IsShown : Option EventNow → EventNow → Type 0
IsShown None word = Unit {0}
IsShown (Some shown) word = word ≡ shown

-- the words looked at have gained this one; if they are not shown they stay unshown
abbrev pub GainsLook : EventNow → Option (List EventNow) → Option (List EventNow) → Type 0
GainsLook word None None = Unit {0}
GainsLook word None (Some new) = ⊥
GainsLook word (Some old) None = ⊥
GainsLook word (Some old) (Some new) = new ≡ word ∷ old

-- the words looked at are some put before the old ones; if they are not shown they stay unshown
abbrev pub HasGrown : Option (List EventNow) → Option (List EventNow) → Type 0
HasGrown None None = Unit {0}
HasGrown None (Some new) = ⊥
HasGrown (Some old) None = ⊥
HasGrown (Some old) (Some new) = (more : List EventNow) × (new ≡ more ++ old)

-- the words looked at have grown, and this is the newest
abbrev pub GrewTo : EventNow → Option (List EventNow) → Option (List EventNow) → Type 0
GrewTo word None None = Unit {0}
GrewTo word None (Some new) = ⊥
GrewTo word (Some old) None = ⊥
GrewTo word (Some old) (Some new) = (more : List EventNow) × (new ≡ word ∷ more ++ old)
