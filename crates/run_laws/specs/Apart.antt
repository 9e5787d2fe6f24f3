-- What a journal and the sources' histories say before they are merged: each list, each actor and each jump by itself (own).
use Rattle.std.specs.Prelude.{◌≡◌, ℕ, suc, Bool, true, false, ◌&&◌, nat_le, nat_lt, List, [], ◌∷◌, length, map, filter, reverse, if◌then◌else◌, Some, slice_get, slice_index_or}
use Rattle.std.specs.List.{list_all}
use Rattle.sleep_model.specs.declared.word.EventNow.{EventNow}
use Rattle.sleep_model.specs.declared.entry.Actor.{Actor}
use Rattle.sleep_model.specs.declared.entry.Actor.TheVariants as actor
use Rattle.sleep_model.specs.declared.entry.Entry.{Entry}
use Rattle.sleep_model.specs.declared.entry.JournalEntry.{JournalEntry}
use Rattle.sleep_model.specs.declared.entry.Kind.{Kind}
use Rattle.sleep_model.specs.declared.entry.Kind.TheVariants.{Expire}
use Rattle.sleep_model.specs.declared.entry.SourceEntry.{SourceEntry}
use Rattle.sleep_model.specs.declared.machine.Machine.{Machine}
use Rattle.sleep_model.specs.Calls.{calls_of, is_calling, notes_of}
use Rattle.sleep_model.specs.Legal.{JumpStep, last_is_of}
use Rattle.sleep_model.specs.Merge.{all_entries, entries_of, in_order, is_word_step, of_source}
use Rattle.sleep_model.specs.Numbers.{numbers}
use Rattle.sleep_model.specs.EntryClasses.{EntryClass, OfJournal, Notes, Moves, OfTime, class_of, is_in_journal, journal}
use Rattle.sleep_model.specs.Path.{is_same}
use Rattle.sleep_model.specs.Sources.{SourceStep, history, is_of}

-- ---- the lists

-- the entries of a list, the newest first
abbrev pub past_of : List JournalEntry → List Entry
past_of entries = reverse (map (λ e. e.entry) entries)

-- the entries of source s, the newest first, and none of a source that there is not
abbrev pub source_past : List (List SourceEntry) → ℕ → List Entry
source_past histories s = past_of (map of_source (slice_index_or histories s []))

-- the entry is the journal's: its own, or a jump of time
abbrev pub is_journals : JournalEntry → Bool
is_journals e = is_in_journal (class_of e.entry.kind)

-- each history has entries of its own source only, the first those of that number
abbrev pub are_of : ℕ → List (List SourceEntry) → Bool
are_of s [] = true
are_of s (history ∷ rest) = list_all (λ e. is_of s (class_of e.entry.kind)) history && are_of (suc s) rest

-- an actor's entries in all lists, in the order of their stamps
abbrev pub own_entries : Actor → List JournalEntry → List (List SourceEntry) → List JournalEntry
own_entries who journal histories = in_order (entries_of who (all_entries journal histories))

-- all steps on the word, in the order of their positions
abbrev pub word_steps : List JournalEntry → List (List SourceEntry) → List JournalEntry
word_steps journal histories = in_order (filter is_word_step (all_entries journal histories))

-- the word after all steps
abbrev pub last_word : List JournalEntry → List (List SourceEntry) → EventNow
last_word journal histories = numbers (past_of (word_steps journal histories))

-- ---- each source by itself

-- each entry of a source's history, the newest first, is legal after the older ones
abbrev pub IsSource : List Entry → Type 0
IsSource [] = Unit {0}
IsSource (e ∷ own) = SourceStep own e.time e.actor (class_of e.kind) × IsSource own

-- ---- each actor by itself

-- an actor's entries among these
abbrev pub own_of : Actor → List Entry → List Entry
own_of who past = filter (λ e. is_same e.actor who) past

-- the calls that an actor has to have made after its first k entries of the journal: those of others change none of them
abbrev pub calls_after : Machine → Actor → ℕ → List Entry → List Kind
calls_after m who k [] = calls_of m who []
calls_after m who k (e ∷ past) =
    if nat_le (length (own_of who (e ∷ past))) k then calls_of m who (e ∷ past) else calls_after m who k past

-- a source's history after the first k entries of that actor: those of others may follow them
abbrev pub history_after : Actor → ℕ → List Entry → List Entry
history_after who k [] = []
history_after who k (e ∷ past) =
    if nat_le (length (own_of who (e ∷ past))) k then e ∷ past else history_after who k past

-- after these entries of its own an actor is inside a call, by the first n sources, which have these histories in all
abbrev pub is_inside : ℕ → (ℕ → List Entry) → Actor → List Entry → Bool
is_inside n of who own = is_calling n (λ s. history_after who (length (history s own)) (of s)) who

-- a note is the next of these calls, of which n were made; a timer notes its source's expiry
abbrev pub IsCall : Actor → List Kind → ℕ → Kind → Type 0
IsCall (actor.Timer s) calls n k = k ≡ Expire s
IsCall who calls n k = slice_get calls n ≡ Some k

-- an entry is the next of an actor with these entries so far, by the calls after each of its entries of the journal, and by whether it is
-- inside a call
abbrev pub ActorStep : Actor → (ℕ → List Kind) → (List Entry → Bool) → List Entry → Entry → EntryClass → Type 0
ActorStep who calls inside own e OfJournal =
    (notes_of who own ≡ length (calls (length (journal own)))) × (inside own ≡ false)
ActorStep who calls inside own e (Notes s call) =
    IsCall who (calls (length (journal own))) (notes_of who own) e.kind × (inside own ≡ false)
ActorStep who calls inside own e (Moves s step) = last_is_of s who own ≡ true
ActorStep who calls inside own e OfTime = Unit {0}

-- each entry of an actor, the newest first, is its next step after the older ones
abbrev pub AreActorSteps : Actor → (ℕ → List Kind) → (List Entry → Bool) → List Entry → Type 0
AreActorSteps who calls inside [] = Unit {0}
AreActorSteps who calls inside (e ∷ own) =
    ActorStep who calls inside own e (class_of e.kind) × AreActorSteps who calls inside own

-- ---- each jump by itself

-- what a source made before time jumped to that moment: its entries with an earlier time
abbrev pub before : ℕ → List Entry → List Entry
before time own = filter (λ e. nat_lt e.time time) own

-- a jump is allowed by the journal before it, by what the histories had, and by the word that it carries
abbrev pub JumpIsLegal : Machine → List Entry → (ℕ → List Entry) → Entry → EntryClass → Type 0
JumpIsLegal m past of e OfTime = JumpStep m past (λ s. before e.time (of s)) e.now e.time
JumpIsLegal m past of e _ = Unit {0}

-- so does each jump of a journal, the newest first, whose sources have these histories in all
abbrev pub AreJumps : Machine → List Entry → (ℕ → List Entry) → Type 0
AreJumps m [] of = Unit {0}
AreJumps m (e ∷ past) of = JumpIsLegal m past of e (class_of e.kind) × AreJumps m past of
