-- The first words of what entries say.
use Rattle.std.specs.Prelude.{ℕ, List, [], ◌∷◌, bytes_eq, codes, find, Option}
use Rattle.log_words.specs.declared.verb.Verb.{Verb}
use Rattle.log_words.specs.declared.verb.Verb.TheVariants as verb

-- the word of a verb, as a log spells it
abbrev pub verb_word : Verb → List ℕ
verb_word verb.Begin = codes "begin"
verb_word verb.End = codes "end"
verb_word verb.Prepare = codes "prepare"
verb_word verb.Complete = codes "complete"
verb_word verb.Schedule = codes "schedule"
verb_word verb.Skip = codes "skip"
verb_word verb.Done = codes "done"
verb_word verb.Frozen = codes "frozen"
verb_word verb.Read = codes "read"
verb_word verb.Save = codes "save"
verb_word verb.State = codes "state"
verb_word verb.Autosleep = codes "autosleep"
verb_word verb.Sleep = codes "sleep"
verb_word verb.SleepD = codes "sleep_d"
verb_word verb.Slept = codes "slept"
verb_word verb.Pass = codes "pass"
verb_word verb.Post = codes "post"
verb_word verb.Got = codes "got"
verb_word verb.Exit = codes "exit"
verb_word verb.Runtime = codes "runtime"
verb_word verb.Link = codes "link"
verb_word verb.LinkState = codes "link_state"
verb_word verb.Run = codes "run"
verb_word verb.Saved = codes "saved"
verb_word verb.Unsaved = codes "unsaved"
verb_word verb.After = codes "after"
verb_word verb.Again = codes "again"
verb_word verb.Off = codes "off"
verb_word verb.Awake = codes "awake"
verb_word verb.Relax = codes "relax"
verb_word verb.Event = codes "event"
verb_word verb.Expire = codes "expire"
verb_word verb.Start = codes "start"
verb_word verb.Finish = codes "finish"
verb_word verb.Hard = codes "hard"
verb_word verb.Jump = codes "jump"
verb_word verb.Attempt = codes "attempt"
verb_word verb.Over = codes "over"
verb_word verb.Notify = codes "notify"
verb_word verb.Freeze = codes "freeze"
verb_word verb.Froze = codes "froze"
verb_word verb.Thaw = codes "thaw"
verb_word verb.Platform = codes "platform"
verb_word verb.Cpu = codes "cpu"
verb_word verb.Irqs = codes "irqs"
verb_word verb.Syscore = codes "syscore"
verb_word verb.Enter = codes "enter"
verb_word verb.Wake = codes "wake"
verb_word verb.Clear = codes "clear"

-- all verbs, those of device phases first
abbrev pub verbs : List Verb
verbs =
    verb.Begin ∷ verb.End ∷ verb.Prepare ∷ verb.Complete ∷ verb.Schedule ∷ verb.Skip ∷ verb.Done ∷
    verb.Frozen ∷ verb.Read ∷ verb.Save ∷ verb.State ∷ verb.Autosleep ∷ verb.Sleep ∷ verb.SleepD ∷
    verb.Slept ∷ verb.Pass ∷ verb.Post ∷ verb.Got ∷ verb.Exit ∷ verb.Runtime ∷ verb.Link ∷ verb.LinkState ∷
    verb.Run ∷ verb.Saved ∷ verb.Unsaved ∷ verb.After ∷ verb.Again ∷ verb.Off ∷ verb.Awake ∷ verb.Relax ∷
    verb.Event ∷ verb.Expire ∷ verb.Start ∷ verb.Finish ∷ verb.Hard ∷ verb.Jump ∷ verb.Attempt ∷ verb.Over ∷
    verb.Notify ∷ verb.Freeze ∷ verb.Froze ∷ verb.Thaw ∷ verb.Platform ∷ verb.Cpu ∷ verb.Irqs ∷
    verb.Syscore ∷ verb.Enter ∷ verb.Wake ∷ verb.Clear ∷ []

-- the verb of that word
abbrev pub verb_of : List ℕ → Option Verb
verb_of w = find (λ v. bytes_eq w (verb_word v)) verbs
