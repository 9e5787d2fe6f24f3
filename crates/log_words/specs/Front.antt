-- The front of an entry's line: its moment and the word, which lines in a row often share, and who makes it.
use Rattle.std.specs.Prelude.{ℕ, List, ◌++◌, decimal}
use Rattle.sleep_model.specs.declared.word.EventNow.{EventNow}
use Rattle.sleep_model.specs.declared.entry.Actor.{Actor}
use Rattle.sleep_model.specs.declared.machine.Machine.{Machine}
use Rattle.sleep_model.specs.Text.{space, actor_text, word_text}

-- the moment and the word, each with the space after it
abbrev pub front_text : ℕ → EventNow → List ℕ
front_text time now = decimal time ++ space ++ word_text now ++ space

-- who makes an entry, with the space after it
abbrev pub maker_text : Machine → Actor → List ℕ
maker_text m who = actor_text m who ++ space
