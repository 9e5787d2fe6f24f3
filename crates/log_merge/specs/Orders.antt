-- What orders the entries of the one log (own: Linux keeps no such log).
use Rattle.std.specs.Prelude.{Bool, is_some}
use Rattle.sleep_model.specs.declared.entry.Kind.{Kind}
use Rattle.sleep_model.specs.Numbers.{word_step}

-- a kind of entry that is a step on the word
abbrev pub is_step : Kind → Bool
is_step kind = is_some (word_step kind)
