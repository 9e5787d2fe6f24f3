-- What `stats` says of an input (kernel/power/main.c, suspend_stats_show).
use Rattle.std.specs.Prelude.{◌≡◌, ◌⊎◌, ℕ, List, Some, None}
use Rattle.sleep_model.specs.declared.log.Log.{Log}
use Rattle.sleep_model.specs.declared.machine.Machine.{Machine}
use Rattle.sleep_model.specs.Order.{parents_of}
use Rattle.device_chain.specs.declared.chain.Chain.{Chain}
use Rattle.device_chain.specs.Chains.{IsLongest}
use Rattle.sleep_stats.specs.Counting.{counts_of}
use Rattle.sleep_stats.specs.Linked.{last_linked}
use Rattle.program_ending.specs.declared.refusal.Refusal.{Refusal}
use Rattle.log_commands.specs.Input.{IsBadInput, IsLogIn}
use Rattle.log_commands.specs.Taking.{refusal_of}
use Rattle.log_commands.specs.Telling.{stats_text}

-- the text is that of the counts of a log, and of the longest chain of devices at its end (suspend_stats_show)
pub record IsTextOf (m : Machine) (log : Log) (shown_text : List ℕ) : Type 0 where
  pub chain : Chain
  pub longest : IsLongest (last_linked m log) chain
  pub is_text : shown_text ≡ stats_text m (counts_of log.entries) chain

-- the first link of the log that is refused after the machine's is so
abbrev pub IsBadLink : Machine → Log → Refusal → Type 0
IsBadLink m log refusal = refusal_of (parents_of m.devices) m.links log.entries ≡ Some refusal

-- no link of the log is refused, and the text is that of both
pub record IsTextOfGood (m : Machine) (log : Log) (shown_text : List ℕ) : Type 0 where
  pub good : refusal_of (parents_of m.devices) m.links log.entries ≡ None
  pub outcome : IsTextOf m log shown_text

-- the bytes are those of a machine and its log, no link of the log is refused, and the text is that of them
pub record IsStatsOf (bytes shown_text : List ℕ) : Type 0 where
  pub machine : Machine
  pub log : Log
  pub read : IsLogIn bytes machine log
  pub outcome : IsTextOfGood machine log shown_text

-- the bytes are those of a machine and its log, and the first link of the log that is refused is so
pub record HasBadLink (bytes : List ℕ) (refusal : Refusal) : Type 0 where
  pub machine : Machine
  pub log : Log
  pub read : IsLogIn bytes machine log
  pub bad : IsBadLink machine log refusal

-- why an input is refused: for the machine or the log, or else for a link of the log
abbrev pub RefusesStats : List ℕ → Refusal → Type 0
RefusesStats bytes refusal = IsBadInput bytes refusal ⊎ HasBadLink bytes refusal
