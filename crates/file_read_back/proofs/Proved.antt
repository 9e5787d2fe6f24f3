-- The laws.
use Rattle.file_read_back.specs.Laws.{AllSpellAgain}
use Rattle.file_read_back.proofs.FileValid.{valid_file}
use Rattle.file_read_back.proofs.MachineBack.{machine_same}
use Rattle.file_read_back.proofs.RulesBack.{unbroken_again}

pub all_spell_again : AllSpellAgain
all_spell_again d unbroken = (unbroken_again d unbroken, machine_same d (valid_file d unbroken))
