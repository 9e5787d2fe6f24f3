-- If nothing fails, an accepted machine gives its log.
use Rattle.std.proofs.Common.{◌≡◌, ◌≤◌, ◌++◌, ◌∙◌, inl, inr, ℕ, Bool, true, false, List, length, Option, true≢false, Some, None, refl, sym, ap, subst, arith}
use Rattle.std.proofs.lemmas.List.{length-append, append-nil}
use Rattle.std.specs.Io.KnownBytes.{Consumes, IsAtEnd}
use Rattle.sleep_base.specs.Faults.{Rose}
use Rattle.sleep_model.specs.declared.machine.Machine.{Machine}
use Rattle.file_rules.specs.Tree.{tree}
use Rattle.file_rules.specs.Whole.{machine_in}
use Rattle.machine_rounds.specs.Runs.{MayFillSource}
use Rattle.command_line.specs.declared.command.Command.{Command}
use Rattle.command_line.specs.declared.command.Command.TheVariants.{Run, Gen, Soak, Check, Locks, Stats, Idle}
use Rattle.program_ending.specs.declared.ending.Ending.{Ending}
use Rattle.program_ending.specs.declared.ending.Ending.TheVariants.{Done, Stuck, Illegal, NoForm, ReadFault, WriteFault, Refused, NoMemory}
use Rattle.program_ending.specs.declared.refusal.Refusal.{Refusal}
use Rattle.program_ending.specs.declared.refusal.Refusal.TheVariants.{Broken, SourceFull, LongInput, BadLockLine, LongLocks}
use Rattle.program_ending.specs.Endings.{status_of}
use Rattle.idle_loop.specs.declared.entry.IdleSizes.{IdleSizes}
use Rattle.lock_commands.specs.Command.{IsLocksOf, RefusesLocks}
use Rattle.log_commands.specs.Input.{file_in, text_in}
use Rattle.log_commands.specs.Judging.{IsJudged, RefusesCheck}
use Rattle.log_commands.specs.Stats.{IsStatsOf, RefusesStats}
use Rattle.log_commands.proofs.Fitting.{no_machine, none_refused, one_machine}
use Rattle.log_commands.proofs.Judging.{machine_stands, bad_log_text, good_log_text}
use Rattle.log_commands.specs.Endings.{CheckEnded, StatsEnded, WroteVerdict}
use Rattle.program_ending.specs.Streams.{RefusesInput, Stream, Streams}
use Rattle.program_ending.specs.CommandEndings.{CommandEnded}
use Rattle.run_commands.specs.Endings.{GenEnded, RefusesRun, RunEnded, SoakEnded}
use Rattle.idle_commands.specs.Endings.{IdleEnded}
use Rattle.lock_commands.specs.Endings.{LocksEnded}
use Rattle.sleep_commands.specs.Endings.{NoFault, NoFaults, Completes, Ended, IsInput, IsOneOf, IsRefusal, FillsNone}

-- a count that rose is no count that stayed
rose_not : (before now : ℕ) → Rose before now → NoFault before now → ⊥
rose_not before now r n = omega (arith, r, n.0, n.1)

-- what was taken up to the end is all
whole : (old new : Option (List ℕ)) (bytes bs : List ℕ) → old ≡ Some bytes → Consumes old new bs → IsAtEnd new → bs ≡ bytes
whole None new bytes bs e taken end = absurd (cc)
whole (Some xs) None bytes bs e taken end = absurd taken
whole (Some xs) (Some ys) bytes bs e taken end = let all : xs ≡ bytes = cc in sym (append-nil bs) ∙ (ap (λ zs. bs ++ zs) (sym end) ∙ (sym taken ∙ all))

-- no more is taken than there was
part : (old new : Option (List ℕ)) (bytes bs : List ℕ) → old ≡ Some bytes → Consumes old new bs → length bs ≤ length bytes
part None new bytes bs e taken = absurd (cc)
part (Some xs) None bytes bs e taken = absurd taken
part (Some xs) (Some ys) bytes bs e taken = let all : xs ≡ bytes = cc in omega (arith, ap length all, ap length taken, length-append bs ys)

-- an input that is these bytes is refused for what they are
refused_whole : (most : ℕ) (long : Refusal) (Why : List ℕ → Refusal → Type 0) (old new : Streams) (bytes : List ℕ) (refusal : Refusal) → IsInput most old bytes → RefusesInput most long Why old.input new.input refusal → Why bytes refusal
refused_whole most long Why old new bytes refusal is (inl h) = absurd (omega (arith, h.1.2, part old.input.bytes new.input.bytes bytes h.1.0 is.0 h.1.1, is.1))
refused_whole most long Why old new bytes refusal is (inr h) = subst (λ (bs : List ℕ). Why bs refusal) (whole old.input.bytes new.input.bytes bytes h.0 is.0 h.1.taken h.1.at_end) h.2

-- bytes that spell a machine none of whose sources can be filled are not refused
no_refusal : (bytes : List ℕ) (m : Machine) → machine_in bytes ≡ Some m → FillsNone m → (refusal : Refusal) → RefusesRun bytes refusal → ⊥
no_refusal bytes m spells none (Broken rule place) h = no_machine (tree bytes) m _ h spells
no_refusal bytes m spells none (SourceFull name) h =
    let same : h.machine ≡ m = one_machine h.machine m (sym h.spells ∙ spells) in none h.number (subst (λ (x : Machine). MayFillSource x h.number) same h.full)
no_refusal bytes m spells none refusal h = absurd h

-- a run of a file
run_completes : (workers : ℕ) (old new : Streams) (ending : Ending) → RunEnded old new ending → Completes (Some (Run workers)) old new (status_of ending)
run_completes workers old new Done h = λ bytes is m spells none faults. inl refl
run_completes workers old new Stuck h = λ bytes is m spells none faults. inr (inl refl)
run_completes workers old new Illegal h = λ bytes is m spells none faults. absurd h
run_completes workers old new NoForm h = λ bytes is m spells none faults. absurd h
run_completes workers old new (Refused refusal) h = λ bytes is m spells none faults.
    absurd (no_refusal bytes m spells none refusal (refused_whole 16777216 _ RefusesRun old new bytes refusal is h.0))
run_completes workers old new ReadFault h = λ bytes is m spells none faults. absurd (rose_not old.input.faults new.input.faults h.0 faults.0)
run_completes workers old new WriteFault h = λ bytes is m spells none faults. absurd (rose_not old.output.faults new.output.faults h.3.0 faults.1)
run_completes workers old new NoMemory h = λ bytes is m spells none faults. inr (inr refl)

-- a command that writes of an input which is not refused
command_completes : (most : ℕ) (long : Refusal) (Gives : List ℕ → List ℕ → Type 0) (Why : List ℕ → Refusal → Type 0) (old new : Streams) (ending : Ending) → CommandEnded most long Gives Why old new ending
    → (bytes : List ℕ) → IsInput most old bytes → ((refusal : Refusal) → Why bytes refusal → ⊥) → NoFaults old new → IsOneOf Done Done (status_of ending)
command_completes most long Gives Why old new Done h bytes is none faults = inl refl
command_completes most long Gives Why old new Stuck h bytes is none faults = absurd h
command_completes most long Gives Why old new Illegal h bytes is none faults = absurd h
command_completes most long Gives Why old new NoForm h bytes is none faults = absurd h
command_completes most long Gives Why old new (Refused refusal) h bytes is none faults = absurd (none refusal (refused_whole most long Why old new bytes refusal is h.0))
command_completes most long Gives Why old new ReadFault h bytes is none faults = absurd (rose_not old.input.faults new.input.faults h.0 faults.0)
command_completes most long Gives Why old new WriteFault h bytes is none faults = absurd (rose_not old.output.faults new.output.faults h.4.0 faults.1)
command_completes most long Gives Why old new NoMemory h bytes is none faults = inr (inr refl)

-- lines that have an answer are not refused
no_lock_refusal : (bytes shown_text : List ℕ) → IsLocksOf bytes shown_text → (refusal : Refusal) → RefusesLocks bytes refusal → ⊥
no_lock_refusal bytes shown_text is (BadLockLine n) h = absurd (cc)
no_lock_refusal bytes shown_text is (SourceFull name) h = absurd (cc)
no_lock_refusal bytes shown_text is refusal h = absurd h

locks_completes : (old new : Streams) (ending : Ending) → LocksEnded old new ending → Completes (Some Locks) old new (status_of ending)
locks_completes old new ending h = λ bytes shown_text is outcome faults.
    command_completes 16777216 LongLocks IsLocksOf RefusesLocks old new ending h bytes is (no_lock_refusal bytes shown_text outcome) faults

stats_completes : (old new : Streams) (ending : Ending) → StatsEnded old new ending → Completes (Some Stats) old new (status_of ending)
stats_completes old new ending h = λ bytes is m log read good faults.
    command_completes 268435456 LongInput IsStatsOf RefusesStats old new ending h bytes is (none_refused bytes m log read good) faults

-- the verdict that was written is on the bytes that the input is
judged_as : (old new : Streams) (bytes : List ℕ) (ending : Ending) (good : Bool) → IsInput 268435456 old bytes → (h : WroteVerdict old new ending) → h.2 ≡ good → IsJudged bytes h.1 good
judged_as old new bytes ending good is h e =
    subst (λ (b : Bool). IsJudged bytes h.1 b) e
    (subst (λ (bs : List ℕ). IsJudged bs h.1 h.2) (whole old.input.bytes new.input.bytes bytes h.0 is.0 h.3.taken h.3.at_end) h.4)

-- a machine with the text of a good log, or with another text
check_completes : (old new : Streams) (ending : Ending) → CheckEnded old new ending → Completes (Some Check) old new (status_of ending)
check_completes old new Done h = λ bytes is m few spells faults. (λ good. inl refl, λ bad. absurd (bad (good_log_text bytes h.1 m spells (judged_as old new bytes Done true is h h.5.0))))
check_completes old new Illegal h = λ bytes is m few spells faults. (λ good. absurd (bad_log_text bytes h.1 m spells (judged_as old new bytes Illegal false is h h.5.0) good), λ bad. inl refl)
check_completes old new Stuck h = λ bytes is m few spells faults. absurd h
check_completes old new NoForm h = λ bytes is m few spells faults. absurd h
check_completes old new (Refused refusal) h = λ bytes is m few spells faults.
    absurd (machine_stands bytes m few spells refusal (refused_whole 268435456 LongInput RefusesCheck old new bytes refusal is h.0))
check_completes old new ReadFault h = λ bytes is m few spells faults. absurd (rose_not old.input.faults new.input.faults h.0 faults.0)
check_completes old new WriteFault h = λ bytes is m few spells faults. absurd (rose_not old.output.faults new.output.faults h.5.0 faults.1)
check_completes old new NoMemory h = λ bytes is m few spells faults. (λ good. inr (inr refl), λ bad. inr (inr refl))

-- gen writes of no run that is stuck
gen_completes : (seed devices : ℕ) (old new : Stream) (ending : Ending) → GenEnded seed devices old new ending → NoFault old.faults new.faults → IsOneOf Done Done (status_of ending)
gen_completes seed devices old new Done h none = inl refl
gen_completes seed devices old new Stuck h none = absurd (true≢false (sym h.0))
gen_completes seed devices old new WriteFault h none = absurd (rose_not old.faults new.faults h.0 none)
gen_completes seed devices old new Illegal h none = absurd h
gen_completes seed devices old new NoForm h none = absurd h
gen_completes seed devices old new ReadFault h none = absurd h
gen_completes seed devices old new (Refused refusal) h none = absurd h
gen_completes seed devices old new NoMemory h none = inr (inr refl)

soak_completes : (seed devices : ℕ) (old new : Stream) (ending : Ending) → SoakEnded seed devices old new ending → NoFault old.faults new.faults → IsOneOf Done Stuck (status_of ending)
soak_completes seed devices old new Done h none = inl refl
soak_completes seed devices old new Stuck h none = inr (inl refl)
soak_completes seed devices old new WriteFault h none = absurd (rose_not old.faults new.faults h.3.0 none)
soak_completes seed devices old new Illegal h none = absurd h.3
soak_completes seed devices old new NoForm h none = absurd h.3
soak_completes seed devices old new ReadFault h none = absurd h.3
soak_completes seed devices old new (Refused refusal) h none = absurd h.3
soak_completes seed devices old new NoMemory h none = inr (inr refl)

idle_completes : (z : IdleSizes) (old new : Stream) (ending : Ending) → IdleEnded z old new ending → NoFault old.faults new.faults → IsOneOf Done Done (status_of ending)
idle_completes z old new Done h none = inl refl
idle_completes z old new Stuck h none = absurd (true≢false (sym h.2.0))
idle_completes z old new WriteFault h none = absurd (rose_not old.faults new.faults h.2.0 none)
idle_completes z old new Illegal h none = absurd h.2
idle_completes z old new NoForm h none = absurd h.2
idle_completes z old new ReadFault h none = absurd h.2
idle_completes z old new (Refused refusal) h none = absurd h.2
idle_completes z old new NoMemory h none = inr (inr refl)

refused_completes : (ending : Ending) → IsRefusal ending → IsOneOf NoForm NoForm (status_of ending)
refused_completes NoForm h = inl refl
refused_completes NoMemory h = inr (inr refl)
refused_completes Done h = absurd h
refused_completes Stuck h = absurd h
refused_completes Illegal h = absurd h
refused_completes ReadFault h = absurd h
refused_completes WriteFault h = absurd h
refused_completes (Refused refusal) h = absurd h

pub completes : (command : Option Command) (old new : Streams) (ending : Ending) → Ended command old new ending → Completes command old new (status_of ending)
completes None old new ending h = refused_completes ending h.0
completes (Some (Run workers)) old new ending h = run_completes workers old new ending h
completes (Some (Gen seed devices)) old new ending h = gen_completes seed devices old.output new.output ending h.1
completes (Some (Soak seed devices)) old new ending h = soak_completes seed devices old.output new.output ending h.1
completes (Some Check) old new ending h = check_completes old new ending h
completes (Some Locks) old new ending h = locks_completes old new ending h
completes (Some Stats) old new ending h = stats_completes old new ending h
completes (Some (Idle wakers events sessions workers)) old new ending h = idle_completes (record { wakers = wakers; events = events; sessions = sessions }) old.output new.output ending h.1
