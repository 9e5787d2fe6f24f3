-- What an ending says, in its pieces.
use Rattle.std.proofs.Common.{◌≡◌, ◌++◌, ◌∙◌, ℕ, List, [], refl, sym, ap, append_assoc}
use Rattle.std.proofs.lemmas.List.{append-nil}
use Rattle.std.specs.Prelude.{◌∷◌, codes, decimal, string_bytes}
use Rattle.program_ending.specs.declared.ending.Ending.{Ending}
use Rattle.program_ending.specs.declared.ending.Ending.TheVariants.{Done, Stuck, Illegal, NoForm, ReadFault, WriteFault, Refused, NoMemory}
use Rattle.program_ending.specs.declared.refusal.Refusal.TheVariants.{LongMachine, Broken, SourceFull, LongInput, BadLine, TooManyLinks, LinkCycle, LongLocks, BadLockLine}
use Rattle.program_ending.specs.Endings.{text_of, head_of, number_of, colon_of, name_of, tail_of}

-- a line of words only
plain : (bs : List ℕ) → ((bs ++ []) ++ []) ++ ([] ++ 10 ∷ []) ≡ bs ++ 10 ∷ []
plain bs = ap (λ (xs : List ℕ). xs ++ 10 ∷ []) (append-nil (bs ++ []) ∙ append-nil bs)

-- an ending says its text in its pieces
pub text_parts : (ending : Ending) → ((head_of ending ++ number_of ending) ++ colon_of ending) ++ (name_of ending ++ tail_of ending) ≡ text_of ending
text_parts (Refused (Broken rule place)) = sym (append_assoc ((codes "machine: rule " ++ decimal rule) ++ codes ": ") (string_bytes place) (10 ∷ []))
text_parts (Refused (SourceFull name)) = ap (λ bs. bs ++ (name ++ 10 ∷ [])) (append-nil (codes "source full: " ++ []) ∙ append-nil (codes "source full: ")) ∙ sym (append_assoc (codes "source full: ") name (10 ∷ []))
text_parts (Refused (BadLine n)) = ap (λ bs. bs ++ 10 ∷ []) (append-nil (codes "log: line " ++ decimal n))
text_parts (Refused LongMachine) = plain (codes "machine: longer than 16777216 bytes")
text_parts (Refused LongInput) = plain (codes "input: longer than 268435456 bytes")
text_parts (Refused TooManyLinks) = plain (codes "log: links")
text_parts (Refused LinkCycle) = plain (codes "log: cycle")
text_parts (Refused LongLocks) = plain (codes "locks: longer than 16777216 bytes")
text_parts (Refused (BadLockLine n)) = ap (λ bs. bs ++ 10 ∷ []) (append-nil (codes "locks: line " ++ decimal n))
text_parts Done = refl
text_parts Stuck = refl
text_parts Illegal = refl
text_parts NoForm = append-nil _ ∙ (append-nil _ ∙ append-nil _)
text_parts ReadFault = append-nil _ ∙ (append-nil _ ∙ append-nil _)
text_parts WriteFault = append-nil _ ∙ (append-nil _ ∙ append-nil _)
text_parts NoMemory = append-nil _ ∙ (append-nil _ ∙ append-nil _)
