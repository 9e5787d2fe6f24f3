-- What the turns of jobs come to.
use Rattle.std.specs.Prelude.{◌≡◌, ◌<◌, ◌≤◌, ◌+◌, ◌*◌, ◌/◌, ◌%◌, min, ℕ, Bool, true, false, List, [], ◌∷◌, ◌++◌, length, take, drop, ◌⊎◌}
use Rattle.sleep_pool.specs.declared.turns.Turn.{Turn}
use Rattle.sleep_pool.specs.declared.turns.Turn.TheVariants.{Did, NotYet, Done, Stop}

-- one if the turn did something
abbrev pub did : Turn → ℕ
did Did = 1
did NotYet = 0
did Done = 0
did Stop = 0

-- how many turns did something
abbrev pub did_in : List Turn → ℕ
did_in [] = 0
did_in (turn ∷ turns) = did turn + did_in turns

-- no turn is a Stop, but the last if it may be one
abbrev pub goes_on : Bool → List Turn → Bool
goes_on stop [] = true
goes_on stop (Stop ∷ []) = stop
goes_on stop (Stop ∷ turn ∷ turns) = false
goes_on stop (Did ∷ turns) = goes_on stop turns
goes_on stop (NotYet ∷ turns) = goes_on stop turns
goes_on stop (Done ∷ turns) = goes_on stop turns

-- the last of these turns did nothing
abbrev pub IsIdleAtLast : List Turn → Type 0
IsIdleAtLast turns = (before : List Turn) × (last : Turn) × (turns ≡ before ++ last ∷ []) × (did last ≡ 0)

-- the last of these turns is a Stop
abbrev pub StopsAtLast : List Turn → Type 0
StopsAtLast turns = (before : List Turn) × (turns ≡ before ++ Stop ∷ [])

-- the length of the parts of a number of jobs, for a number of workers: all are equal, but the last may be shorter
abbrev pub part_size : ℕ → ℕ → ℕ
part_size jobs workers = jobs / workers + min 1 (jobs % workers)

-- a job's turns, at most n: the job is in their relation to what it was, has used up as many as they are, and none is a Stop but the last
-- if it may be one
abbrev pub Went : {J : Type 0} → (J → List Turn → J → Type 0) → (J → ℕ) → Bool → ℕ → J → List Turn → J → Type 0
Went made left stop most old turns new = made old turns new × (left old ≡ left new + length turns) × (goes_on stop turns ≡ true) × (length turns ≤ most)

-- each job went by turns of its own, and n of all these turns did something
abbrev pub AllWent : {J : Type 0} → (J → List Turn → J → Type 0) → List J → List J → ℕ → Type 0
AllWent R [] [] count = count ≡ 0
AllWent R [] (new ∷ news) count = ⊥
AllWent R (old ∷ olds) [] count = ⊥
AllWent R (old ∷ olds) (new ∷ news) count = (turns : List Turn) × (rest : ℕ) × R old turns new × AllWent R olds news rest × (count ≡ did_in turns + rest)

-- the first job, if there is one, has fewer turns left
abbrev pub FirstWent : {J : Type 0} → (J → ℕ) → List J → List J → Type 0
FirstWent left [] news = Unit {0}
FirstWent left (old ∷ olds) [] = ⊥
FirstWent left (old ∷ olds) (new ∷ news) = left new < left old

-- the first job of each part of that size has fewer turns left
abbrev pub FirstsWent : {J : Type 0} → (J → ℕ) → ℕ → List J → List J → Type 0
FirstsWent left size olds news = (part : ℕ) → FirstWent left (drop (part * size) olds) (drop (part * size) news)

-- a job's turns are just n, and none is a Stop
abbrev pub WentOn : {J : Type 0} → (J → List Turn → J → Type 0) → (J → ℕ) → ℕ → J → List Turn → J → Type 0
WentOn made left most old turns new = Went made left false most old turns new × (length turns ≡ most)

-- a job's turns are just n, none is a Stop, and the last did nothing
abbrev pub WentIdle : {J : Type 0} → (J → List Turn → J → Type 0) → (J → ℕ) → ℕ → J → List Turn → J → Type 0
WentIdle made left most old turns new = WentOn made left most old turns new × IsIdleAtLast turns

-- a job's turns are just n, and the last is a Stop
abbrev pub WentToStop : {J : Type 0} → (J → List Turn → J → Type 0) → (J → ℕ) → ℕ → J → List Turn → J → Type 0
WentToStop made left most old turns new = Went made left true most old turns new × (length turns ≡ most) × StopsAtLast turns

-- n rounds were made, and one that a job's Stop cut short: those before it had a turn more than those after it
abbrev pub CutShort : {J : Type 0} → (J → List Turn → J → Type 0) → (J → ℕ) → ℕ → List J → List J → Type 0
CutShort made left rounds [] news = ⊥
CutShort made left rounds (old ∷ olds) [] = ⊥
CutShort made left rounds (old ∷ olds) (new ∷ news) =
    ((turns : List Turn) × (count : ℕ) × WentToStop made left (1 + rounds) old turns new × AllWent (WentOn made left rounds) olds news count)
    ⊎ ((turns : List Turn) × WentOn made left (1 + rounds) old turns new × CutShort made left rounds olds news)

-- why a worker ended: that many rounds were made, or fewer, of which the last did nothing, or one was cut short
abbrev pub Ended : {J : Type 0} → (J → List Turn → J → Type 0) → (J → ℕ) → ℕ → List J → List J → Type 0
Ended made left most olds news =
    ((count : ℕ) × AllWent (WentOn made left most) olds news count)
    ⊎ ((rounds : ℕ) × (count : ℕ) × (rounds ≤ most) × AllWent (WentIdle made left rounds) olds news count)
    ⊎ ((rounds : ℕ) × (rounds < most) × CutShort made left rounds olds news)

-- each part of that size ended
abbrev pub PartsEnded : {J : Type 0} → (J → List Turn → J → Type 0) → (J → ℕ) → ℕ → ℕ → List J → List J → Type 0
PartsEnded made left most size olds news =
    (part : ℕ) → Ended made left most (take size (drop (part * size) olds)) (take size (drop (part * size) news))

-- what holds of the jobs of each part of that size
abbrev pub OfParts : {J : Type 0} → (List J → List J → Type 0) → ℕ → List J → List J → Type 0
OfParts P size olds news = (part : ℕ) → P (take size (drop (part * size) olds)) (take size (drop (part * size) news))

module _ {J : Type 0} (made : J → List Turn → J → Type 0) (left : J → ℕ) where
  -- a worker goes round its jobs, each of which has one turn a round, n rounds at most: a round in which nothing was done is the last, and
  -- so is one that a Stop cuts short
  pub data GoesRound : ℕ → List J → List J → Type 0 where
    NoneLeft : (most : ℕ) (olds : List J) → most ≡ 0 → GoesRound most olds olds
    CutOff : (most : ℕ) (olds news : List J) → 0 < most → CutShort made left 0 olds news → GoesRound most olds news
    DidNothing : (most : ℕ) (olds news : List J) → 0 < most → AllWent (WentOn made left 1) olds news 0 → GoesRound most olds news
    GoesOn : (most rest count : ℕ) (olds mids news : List J) → most ≡ 1 + rest → 0 < count → AllWent (WentOn made left 1) olds mids count
        → GoesRound rest mids news → GoesRound most olds news
