-- A run's hard events and journal are in turn, by what each waker made and saw.
use Rattle.std.proofs.Common.{◌≡◌, ◌∙◌, ℕ, suc, ◌+◌, ◌<◌, ◌≤◌, ◌==◌, ◌++◌, Bool, true, false, if◌then◌else◌, List, [], ◌∷◌, length, refl, ap, subst, length-append, arith}
use Rattle.idle_loop.specs.declared.entry.IdleKind.{IdleKind}
use Rattle.idle_loop.specs.declared.entry.IdleKind.TheVariants.{Hard, Begin, Wake, TryOk, TryBusy, Leave}
use Rattle.idle_loop.specs.declared.entry.IdleEntry.{IdleEntry}
use Rattle.idle_loop.specs.declared.entry.IdleSizes.{IdleSizes}
use Rattle.idle_loop.specs.IdleLogs.{is_wake, wakes_of}
use Rattle.idle_loop.specs.Merging.{made_by, MayEnter, IsJournal, SawLeast, SawMost, HardsInTurn, WakesInTurn}
use Rattle.idle_loop.specs.Makers.{Alternate, AllBelow, ranks, IsMaker}
use Rattle.idle_loop.specs.Turns.{seen_after, seen_by}
use Rattle.idle_loop.proofs.Alternate.{AllMore, AllMost, places_less, split, split_at, cut_at_step, cut_at_look, taken_if}

-- ---- how many

made_if : (b : Bool) (n x : ℕ) (ps : List ℕ) → n ≡ length ps → n + (if b then 1 else 0) ≡ length (if b then x ∷ ps else ps)
made_if true n x ps is = omega (arith, is)
made_if false n x ps is = omega (arith, is)

pub made_is : (who : ℕ) (ms : List ℕ) → made_by who ms ≡ length (ranks who ms)
made_is who [] = refl
made_is who (m ∷ ms) = made_if (m == who) (made_by who ms) (length ms) (ranks who ms) (made_is who ms)

woke_if : (b : Bool) (what : IdleKind) (hard n : ℕ) (seen : List ℕ) → length seen ≡ n → length (if b then seen_after what hard seen else seen) ≡ n + (if b then is_wake what else 0)
woke_if true Hard hard n seen is = omega (arith, is)
woke_if true Begin hard n seen is = omega (arith, is)
woke_if true Wake hard n seen is = omega (arith, is)
woke_if true TryOk hard n seen is = omega (arith, is)
woke_if true TryBusy hard n seen is = omega (arith, is)
woke_if true Leave hard n seen is = omega (arith, is)
woke_if false what hard n seen is = omega (arith, is)

pub woke_is : (who : ℕ) (journal : List IdleEntry) → length (seen_by who journal) ≡ wakes_of who journal
woke_is who [] = refl
woke_is who (e ∷ journal) = woke_if (e.who == who) e.what e.hard (wakes_of who journal) (seen_by who journal) (woke_is who journal)

-- ---- halves of a journal

both_if : (b : Bool) (what : IdleKind) (hard : ℕ) (xs ys zs : List ℕ) → zs ≡ xs ++ ys → (if b then seen_after what hard zs else zs) ≡ (if b then seen_after what hard xs else xs) ++ ys
both_if true Hard hard xs ys zs is = is
both_if true Begin hard xs ys zs is = is
both_if true Wake hard xs ys zs is = ap (λ (l : List ℕ). hard ∷ l) is
both_if true TryOk hard xs ys zs is = is
both_if true TryBusy hard xs ys zs is = is
both_if true Leave hard xs ys zs is = is
both_if false what hard xs ys zs is = is

pub seen_both : (who : ℕ) (newer older : List IdleEntry) → seen_by who (newer ++ older) ≡ seen_by who newer ++ seen_by who older
seen_both who [] older = refl
seen_both who (e ∷ newer) older = both_if (e.who == who) e.what e.hard (seen_by who newer) (seen_by who older) (seen_by who (newer ++ older)) (seen_both who newer older)

more_if : (b : Bool) (what : IdleKind) (hard c : ℕ) (seen : List ℕ) → c < hard → AllMore c seen → AllMore c (if b then seen_after what hard seen else seen)
more_if true Hard hard c seen low all = all
more_if true Begin hard c seen low all = all
more_if true Wake hard c seen low all = (low, all)
more_if true TryOk hard c seen low all = all
more_if true TryBusy hard c seen low all = all
more_if true Leave hard c seen low all = all
more_if false what hard c seen low all = all

seen_least : (who c : ℕ) (journal : List IdleEntry) → SawLeast (c + 1) journal → AllMore c (seen_by who journal)
seen_least who c [] saw = tt
seen_least who c (e ∷ journal) saw = let low : c + 1 ≤ e.hard = saw.0 in more_if (e.who == who) e.what e.hard c (seen_by who journal) (omega arith) (seen_least who c journal saw.1)

most_if : (b : Bool) (what : IdleKind) (hard c : ℕ) (seen : List ℕ) → hard ≤ c → AllMost c seen → AllMost c (if b then seen_after what hard seen else seen)
most_if true Hard hard c seen low all = all
most_if true Begin hard c seen low all = all
most_if true Wake hard c seen low all = (low, all)
most_if true TryOk hard c seen low all = all
most_if true TryBusy hard c seen low all = all
most_if true Leave hard c seen low all = all
most_if false what hard c seen low all = all

seen_most : (who c : ℕ) (journal : List IdleEntry) → SawMost c journal → AllMost c (seen_by who journal)
seen_most who c [] saw = tt
seen_most who c (e ∷ journal) saw = most_if (e.who == who) e.what e.hard c (seen_by who journal) saw.0 (seen_most who c journal saw.1)

-- ---- the premises

below_at : (n who : ℕ) (later before : List ℕ) → AllBelow n (later ++ who ∷ before) → who < n
below_at n who [] before all = all.0
below_at n who (m ∷ later) before all = below_at n who later before all.1

pub hards_in_turn : (z : IdleSizes) (makers : List ℕ) (journal : List IdleEntry) → AllBelow z.wakers makers → ((who : ℕ) → who < z.wakers → IsMaker z makers journal who) → HardsInTurn z makers journal
hards_in_turn z makers journal all each later before who newer older cut roles least most =
    let low : who < z.wakers = below_at z.wakers who later before (subst (AllBelow z.wakers) cut all) in
    let m = each who low in
    let s = split_at who later before in
    let at : ranks who makers ≡ s.0 ++ length before ∷ ranks who before = ap (ranks who) cut ∙ s.1 in
    let saw : seen_by who journal ≡ seen_by who newer ++ seen_by who older = ap (seen_by who) roles ∙ seen_both who newer older in
    let turns : Alternate m.owes m.floor (s.0 ++ length before ∷ ranks who before) (seen_by who newer ++ seen_by who older) =
    subst (λ (l : List ℕ). Alternate m.owes m.floor (s.0 ++ length before ∷ ranks who before) l) saw (subst (λ (l : List ℕ). Alternate m.owes m.floor l (seen_by who journal)) at m.turns) in
    let same : length (ranks who before) ≡ length (seen_by who older) = cut_at_step m.owes m.floor (length before) s.0 (ranks who before) (seen_by who newer) (seen_by who older) turns s.2
    (seen_least who (length before) newer least) (seen_most who (length before) older most) in
    let made : made_by who before ≡ length (ranks who before) = made_is who before in
    let long : length (ranks who makers) ≡ length s.0 + suc (length (ranks who before)) = ap length at ∙ length-append s.0 (length before ∷ ranks who before) in
    let few : length (ranks who makers) ≤ z.events = m.few in
    (low, made ∙ (same ∙ woke_is who older), omega arith)

entered : (z : IdleSizes) (newer older : List IdleEntry) (e : IdleEntry) → IsJournal z (newer ++ e ∷ older) → MayEnter z older e.hard e.who e.what
entered z [] older e is = is.0
entered z (f ∷ newer) older e is = entered z newer older e is.1

seen_wake : (e : IdleEntry) (older : List IdleEntry) → e.what ≡ Wake → seen_by e.who (e ∷ older) ≡ e.hard ∷ seen_by e.who older
seen_wake e older what = taken_if e.who e.who (seen_after e.what e.hard (seen_by e.who older)) (seen_by e.who older) refl ∙ ap (λ (k : IdleKind). seen_after k e.hard (seen_by e.who older)) what

pub wakes_in_turn : (z : IdleSizes) (makers : List ℕ) (journal : List IdleEntry) → IsJournal z journal → ((who : ℕ) → who < z.wakers → IsMaker z makers journal who) → WakesInTurn makers journal
wakes_in_turn z makers journal legal each later before e newer older cut roles at what =
    let who = e.who in
    let c = length before in
    let low : who < z.wakers = subst (λ (k : IdleKind). MayEnter z older e.hard who k) what (entered z newer older e (subst (IsJournal z) roles legal)) in
    let m = each who low in
    let s = split who later before in
    let made : ranks who makers ≡ s.newer ++ ranks who before = ap (ranks who) cut ∙ s.is in
    let saw : seen_by who journal ≡ seen_by who newer ++ c ∷ seen_by who older =
    ap (seen_by who) roles ∙ (seen_both who newer (e ∷ older) ∙ ap (λ (l : List ℕ). seen_by who newer ++ l) (seen_wake e older what ∙ ap (λ (n : ℕ). n ∷ seen_by who older) at)) in
    let turns : Alternate m.owes m.floor (s.newer ++ ranks who before) (seen_by who newer ++ c ∷ seen_by who older) =
    subst (λ (l : List ℕ). Alternate m.owes m.floor (s.newer ++ ranks who before) l) saw (subst (λ (l : List ℕ). Alternate m.owes m.floor l (seen_by who journal)) made m.turns) in
    let one : length (ranks who before) ≡ length (seen_by who older) + 1 = cut_at_look m.owes m.floor c s.newer (ranks who before) (seen_by who newer) (seen_by who older) turns s.least (places_less who before) in
    made_is who before ∙ (one ∙ ap (λ (n : ℕ). n + 1) (woke_is who older))
