-- A text of up to 16 bytes is in the first part of its room; a longer one is in both.
use Rattle.std.proofs.Common.{◌≡◌, ◌∙◌, ◌+◌, ◌++◌, ◌-◌, ◌≤◌, ℕ, List, length, take, drop, sym, ap, ap₂, append_assoc, arith}
use Rattle.log_words.proofs.Buffering.{of_both, of_head, of_less}
use Rattle.log_words.proofs.short.ShortText.put_after.Goals as goal

pub returns-then-len-le16-clause-text : goal.returns-then-len-le16-clause-text
returns-then-len-le16-clause-text c =
    let room : List ℕ = c.self.inside.room in
    let len : ℕ = c.self.inside.len in
    let within : 16 ≤ length room = omega (arith, c.self.told) in
    let few : len ≤ 16 = omega (arith, c.if-len-le16.true) in
    let used : c.args.used ≤ length c.args.buffer.now = omega (arith, c.requires) in
    let written : take (c.args.used + 16) c.copy_room-end.new.buffer ≡ take c.args.used c.args.buffer.now ++ take 16 (take 16 room) =
    ap (λ (n : ℕ). take n c.copy_room-end.new.buffer) (sym c.copy_room-end.ensures.end) ∙ (c.copy_room-end.ensures.text ∙ ap (λ (t : List ℕ). take c.args.used c.args.buffer.now ++ take 16 t) c.split_room.ensures.head) in
    of_less c.args.buffer.now c.copy_room-end.new.buffer (take 16 room) c.args.used 16 len used few written
    ∙ ap (λ (t : List ℕ). take c.args.used c.args.buffer.now ++ t) (of_head room len 16 within few ∙ c.self.view_is)

pub returns-clause-text : goal.returns-clause-text
returns-clause-text c =
    let room : List ℕ = c.self.inside.room in
    let before : List ℕ = take c.args.used c.args.buffer.now in
    let within : 16 ≤ length room = omega (arith, c.self.told) in
    let more : 16 ≤ c.self.inside.len = omega (arith, c.if-len-le16.false) in
    let head : take c.copy_room-end.result c.copy_room-end.new.buffer ≡ before ++ take 16 (take 16 room) =
    c.copy_room-end.ensures.text ∙ ap (λ (t : List ℕ). before ++ take 16 t) c.split_room.ensures.head in
    c.copy_room.ensures.text
    ∙ (ap₂ (λ (s t : List ℕ). s ++ t) head (ap (take (c.self.inside.len - 16)) c.split_room.ensures.tail)
    ∙ (append_assoc before (take 16 (take 16 room)) (take (c.self.inside.len - 16) (drop 16 room))
    ∙ ap (λ (t : List ℕ). before ++ t) (of_both room c.self.inside.len 16 within more ∙ c.self.view_is)))
