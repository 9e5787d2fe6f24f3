-- The pieces are the line.
use Rattle.std.proofs.Common.{◌≡◌, ◌++◌, ℕ, List, subst, refl}
use Rattle.log_words.specs.Front.{front_text}
use Rattle.log_words.proofs.DeviceLines.{device_line}
use Rattle.log_text.proofs.writing.line.spell_entry.Goals as goal

pub returns-in-Some-known_device-clause-text : goal.returns-in-Some-known_device-clause-text
returns-in-Some-known_device-clause-text c =
    let e = c.args.entry in
    let words = c.in-Some-device_words.words in
    let front : c.text.result.now ≡ front_text e.time e.now = rw (c.text.ensures, c.requires.time, c.requires.word) refl in
    subst (λ (line : List ℕ). c.put_line.new.self ≡ c.args.out.now ++ line)
    (device_line c.args.names.now e words.device c.text.result.now c.in-Some.maker.now words.verb words.phase c.in-Some-known_device.device.now words.ending
    front c.in-Some.ensures c.in-Some-known_device.ensures (c.in-Some-device_words.ensures c.args.names.now))
    c.put_line.ensures.text
