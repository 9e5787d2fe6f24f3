-- The line of an entry from its pieces.
use Rattle.std.proofs.Common.{◌≡◌, ◌++◌, ℕ, ℤ, pos, List, [], codes, decimal, ap, subst, sym, append_assoc, lit<}
use Rattle.std.proofs.lemmas.Fmt.{decimal_digit}
use Rattle.sleep_model.specs.declared.entry.Entry.{Entry}
use Rattle.sleep_model.specs.declared.entry.Kind.TheVariants as kind
use Rattle.sleep_model.specs.declared.machine.Machine.{Machine}
use Rattle.sleep_model.specs.Text.{actor_text, body, device, entry_line, newline, space}
use Rattle.log_words.specs.Front.{front_text, maker_text}

joined_line : (front who gap entry_text end verb phase name behind : List ℕ) → entry_text ++ end ≡ verb ++ phase ++ name ++ behind →
    front ++ (who ++ gap) ++ verb ++ phase ++ name ++ behind ≡ front ++ who ++ gap ++ entry_text ++ end
joined_line front who gap entry_text end verb phase name behind is =
    let parts = simp append_assoc at is in
    simp append_assoc (ap (λ (t : List ℕ). front ++ (who ++ (gap ++ t))) (sym parts))

-- the front, who makes it, and the words round a device are the line
pub device_line : (m : Machine) (e : Entry) (d : ℕ) (front maker verb phase name behind : List ℕ) →
    front ≡ front_text e.time e.now → maker ≡ maker_text m e.actor → name ≡ device m d →
    body m e.kind ++ newline ≡ verb ++ phase ++ device m d ++ behind →
    front ++ maker ++ verb ++ phase ++ name ++ behind ≡ entry_line m e
device_line m e d front maker verb phase name behind f k n entry_text =
    rw (f, k, n) (joined_line (front_text e.time e.now) (actor_text m e.actor) space (body m e.kind) newline verb phase (device m d) behind entry_text)

zero_after : (name : List ℕ) → name ++ space ++ decimal 0 ++ newline ≡ name ++ (codes " 0" ++ newline)
zero_after name = rw (decimal_digit 0 (lit< tt)) (simp append_assoc)

-- the line of a device that answered 0 to its prepare
pub prepared_line : (m : Machine) (d : ℕ) (r : ℤ) (verb phase behind : List ℕ) → r ≡ pos 0 →
    verb ≡ codes "prepare " → phase ≡ [] → behind ≡ codes " 0" ++ newline →
    body m (kind.Prepare d r) ++ newline ≡ verb ++ phase ++ device m d ++ behind
prepared_line m d r verb phase behind zero v p b =
    let P : ℤ → Type 0 = λ n. body m (kind.Prepare d n) ++ newline ≡ verb ++ phase ++ device m d ++ behind in
    subst P (sym zero) (rw (v, p, b) (ap (λ (t : List ℕ). codes "prepare " ++ t) (zero_after (device m d))))
