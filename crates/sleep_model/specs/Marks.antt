-- Marks, by which tasks wait for one another (own).
use Rattle.std.specs.Prelude.{ℕ, ◌+◌, ◌-◌, List, [], ◌∷◌, replicate, slice_set, slice_index_or}
use Rattle.sleep_model.specs.declared.entry.Entry.{Entry}
use Rattle.sleep_model.specs.declared.entry.Kind.{Kind}
use Rattle.sleep_model.specs.declared.entry.Kind.TheVariants.{Post, Got}

-- a mark's number among others (own)
abbrev pub mark_at : List ℕ → ℕ → ℕ
mark_at marks mark = slice_index_or marks mark 0

-- the marks' numbers after an entry: a post raises one, a wait that ends lowers it (own)
abbrev pub marks_after : Kind → List ℕ → List ℕ
marks_after (Post mark) before = slice_set before mark (mark_at before mark + 1)
marks_after (Got mark) before = slice_set before mark (mark_at before mark - 1)
marks_after _ before = before

-- how often each of n marks was raised and not yet taken (own)
abbrev pub raised : ℕ → List Entry → List ℕ
raised n [] = replicate n 0
raised n (e ∷ past) = marks_after e.kind (raised n past)
