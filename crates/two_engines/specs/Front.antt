-- A text at the front of a lent buffer.
use Rattle.std.specs.Prelude.{ℕ, ◌≡◌, List, ◌++◌, length, drop}

-- the buffer held `before` and holds `after`, of which the first n bytes are the text; every other byte stays
abbrev pub AtFront : List ℕ → List ℕ → List ℕ → ℕ → Type 0
AtFront text before after n = (n ≡ length text) × (after ≡ text ++ drop (length text) before)
