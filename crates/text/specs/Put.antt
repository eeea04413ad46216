-- Text put into a lent buffer. What has no room is cut off.
use Rattle.std.specs.Prelude.{ℕ, ◌+◌, ◌-◌, ◌≡◌, List, ◌++◌, length, take, drop}

-- as much of a text as has room from a place on: nothing where the place is past the end
abbrev pub fitting : List ℕ → ℕ → List ℕ → List ℕ
fitting buffer at text = take (length buffer - at) text

-- `after` is `before` with that much of `text` written from `at` up to `to`, and every other byte as it was
pub record Put (before after : List ℕ) (at to : ℕ) (text : List ℕ) : Type 0 where
  pub bytes : after ≡ take at before ++ fitting before at text ++ drop to before
  pub end : to ≡ at + length (fitting before at text)
