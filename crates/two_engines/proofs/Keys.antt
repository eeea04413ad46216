-- THE THEOREM of the bytes: what the two libraries write for a file is equal, line by line, but for the last column.
use Prim.Native.Nat.{ℕ}
use mathlib.Core.Path.{◌≡◌, sym, ap, ◌∙◌}
use mathlib.Core.List.{List}
use lib.ListN.{length, take, drop}
use lib.Seq.{take-append_seam}
use Rattle.rules.specs.EventFile.{Bytes, file_refusal}
use Rattle.rules.specs.Key.{key, plain_key, but_last}
use Rattle.rules.proofs.LastColumn.{plain_but_last}
use Rattle.two_engines.specs.Front.{AtFront}

-- the first n bytes are the text
front : (text before after : List ℕ) (n : ℕ) → AtFront text before after n → take n after ≡ text
front text before after n w =
    ap (λ (k : ℕ). take k after) w.0 ∙ ap (take (length text)) w.1 ∙ take-append_seam text (drop (length text) before)

pub agree : (file : List ℕ) → Bytes file → (before after before' after' : List ℕ) (n k : ℕ)
    → AtFront (key file) before after n → AtFront (plain_key file) before' after' k
    → take k after' ≡ but_last (file_refusal file) (take n after)
agree file narrow before after before' after' n k w z =
    front (plain_key file) before' after' k z
    ∙ plain_but_last file narrow
    ∙ ap (but_last (file_refusal file)) (sym (front (key file) before after n w))
