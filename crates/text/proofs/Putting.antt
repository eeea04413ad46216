-- A text put part by part: what is put and what is left to put make the whole.
use Prim.Native.Nat.{ℕ}
use mathlib.Core.Path.{◌≡◌, refl, sym, ap, ◌∙◌}
use mathlib.Core.List.{List, [], ◌++◌, append_assoc, append-nil}
use Rattle.text.specs.Put.{Put}
use Rattle.text.proofs.Puts.{put_none, ◌then◌, reading}

-- from the place `at` up to `to`
pub record Going (before now : List ℕ) (at to : ℕ) (left whole : List ℕ) : Type 0 where
  pub text : List ℕ
  pub put : Put before now at to text
  pub all : text ++ left ≡ whole

-- nothing yet
pub begin : (before : List ℕ) (at : ℕ) (whole : List ℕ) → Going before before at at whole whole
begin before at whole = record { text = []; put = put_none before at; all = refl }

module _ {before now : List ℕ} {at to : ℕ} {left whole : List ℕ} (g : Going before now at to left whole) where
  -- what is left in other words
  pub same_left : {other : List ℕ} → left ≡ other → Going before now at to other whole
  same_left e = record { text = g.text; put = g.put; all = ap (λ (l : List ℕ). g.text ++ l) (sym e) ∙ g.all }

  -- one part more
  pub more : {after : List ℕ} {next : ℕ} (part : List ℕ) {rest : List ℕ} → Put now after to next part → left ≡ part ++ rest
      → Going before after at next rest whole
  more part {rest} p e =
      record {
        text = g.text ++ part;
        put = g.put then p;
        all = append_assoc g.text part rest ∙ ap (λ (l : List ℕ). g.text ++ l) (sym e) ∙ g.all;
      }

  -- nothing is left
  pub done : left ≡ [] → Put before now at to whole
  done e = reading (sym (append-nil g.text) ∙ ap (λ (l : List ℕ). g.text ++ l) (sym e) ∙ g.all) g.put

  -- the last part
  pub finish : {after : List ℕ} {next : ℕ} {part : List ℕ} → Put now after to next part → left ≡ part → Put before after at next whole
  finish {part = part} p e = reading (ap (λ (l : List ℕ). g.text ++ l) (sym e) ∙ g.all) (g.put then p)
