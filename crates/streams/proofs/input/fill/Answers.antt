-- What a read gave stands behind what was read before.
use Rattle.std.proofs.Common.{◌≡◌, ℕ, ◌+◌, ◌-◌, ◌≤◌, List, ◌++◌, rules, length, take, sym, ap, ◌∙◌, subst}
use Rattle.std.specs.Io.KnownBytes.{Consumes}
use Rattle.std.proofs.KnownBytes.{Consumes-trans}
use borrow.Rule.Slice.PartMut.{put_mid, post_of}
use lib.Seq.{take-append-add, take-append-le, length-take-le}
use Rattle.streams.proofs.input.fill.Goals as goal

-- the first at bytes of the buffer and then the first n of what was put behind them
joined : (at k n : ℕ) (xs ys : List ℕ) → at ≤ length xs → n ≤ length ys → take at xs ++ take n ys ≡ take (at + n) (put_mid at k xs ys)
joined at k n xs ys within fits =
    let front : length (take at xs) ≡ at = length-take-le at xs within in
    ap (λ l. take at xs ++ l) (sym (take-append-le n ys (post_of at k xs) fits))
    ∙ sym (take-append-add (take at xs) (ys ++ post_of at k xs) n)
    ∙ ap (λ m. take (m + n) (put_mid at k xs ys)) front

pub loop-at-preserved : goal.loop-at-preserved
loop-at-preserved g c =
    let room = length c.loop-at.buffer - c.loop-at.at in
    let read = joined c.loop-at.at room c.in-Ok.n c.loop-at.buffer c.read.new.buf c.loop-at.invariant.1 c.in-Ok.ensures.bound.0 in
    (search rules, search rules, subst (Consumes _ _) read (Consumes-trans _ _ _ _ _ c.loop-at.invariant.2 c.in-Ok.ensures.bytes.0))
