-- THE THEOREM of the buffer: the text of every file of bytes has room in 1 MiB, because an event's line has at most five bytes for each
-- byte of its record, and a file at most 65,536 bytes.
use Prim.Native.Nat.{ℕ, zero, suc, ◌+◌, ◌*◌, ◌≤◌}
use native.Mathlib.Omega.{arith}
use mathlib.Core.Path.{◌≡◌, refl, ap}
use mathlib.Core.Bool.{true}
use mathlib.Core.List.{List, [], ◌∷◌}
use lib.ListN.{length, length-append}
use Rattle.rules.specs.declared.Role.{Role}
use Rattle.rules.specs.declared.Role.TheVariants.{Client, Server}
use Rattle.rules.specs.declared.Event.{Event}
use Rattle.rules.specs.declared.Event.TheVariants.{Create, Give, Call, Reply, Block, Wake, Charge, Abort, Refill, Remove, Rank}
use Rattle.rules.specs.EventFile.{Bytes, fits, all_fit, record_of, records_of, file_refusal, events_of}
use Rattle.rules.specs.Key.{bytes}
use Rattle.rules.proofs.Basics.Views.{and_true_left, and_true_right}
use Rattle.rules.proofs.Bounds.{refusal_small}
use Rattle.rules.proofs.Files.Accepting.{accepted}
use Rattle.rules.proofs.Files.WrittenThenRead.{length-file_of}
use Rattle.rules.proofs.Files.Inverse.{events_fit, as_written}
use Rattle.text.proofs.DigitCounts.{three_long, five_long, file_line_length}
use Rattle.list_writer.specs.Writing.{role_word, event_words, text_of, text_after, file_text}
use Rattle.list_writer.proofs.Fitting.{small}

role_length : (r : Role) → length (role_word r) ≡ 6
unfolding bytes
role_length Client = refl
role_length Server = refl

-- an event's line
line_length : (e : Event) → fits e ≡ true → length (event_words e) + 1 ≤ 5 * length (record_of e)
unfolding event_words bytes
line_length (Create n r) h = simp length-append (omega (arith, three_long n (omega (arith, small (Create n r) h)), role_length r))
line_length (Give t n priority quantum) h =
    let x = small (Give t n priority quantum) h in
    simp length-append
    (omega (
      arith,
      three_long t (omega (arith, x)),
      three_long n (omega (arith, x)),
      three_long priority (omega (arith, x)),
      five_long quantum (omega (arith, x)),
    ))
line_length (Call n) h = simp length-append (omega (arith, three_long n (omega (arith, small (Call n) h))))
line_length Reply h = omega arith
line_length Block h = omega arith
line_length (Wake n) h = simp length-append (omega (arith, three_long n (omega (arith, small (Wake n) h))))
line_length (Charge units) h = simp length-append (omega (arith, five_long units (omega (arith, small (Charge units) h))))
line_length (Abort n) h = simp length-append (omega (arith, three_long n (omega (arith, small (Abort n) h))))
line_length (Refill t) h = simp length-append (omega (arith, three_long t (omega (arith, small (Refill t) h))))
line_length (Remove n) h = simp length-append (omega (arith, three_long n (omega (arith, small (Remove n) h))))
line_length (Rank t priority) h =
    let x = small (Rank t priority) h in
    simp length-append (omega (arith, three_long t (omega (arith, x)), three_long priority (omega (arith, x))))

pub text_length : (es : List Event) → all_fit es ≡ true → length (text_of es) ≤ 5 * length (records_of es)
unfolding text_of records_of all_fit bytes
text_length [] h = omega arith
text_length (e ∷ es) h =
    simp length-append
    (omega (arith, line_length e (and_true_left (fits e) (all_fit es) h), text_length es (and_true_right (fits e) (all_fit es) h)))

-- by what the file is refused for
fits_after : (n : ℕ) (file : List ℕ) → Bytes file → file_refusal file ≡ n → length (text_after n file) ≤ 1048576
fits_after zero file bytes h =
    omega (
      arith,
      text_length (events_of file) (events_fit file bytes),
      ap length (as_written file bytes h),
      length-file_of (events_of file),
      (accepted file h).head.small,
    )
fits_after (suc n) file bytes h = omega (arith, file_line_length (suc n) (omega (arith, refusal_small file)))

pub text_fits : (file : List ℕ) → Bytes file → length (file_text file) ≤ 1048576
unfolding file_text
text_fits file bytes = fits_after (file_refusal file) file bytes refl
