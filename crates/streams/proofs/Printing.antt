-- What was read and what was written, as the contract of a program says it.
use Rattle.std.proofs.Common.{ℕ, ◌≡◌, ◌≤◌, ◌<◌, List, length, take, sym, ap, ◌∙◌, subst, Option, Some, None, Result, Ok, Err}
use Rattle.std.proofs.Common.{length-take-le, rules}
use Rattle.std.specs.Io.KnownBytes.{Appends}
use Rattle.std.specs.Result.{IsErrAnd}
use Rattle.std.proofs.lemmas.List.{take-take}
use Rattle.std.proofs.KnownBytes.{Keeps-refl}
use denote.Ref.{Bor, MutBor}
use Rattle.streams.specs.declared.failure.ReadFailed.{ReadFailed}
use Rattle.streams.specs.declared.failure.WriteFailed.{WriteFailed}
use Rattle.streams.specs.declared.failure.Failure.{Failure}
use Rattle.streams.specs.declared.failure.Failure.TheVariants.{Read, Write}
use Rattle.streams.specs.Counts.{Filled, Sent, Reads}
use Rattle.streams.specs.Program.{IsFrontOf, Prints, Answers}

pub front : (input : Option (List ℕ)) (n : ℕ) (before after : List ℕ) → Filled (Ok n) before after → Reads (Ok n) input after
    → IsFrontOf input (length before) (take n after)
front (Some input) n before after filled reads = reads ∙ ap (λ k. take k input) filled.kept
front None n before after filled reads = tt

sent_whole : (n : ℕ) (text : List ℕ) → Sent (Ok n) text → n ≡ length text
sent_whole n text sent = search (rules, sent.whole, sent.within)

sent_part : (e : WriteFailed) (text : List ℕ) → Sent (Err e) text → e.written < length text
sent_part e text sent = search (rules, sent.whole)

module _ {B : Type 0} (bytes : B → List ℕ) (sheet : Bor (List ℕ) → MutBor B → ℕ → MutBor B → Type 0)
    (input : Option (List ℕ)) (buffer : List ℕ) where
  -- nothing read, and nothing sent
  pub unread : (held : Option (List ℕ)) (r : Result ℕ Failure) (e : ReadFailed) → IsErrAnd r (λ failure. failure ≡ Read e)
      → Answers bytes sheet input buffer held held r
  unread held (Ok n) e is = absurd is
  unread held (Err failure) e is = subst (λ f. Answers bytes sheet input buffer held held (Err f)) (sym is) (Keeps-refl held)

  module _ (old new : Option (List ℕ)) (file : Bor (List ℕ)) (out filled : MutBor B) (n : ℕ) (shown : List ℕ)
      (read : IsFrontOf input (length buffer) file.now) (written : sheet file out n filled) (within : n ≤ length (bytes filled.now))
      (same : shown ≡ bytes filled.now) where
    abbrev text : List ℕ
    text = bytes filled.now

    full : length (take n shown) ≡ n
    full = ap (λ l. length (take n l)) same ∙ length-take-le n text within

    kept : (m : ℕ) → m ≤ n → Appends old new (take m (take n shown)) → Appends old new (take m text)
    kept m less = subst (Appends old new) (ap (λ l. take m (take n l)) same ∙ take-take m n text less)

    -- what a sheet wrote, sent
    pub printed : (m : ℕ) → Sent (Ok m) (take n shown) → Appends old new (take m (take n shown))
        → Prints bytes sheet input (length buffer) old new m m
    printed m sent held =
        let all : m ≡ n = sent_whole m _ sent ∙ full in
        record {
          file = file;
          out = out;
          filled = filled;
          read = read;
          written = subst (λ k. sheet file out k filled) (sym all) written;
          held = kept m (search (rules, all)) held;
        }

    -- a part of it sent
    pub cut_off : (r : Result ℕ Failure) (e : WriteFailed) → IsErrAnd r (λ failure. failure ≡ Write e) → Sent (Err e) (take n shown)
        → Appends old new (take e.written (take n shown)) → Answers bytes sheet input buffer old new r
    cut_off (Ok m) e is sent held = absurd is
    cut_off (Err failure) e is sent held =
        let less : e.written < n = subst (λ k. e.written < k) full (sent_part e _ sent) in
        let part : Prints bytes sheet input (length buffer) old new n e.written = record {
          file = file;
          out = out;
          filled = filled;
          read = read;
          written = written;
          held = kept e.written (search (rules, less)) held;
        } in
        subst (λ f. Answers bytes sheet input buffer old new (Err f)) (sym is) (n, less, part)
