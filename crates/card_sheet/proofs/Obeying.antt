-- What a command does, by its op.
use Prim.Native.Nat.{ℕ}
use mathlib.Core.Path.{◌≡◌, refl, sym, ap, ◌∙◌, subst}
use mathlib.Core.List.{List}
use mathlib.Core.Bool.{Bool}
use borrow.Author.Tests.{ne_eqb}
use Rattle.std.specs.Prelude.{Result, Ok, Err}
use Rattle.std.specs.Result.{result_unwrap_or}
use Rattle.rules.specs.declared.refusal.Refusal.{Refusal}
use Rattle.rules.specs.RefusalNumbers.{number_in, links_in}
use Rattle.event_file.specs.Left.{events_at}
use Rattle.dispatcher.specs.declared.Machine.{Machine}
use Rattle.dispatcher.specs.Promise.{Answered}
use Rattle.dispatcher.specs.Shown.{shown}
use Rattle.dispatcher.proofs.Stored.{sound_shown}
use Rattle.replay.specs.declared.Ran.{Ran}
use Rattle.replay.specs.Running.{Ready, RanOn}
use Rattle.bridge_card.specs.Card.{Reading, read, Changed, write, raise, Polled, poll_if, poll}
use Rattle.bridge_card.specs.Promises.{reading_of, poll_of, Polls}
use Rattle.bridge_card.proofs.Following.{polled_sound}
use Rattle.card_sheet.specs.declared.Command.{Command}
use Rattle.card_sheet.specs.Sheet.{Stand, Done, answered, after_read, after_change, after_poll, after_events, done}
use Rattle.card_sheet.specs.Promises.{stand_of, Obeys}

-- the cases of `done`
module _ (c : Command) (w : Stand) where
  reads_done : c.op ≡ 0 → done c w ≡ after_read (read w.block c.a) w
  unfolding done
  reads_done e = rw e refl

  writes_done : c.op ≡ 1 → done c w ≡ after_change (write w.block c.a c.b) w
  unfolding done
  writes_done e = rw e refl

  raises_done : c.op ≡ 2 → done c w ≡ after_change (raise w.block c.a) w
  unfolding done
  raises_done e = rw e refl

  polls_done : c.op ≡ 3 → done c w ≡ after_poll (poll w.block w.state) w
  unfolding done
  polls_done e = rw e refl

  runs_done : (c.op ≡ 0 → ⊥) → (c.op ≡ 1 → ⊥) → (c.op ≡ 2 → ⊥) → (c.op ≡ 3 → ⊥) → done c w ≡ after_events c.a w
  unfolding done
  runs_done no_read no_write no_raise no-poll =
      rw (ne_eqb c.op 0 no_read, ne_eqb c.op 1 no_write, ne_eqb c.op 2 no_raise, ne_eqb c.op 3 no-poll) refl

-- what is read, in numbers
in_numbers : (r : Result ℕ Refusal) → record { refusal = number_in r; byte = result_unwrap_or r 0 } ≡ reading_of r
in_numbers (Ok byte) = refl
in_numbers (Err refusal) = refl

module _ {file : List ℕ} {offset : ℕ} {m : Machine} (ready : Ready file offset m) (b : List ℕ) (c : Command) where
  abbrev here : Stand
  here = stand_of b file offset m

  -- an operation that leaves the machine and the events as they are
  module _ {answer : Result ℕ Refusal} (none : links_in answer ≡ 0) where
    stays : {after : List ℕ} {number byte : ℕ}
        → record { block = after; answer = answered number (shown m); events = events_at offset file; byte = byte } ≡ done c here
        → number_in answer ≡ number
        → Obeys (done c here) file after (record { machine = m; offset = offset; answer = answer; byte = byte })
    stays {after} {number} {byte} is said =
        subst (λ (z : Done). Obeys z file after (record { machine = m; offset = offset; answer = answer; byte = byte })) is
        (record { block = refl; state = refl; refusal = said; links = none; byte = refl; left = ready.left; sound = ready.sound })

    pub obeys_read : (r : Result ℕ Refusal) {byte : ℕ} → c.op ≡ 0 → reading_of r ≡ read b c.a → number_in answer ≡ number_in r
        → byte ≡ result_unwrap_or r 0
        → Obeys (done c here) file b (record { machine = m; offset = offset; answer = answer; byte = byte })
    obeys_read r e is said has =
        rw has
        (stays (ap (λ (z : Reading). after_read z here) (in_numbers r ∙ is) ∙ sym (reads_done c here e)) said)

    pub obeys_write : {after : List ℕ} {number : ℕ} → c.op ≡ 1 → record { refusal = number; block = after } ≡ write b c.a c.b
        → number_in answer ≡ number
        → Obeys (done c here) file after (record { machine = m; offset = offset; answer = answer; byte = 0 })
    obeys_write e is said = stays (ap (λ (z : Changed). after_change z here) is ∙ sym (writes_done c here e)) said

    pub obeys_raise : {after : List ℕ} {number : ℕ} → c.op ≡ 2 → record { refusal = number; block = after } ≡ raise b c.a
        → number_in answer ≡ number
        → Obeys (done c here) file after (record { machine = m; offset = offset; answer = answer; byte = 0 })
    obeys_raise e is said = stays (ap (λ (z : Changed). after_change z here) is ∙ sym (raises_done c here e)) said

  -- a sound machine's poll is the definitions'
  pub obeys_poll : {after : List ℕ} {r : Answered} {answer : Result ℕ Refusal} → c.op ≡ 3 → Polls b m after r
      → number_in answer ≡ r.refusal → links_in answer ≡ r.links
      → Obeys (done c here) file after (record { machine = r.machine; offset = offset; answer = answer; byte = 0 })
  obeys_poll {after} {r} {answer} e p said followed =
      let same : poll_of b m ≡ poll b (shown m) =
      ap (λ (q : Bool). poll_if q b (shown m)) (ready.sound ∙ sym (sound_shown m ready.sound)) in
      let is = ap (λ (z : Polled). after_poll z here) same ∙ sym (polls_done c here e) in
      subst (λ (z : Done). Obeys z file after (record { machine = r.machine; offset = offset; answer = answer; byte = 0 })) is
      (record {
        block = p.0;
        state = p.1.state;
        refusal = said ∙ p.1.refusal;
        links = followed ∙ p.1.links;
        byte = refl;
        left = ready.left;
        sound = polled_sound b after m r p ∙ ready.sound;
      })

  pub obeys_run : {r : Ran} → (c.op ≡ 0 → ⊥) → (c.op ≡ 1 → ⊥) → (c.op ≡ 2 → ⊥) → (c.op ≡ 3 → ⊥) → RanOn file offset m c.a r
      → Obeys (done c here) file b (record { machine = r.machine; offset = r.offset; answer = Ok r.links; byte = 0 })
  obeys_run {r} no_read no_write no_raise no-poll x =
      subst (λ (z : Done). Obeys z file b (record { machine = r.machine; offset = r.offset; answer = Ok r.links; byte = 0 }))
      (sym (runs_done c here no_read no_write no_raise no-poll))
      (record { block = refl; state = x.state; refusal = refl; links = x.links; byte = refl; left = x.left; sound = x.sound })
