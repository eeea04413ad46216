-- Writing event by event: what is put and the text of the events that are left make the whole.
use Prim.Native.Nat.{ℕ, ◌≤◌, ◌<◌}
use mathlib.Core.Path.{◌≡◌, refl, sym, ap, ◌∙◌}
use mathlib.Core.List.{List, [], ◌∷◌, ◌++◌, append_assoc, append-nil}
use types.Run.{OneOf}
use denote.Enum.Declared.{tag_of}
use lib.ListN.{length}
use Rattle.rules.specs.declared.Event.{Event}
use Rattle.rules.specs.declared.Event.TheVariants.{Give, Rank}
use Rattle.rules.specs.EventFile.{file_refusal, events_of, event, stepped}
use Rattle.rules.specs.Key.{bytes, decimal}
use Rattle.event_file.specs.declared.reader.Found.{Found}
use Rattle.event_file.specs.Answers.{shown_found}
use Rattle.event_file.specs.contracts.reader.Found.{the_type}
use Rattle.event_file.specs.Left.{Left}
use Rattle.event_file.proofs.Steps.{all_left, first, none_left}
use Rattle.text.specs.Put.{Put}
use Rattle.text.proofs.Puts.{put_none, ◌then◌, reading}
use Rattle.list_writer.specs.Writing.{event_words, text_of}

-- the buffer was `before`; the next event is read at `offset`, and its line goes to `at`
pub record Going (file before now : List ℕ) (at offset : ℕ) : Type 0 where
  pub events : List Event
  pub text : List ℕ
  pub put : Put before now 0 at text
  pub whole : text ++ text_of events ≡ text_of (events_of file)
  pub left : Left file offset events

-- before the first event
pub begin : (file before : List ℕ) → file_refusal file ≡ 0 → Going file before before 0 5
begin file before h =
    record { events = events_of file; text = []; put = put_none before 0; whole = refl; left = all_left file h }

module _ {file before now : List ℕ} {at offset : ℕ} (g : Going file before now at offset) where
  module _ {e : Event} {next : ℕ} (found : event e ≡ (stepped file offset).found) (moved : next ≡ (stepped file offset).offset) where
    -- the next event's line is put
    pub printed : {after : List ℕ} {to : ℕ} → Put now after at to (event_words e ++ bytes "\n") → Going file before after to next
    unfolding text_of
    printed p =
        let n = first g.left found moved in
        let line = event_words e ++ bytes "\n" in
        record {
          events = n.later;
          text = g.text ++ line;
          put = g.put then p;
          whole =
              append_assoc g.text line (text_of n.later)
              ∙ ap (λ (l : List Event). g.text ++ text_of l) (sym n.split)
              ∙ g.whole;
          left = n.left;
        }

    -- each event moves on, within the file
    pub further : (offset < next) × (next ≤ length file)
    further = let n = first g.left found moved in (n.further, n.left.inside)

  -- without an event all is put
  pub done : (f : Found) → OneOf (1 ∷ 2 ∷ []) (tag_of the_type f) → shown_found f ≡ (stepped file offset).found
      → Put before now 0 at (text_of (events_of file))
  unfolding text_of
  done f other found =
      let nothing_left = ap (λ (l : List Event). g.text ++ text_of l) (sym (none_left g.left f other found)) in
      reading (sym (append-nil g.text) ∙ nothing_left ∙ g.whole) g.put

-- numbers, each with what stands before it
pub give_in_parts : {t n priority quantum a b c d : ℕ} → a ≡ t → b ≡ n → c ≡ priority → d ≡ quantum
    → (bytes "give " ++ decimal a) ++ (bytes " " ++ decimal b) ++ (bytes " " ++ decimal c) ++ (bytes " " ++ decimal d)
    ≡ event_words (Give t n priority quantum)
unfolding event_words
give_in_parts e f g h = rw (e, f, g, h) (simp append_assoc)

pub rank_in_parts : {t priority a b : ℕ} → a ≡ t → b ≡ priority
    → (bytes "rank " ++ decimal a) ++ (bytes " " ++ decimal b) ≡ event_words (Rank t priority)
unfolding event_words
rank_in_parts e f = rw (e, f) (simp append_assoc)
