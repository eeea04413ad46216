-- A run that stops at the first event refused with the number: of the events gone none is.
use Prim.Native.Nat.{ℕ}
use Rattle.std.specs.Prelude.{Option, Some, None, is_some, unwrap_or}
use mathlib.Core.Path.{◌≡◌, refl, sym, ap, ◌∙◌, subst}
use mathlib.Core.List.{List, [], ◌∷◌, ◌++◌, append-nil}
use mathlib.Core.Bool.{Bool, true, false, not, ◌&&◌, ◌||◌}
use types.Run.{OneOf}
use denote.Enum.Declared.{tag_of}
use lib.Dec.{eqb}
use Rattle.rules.specs.declared.Event.{Event}
use Rattle.rules.specs.State.{State}
use Rattle.rules.specs.Events.{offer}
use Rattle.rules.specs.Lists.{after}
use Rattle.rules.specs.EventFile.{stepped}
use Rattle.rules.specs.Shorten.{refused_from}
use Rattle.rules.proofs.Basics.Views.{clash, or_true_left, or_true_right}
use Rattle.rules.proofs.Shortening.Refusing.{refused_append, refused_cons, none_refused}
use Rattle.event_file.specs.declared.reader.Found.{Found}
use Rattle.event_file.specs.Answers.{shown_found}
use Rattle.event_file.specs.contracts.reader.Found.{the_type}
use Rattle.dispatcher.specs.declared.Machine.{Machine}
use Rattle.dispatcher.specs.Promise.{Answered}
use Rattle.dispatcher.specs.Shown.{shown, sound_machine}
use Rattle.event_file.specs.Left.{events_at}
use Rattle.shorten_sheet.specs.Standing.{Stand}
use Rattle.shorten_sheet.specs.declared.ask.Asked.{Asked}
use Rattle.shorten_sheet.specs.Promises.{Asks, FirstAsked}
use Rattle.shorten_sheet.proofs.Standing.{none_stands}
use Rattle.shorten_sheet.proofs.Going.{Along, begin, Turn, Onward, onward}

pub record Asking (k : ℕ) (file : List ℕ) (from : ℕ) (s : State) (at : ℕ) (m : Machine) : Type 0 where
  pub along : Along file from s (events_at from file) at m
  pub quiet : refused_from k along.gone s ≡ false

pub asking : (k : ℕ) {file : List ℕ} {from : ℕ} (m : Machine) → Stand file from (events_at from file) → sound_machine m ≡ true
    → Asking k file from (shown m) from m
unfolding begin
asking k m x h = record { along = begin m x h; quiet = none_refused k (shown m) }

module _ {k : ℕ} {file : List ℕ} {from : ℕ} {s : State} {at : ℕ} {m : Machine} (a : Asking k file from s at m) where
  -- no event is left
  pub none_asked : (f : Found) → OneOf (1 ∷ 2 ∷ []) (tag_of the_type f) → shown_found f ≡ (stepped file at).found
      → Asks k (events_at from file) s from None
  none_asked f other found =
      let none = none_stands a.along.stands f other found in
      let all = a.along.all ∙ ap (λ (l : List Event). a.along.gone ++ l) none ∙ append-nil a.along.gone in
      record {
        found = sym (ap (λ (l : List Event). refused_from k l s) all ∙ a.quiet);
        first = λ a none. clash true refl (ap is_some (sym none));
      }

  -- an event is found and dispatched
  module _ {to : ℕ} {e : Event} {r : Answered} (t : Turn file at to m e r) where
    o : Onward file from s (events_at from file) a.along.gone at to e r
    o = onward a.along t

    abbrev there : State
    there = after a.along.gone s

    abbrev tested : Bool
    tested = not (eqb k 0) && eqb k r.refusal

    now_or_later : (es : List Event)
        → refused_from k (a.along.gone ++ (e ∷ es)) s
        ≡ (refused_from k a.along.gone s || (tested || refused_from k es (offer e there).state))
    now_or_later es =
        refused_append k a.along.gone (e ∷ es) s
        ∙ ap (λ (b : Bool). refused_from k a.along.gone s || b)
        (refused_cons k e es there
        ∙ ap (λ (n : ℕ). (not (eqb k 0) && eqb k n) || refused_from k es (offer e there).state) o.number)

    -- it is refused with the number
    pub asked_here : tested ≡ true → Asks k (events_at from file) s from (Some (record { at = at; to = to }))
    asked_here h =
        let refused : (es : List Event) → refused_from k (a.along.gone ++ (e ∷ es)) s ≡ true = λ es.
        now_or_later es ∙ or_true_right (refused_from k a.along.gone s) _ (or_true_left tested _ h) in
        record {
          found = sym (ap (λ (l : List Event). refused_from k l s) o.split ∙ refused o.later);
          first = λ b same.
              subst (λ (q : Option Asked). FirstAsked k (events_at from file) s from (unwrap_or q b)) same
              record {
                before = a.along.gone;
                event = e;
                behind = o.later;
                split = o.split;
                quiet = a.quiet;
                refused = refused [];
                begins = a.along.place;
                ends = o.ends;
              };
        }

    -- it is not
    pub asked_on : tested ≡ false → Asking k file from s to r.machine
    asked_on h =
        record {
          along = o.next;
          quiet =
              ap (λ (l : List Event). refused_from k l s) o.next_gone
              ∙ now_or_later []
              ∙ ap (λ (b : Bool). b || (tested || refused_from k [] (offer e there).state)) a.quiet
              ∙ ap (λ (b : Bool). b || refused_from k [] (offer e there).state) h
              ∙ none_refused k (offer e there).state;
        }
