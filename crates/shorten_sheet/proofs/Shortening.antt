-- Round after round: what the rounds to come leave is the same, since what a round cuts off its pass would leave out, and it does not
-- matter whether a pass has been made. A pass that leaves as many bytes as there were leaves out none.
use Prim.Native.Nat.{ℕ, ◌+◌, ◌≤◌}
use native.Mathlib.Omega.{arith}
use Rattle.std.specs.Prelude.{Option, Some, is_some}
use mathlib.Core.Path.{◌≡◌, refl, sym, ap, ap₂, ◌∙◌, subst}
use mathlib.Core.List.{List, [], ◌∷◌, ◌++◌, reverse, reverse-reverse}
use mathlib.Core.Bool.{true, false}
use lib.ListN.{length, take, drop, length-append, length-drop}
use lib.Seq.{append_snoc, take-take, take_at, take-length, length-take-le}
use Rattle.rules.specs.declared.Event.{Event}
use Rattle.rules.specs.EventFile.{record_of, records_of}
use Rattle.rules.specs.State.{State, empty}
use Rattle.rules.specs.Shorten.{refused_from, refused_in, pass, shortened}
use Rattle.rules.proofs.Files.Appending.{records_of_one}
use Rattle.rules.proofs.Shortening.Passing.{Passed, whole, fewer, passed, pass_part, pass_refused}
use Rattle.rules.proofs.Shortening.Repeating.{again as pass-again, cut_off, last_pass}
use Rattle.rules.proofs.Shortening.Shorter.{part_records}
use Rattle.dispatcher.specs.declared.Machine.{Machine}
use Rattle.dispatcher.specs.Shown.{shown, empty_machine}
use Rattle.dispatcher.proofs.Runs.{shows_empty}
use Rattle.event_file.specs.Left.{events_at}
use Rattle.shorten_sheet.specs.Standing.{Stand, Apart}
use Rattle.shorten_sheet.specs.Promises.{Asks, FirstAsked, Keeps, Rests, tried_from}
use Rattle.shorten_sheet.specs.declared.ask.Asked.{Asked}
use Rattle.shorten_sheet.proofs.Standing.{events_at_lem, stand_read, stand_size, stand_front, stand_rear, cut_within}
use Rattle.shorten_sheet.proofs.Tries.{from_start, refused_stays}

pub record Round (k : ℕ) (before now : List ℕ) (from to : ℕ) (goal : List Event) : Type 0 where
  pub events : List Event
  pub size : length now ≡ length before
  pub within : to ≤ length now
  pub stands : Stand (take to now) from events
  pub asked : refused_in k events ≡ true
  pub same : shortened k events ≡ goal

-- nothing of the file is left out yet
pub all_events : {k : ℕ} {file : List ℕ} → Stand file 5 (events_at 5 file) → refused_in k (events_at 5 file) ≡ true
    → Round k file file 5 (length file) (shortened k (events_at 5 file))
all_events {k} {file} x h =
    record {
      events = events_at 5 file;
      size = refl;
      within = omega arith;
      stands = subst (λ (l : List ℕ). Stand l 5 (events_at 5 file)) (sym (take-length file)) x;
      asked = h;
      same = refl;
    }

-- what a round leaves in the buffer, now `next`: there is another round, or, where nothing was left out, what is left is the goal
pub record Done (k : ℕ) (before : List ℕ) (from to : ℕ) (goal : List Event) (r : Asked) (next : List ℕ) (place : ℕ) : Type 0 where
  pub size : length next ≡ length before
  pub cut : r.to ≤ to
  pub inside : place ≤ r.to
  pub again : Round k before next place r.to goal
  pub last : place ≤ from → Rests before next (record { from = from; to = r.to }) goal

module _ {k : ℕ} {before now : List ℕ} {from to : ℕ} {goal : List Event} (t : Round k before now from to goal) where
  pub round_read : Stand (take to now) from (events_at from (take to now))
  round_read = stand_read t.stands

  -- the first event refused with the number
  module _ {m : Machine} (begins : m ≡ empty_machine) {o : Option Asked} (x : Asks k (events_at from (take to now)) (shown m) from o) where
    from_empty : (es : List Event) → refused_from k es (shown m) ≡ refused_in k es
    from_empty es = ap (refused_from k es) (shows_empty m begins)

    pub is_found : is_some o ≡ true
    is_found = x.found ∙ from_empty (events_at from (take to now)) ∙ ap (refused_in k) (events_at_lem t.stands) ∙ t.asked

    module _ {r : Asked} (here : o ≡ Some r) where
      first : FirstAsked k (events_at from (take to now)) (shown m) from r
      first = x.first r here

      -- what is left when the rest is cut off
      abbrev cut : List Event
      cut = first.before ++ (first.event ∷ [])

      row : t.events ≡ cut ++ first.behind
      row = sym (events_at_lem t.stands) ∙ first.split ∙ sym (append_snoc first.before first.event first.behind)

      cut_ends : r.to ≡ from + length (records_of cut)
      cut_ends =
          omega (
            arith,
            first.begins,
            first.ends,
            ap length (records_of_one first.before first.event),
            length-append (records_of first.before) (record_of first.event),
          )

      both : Stand (take to now) from (cut ++ first.behind)
      both = subst (λ (l : List Event). Stand (take to now) from l) row t.stands

      cut_inside : r.to ≤ to
      cut_inside = omega (arith, cut_within cut first.behind both cut_ends, length-take-le to now t.within)

      pub part_inside : r.to ≤ length now
      part_inside = omega (arith, cut_inside, t.within)

      cut_stands : Stand (take r.to now) from cut
      cut_stands =
          subst (λ (l : List ℕ). Stand l from cut) (take-take r.to to now cut_inside) (stand_front cut first.behind both cut_ends)

      before_stands : Stand (take r.at (take r.to now)) from first.before
      before_stands = stand_front first.before (first.event ∷ []) cut_stands first.begins

      event_stands : Stand (take r.to now) r.at (first.event ∷ [])
      event_stands = stand_rear first.before (first.event ∷ []) cut_stands first.begins

      pub round_apart : Apart (take r.to now) from r.at r.at
      round_apart = record { front = stand_read before_stands; order = omega arith; rear = stand_read event_stands }

      quiet : refused_in k first.before ≡ false
      quiet = sym (from_empty first.before) ∙ first.quiet

      -- the pass
      abbrev kept : Machine → List Event
      kept n = tried_from k (shown n) (reverse (events_at from (take r.at (take r.to now)))) (events_at r.at (take r.to now))

      its_pass : {n : Machine} → n ≡ empty_machine → kept n ≡ pass k cut
      its_pass {n} e =
          ap (λ (s : State). tried_from k s (reverse (events_at from (take r.at (take r.to now)))) (events_at r.at (take r.to now)))
          (shows_empty n e)
          ∙ ap₂ (λ (l l' : List Event). tried_from k empty (reverse l) l') (events_at_lem before_stands) (events_at_lem event_stands)
          ∙ sym (from_start k (reverse first.before) (first.event ∷ [])
          (ap (refused_in k) (reverse-reverse first.before) ∙ quiet))
          ∙ sym (refused_stays k first.before first.event quiet)

      same_cut : shortened k cut ≡ goal
      same_cut =
          sym (cut_off k cut first.behind (sym (from_empty cut) ∙ first.refused)) ∙ ap (shortened k) (sym row) ∙ t.same

      module _ {n : Machine} (e : n ≡ empty_machine) {part : List ℕ} {place : ℕ} (y : Keeps (take r.to now) part from place (kept n))
        where
          abbrev next : List ℕ
          next = part ++ drop r.to now

          part_size : length part ≡ r.to
          part_size = y.size ∙ length-take-le r.to now part_inside

          next_size : length next ≡ length before
          next_size =
              omega (arith, part_size, length-append part (drop r.to now), length-drop r.to now, part_inside, t.size)

          next_within : r.to ≤ length next
          next_within = omega (arith, part_size, length-append part (drop r.to now))

          pass_stands : Stand (take r.to next) place (pass k cut)
          pass_stands =
              subst (λ (l : List ℕ). Stand l place (pass k cut)) (sym (take_at part (drop r.to now) r.to part_size))
              (subst (λ (l : List Event). Stand part place l) (its_pass e) y.rear)

          -- some are left out: there is another round
          next_round : Round k before next place r.to goal
          next_round =
              record {
                events = pass k cut;
                size = next_size;
                within = next_within;
                stands = pass_stands;
                asked = pass_refused k cut (sym (from_empty cut) ∙ first.refused);
                same = sym (pass-again k cut) ∙ same_cut;
              }

          -- none is
          none_out : place ≤ from → pass k cut ≡ cut
          none_out low = by (passed k cut)
            where
              by : Passed k cut → pass k cut ≡ cut
              by (whole q _) = q
              by (fewer h) =
                  absurd (omega (
                    arith,
                    h,
                    part_records (pass_part k cut),
                    cut_ends,
                    low,
                    y.above,
                    stand_size pass_stands,
                    length-take-le r.to next next_within,
                  ))

          last_round : place ≤ from → Rests before next (record { from = from; to = r.to }) goal
          last_round low =
              let whole-pass = none_out low in
              let same_place : place ≡ from = omega (arith, y.above) in
              record {
                size = next_size;
                within = next_within;
                stands =
                    subst (λ (n : ℕ). Stand (take r.to next) n goal) same_place
                    (subst (λ (l : List Event). Stand (take r.to next) place l)
                    (whole-pass ∙ sym (last_pass k (length cut) cut whole-pass) ∙ same_cut) pass_stands);
              }

          pub done : Done k before from to goal r next place
          done =
              record {
                size = next_size;
                cut = cut_inside;
                inside = omega (arith, part_size, y.rear.inside);
                again = next_round;
                last = last_round;
              }
