-- EVENT BY EVENT from an offset of the file on: the events gone and those left make the whole, the machine is the one after those gone, and
-- the links are theirs.
use Prim.Native.Nat.{ℕ, suc, ◌+◌, ◌*◌, ◌≤◌, ◌<◌}
use native.Mathlib.Omega.{arith}
use mathlib.Core.Path.{◌≡◌, refl, sym, ap, ◌∙◌, subst}
use mathlib.Core.List.{List, [], ◌∷◌, ◌++◌, append-nil}
use mathlib.Core.Bool.{true}
use types.Run.{OneOf}
use denote.Enum.Declared.{tag_of}
use lib.ListN.{length, take, drop, length-append, drop_of_length-le}
use lib.Seq.{append_snoc, take_all, take_at, drop_at}
use Rattle.rules.specs.declared.Event.{Event}
use Rattle.rules.specs.State.{State}
use Rattle.rules.specs.Events as events
use Rattle.rules.specs.Lists.{run, after, links_in_all}
use Rattle.rules.specs.EventFile.{Bytes, event, stepped}
use Rattle.rules.proofs.Bounds.{run_narrow}
use Rattle.rules.proofs.Soundness.Places.{sound_of}
use Rattle.rules.proofs.Files.Records.{ranged}
use Rattle.rules.proofs.Files.Inverse.{step_fits}
use Rattle.rules.proofs.Shortening.Refusing.{run_append, after_append}
use Rattle.event_file.specs.declared.reader.Found.{Found}
use Rattle.event_file.specs.Answers.{shown_found}
use Rattle.event_file.specs.Left.{events_at, Left}
use Rattle.event_file.specs.contracts.reader.Found.{the_type}
use Rattle.event_file.proofs.Steps.{first, none_left}
use Rattle.dispatcher.specs.declared.Machine.{Machine}
use Rattle.dispatcher.specs.Promise.{Answered}
use Rattle.dispatcher.specs.Shown.{shown, sound_machine}
use Rattle.dispatcher.specs.Promise.{Answers}
use Rattle.dispatcher.proofs.Runs.{dispatched_sound}
use Rattle.dispatcher.proofs.Stored.{sound_shown}
use Rattle.replay.proofs.Turns.{turn_answer}
use Rattle.replay.specs.Running.{Ready, RanOn}

-- the links of one list and then another
pub links_append : (xs ys : List events.Answered) → links_in_all (xs ++ ys) ≡ links_in_all xs + links_in_all ys
unfolding links_in_all
links_append [] ys = omega arith
links_append (x ∷ xs) ys = rw (links_append xs ys) (omega arith)

-- of the events from an offset on, where the machine is m₀, some are gone, and `still` of n are to come
pub record Along (file : List ℕ) (from n : ℕ) (m₀ m : Machine) (offset links still : ℕ) : Type 0 where
  pub gone : List Event
  pub rest : List Event
  pub all : events_at from file ≡ gone ++ rest
  pub many : length gone + still ≡ n
  pub state : shown m ≡ after gone (shown m₀)
  pub followed : links ≡ links_in_all (run gone (shown m₀))
  pub few : links ≤ 65535 * length gone
  pub left : Left file offset rest
  pub sound : sound_machine m ≡ true

unfoldable pub begin : {file : List ℕ} {from : ℕ} {m : Machine} (n : ℕ) → Ready file from m → Along file from n m m from 0 n
unfolding run after links_in_all
begin {file} {from} n r =
    record {
      gone = [];
      rest = events_at from file;
      all = refl;
      many = omega arith;
      state = refl;
      followed = refl;
      few = omega arith;
      left = r.left;
      sound = r.sound;
    }

module _ {file : List ℕ} {from n : ℕ} {m₀ m : Machine} {offset links still : ℕ} (a : Along file from n m₀ m offset links still) where
  -- the next event is found and dispatched
  unfoldable pub onward : {e : Event} {to : ℕ} {r : Answered} → Bytes file → event e ≡ (stepped file offset).found
      → to ≡ (stepped file offset).offset → Answers (events.dispatch e (shown m)) m r → (fewer : ℕ) → still ≡ suc fewer
      → Along file from n m₀ r.machine to (links + r.links) fewer
  unfolding run after links_in_all
  onward {e} {to} {r} narrow found moved given fewer more =
      let f = first a.left found moved in
      let gone = a.gone in
      let fits = ranged e (step_fits file offset e narrow (sym found)) in
      let small = (run_narrow (e ∷ []) (shown m) (fits, tt) (sound_of (shown m) (sound_shown m a.sound))).0.links in
      let answer = turn_answer e a.sound given in
      let one = ap (λ (z : State). events.offer e z) (sym a.state) ∙ answer in
      let size : length (gone ++ (e ∷ [])) ≡ length gone + 1 = length-append gone (e ∷ []) in
      let here = ap (λ (w : events.Answered). w.links) one in
      let before = shown m₀ in
      let sum : links_in_all (run (gone ++ (e ∷ [])) before)
      ≡ links_in_all (run gone before) + ((events.offer e (after gone before)).links + 0) =
      ap links_in_all (run_append gone (e ∷ []) before) ∙ links_append (run gone before) (run (e ∷ []) (after gone before)) in
      record {
        gone = gone ++ (e ∷ []);
        rest = f.later;
        all = a.all ∙ ap (λ (l : List Event). gone ++ l) f.split ∙ sym (append_snoc gone e f.later);
        many = omega (arith, a.many, size, more);
        state = sym (ap (λ (w : events.Answered). w.state) one) ∙ sym (after_append gone (e ∷ []) (shown m₀));
        followed = omega (arith, a.followed, sum, here);
        few = omega (arith, a.few, size, small, ap (λ (w : events.Answered). w.links) answer);
        left = f.left;
        sound = dispatched_sound e m r fits a.sound given;
      }

  -- all n are gone
  pub all_gone : still ≤ 0 → RanOn file from m₀ n (record { machine = m; offset = offset; links = links })
  all_gone none-still =
      let size : length a.gone ≡ n = omega (arith, a.many) in
      let taken : take n (events_at from file) ≡ a.gone = ap (take n) a.all ∙ take_at a.gone a.rest n size in
      let dropped : drop n (events_at from file) ≡ a.rest = ap (drop n) a.all ∙ drop_at a.gone a.rest n size in
      record {
        state = a.state ∙ ap (λ (l : List Event). after l (shown m₀)) (sym taken);
        links = a.followed ∙ ap (λ (l : List Event). links_in_all (run l (shown m₀))) (sym taken);
        left = subst (Left file offset) (sym dropped) a.left;
        sound = a.sound;
      }

  -- or the file has ended
  pub ended : (f : Found) → OneOf (1 ∷ 2 ∷ []) (tag_of the_type f) → shown_found f ≡ (stepped file offset).found
      → RanOn file from m₀ n (record { machine = m; offset = offset; links = links })
  ended f other found =
      let none_there = none_left a.left f other found in
      let whole : events_at from file ≡ a.gone = a.all ∙ ap (λ (l : List Event). a.gone ++ l) none_there ∙ append-nil a.gone in
      let short : length a.gone ≤ n = omega (arith, a.many) in
      let taken : take n (events_at from file) ≡ a.gone = ap (take n) whole ∙ take_all n a.gone short in
      let dropped : drop n (events_at from file) ≡ a.rest = ap (drop n) whole ∙ drop_of_length-le a.gone short ∙ sym none_there in
      record {
        state = a.state ∙ ap (λ (l : List Event). after l (shown m₀)) (sym taken);
        links = a.followed ∙ ap (λ (l : List Event). links_in_all (run l (shown m₀))) (sym taken);
        left = subst (Left file offset) (sym dropped) a.left;
        sound = a.sound;
      }
