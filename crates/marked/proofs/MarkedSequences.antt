-- Document 01, "Marked sequences", with K9 as document 02, [2], reads: K1 to K11 and rows of our own as one table, and one statement that
-- every row meets.
-- Proved by computation: antt runs the definitions on each row, once for all that is asked of it.
use Prim.Native.Nat.{ℕ, zero, suc}
use Prim.Native.String.{String}
use mathlib.Core.Path.{◌≡◌, refl, sym, ◌∙◌}
use mathlib.Core.List.{List, [], ◌∷◌, ◌++◌}
use mathlib.Core.Bool.{Bool, true}
use Rattle.rules.specs.declared.Role.TheVariants.{Client, Server}
use Rattle.rules.specs.declared.Place.{Place}
use Rattle.rules.specs.declared.Place.TheVariants.{Queue, Behind, On, Stalled, Spent}
use Rattle.rules.specs.declared.Event.{Event}
use Rattle.rules.specs.declared.Event.TheVariants.{Create, Give, Call, Reply, Block, Wake, Charge, Abort, Refill, Remove, Rank}
use Rattle.rules.specs.State.{State, empty, place_at}
use Rattle.rules.specs.Sound.{sound}
use Rattle.rules.specs.Events.{Answered, offer}
use Rattle.rules.specs.Lists.{run, after}
use Rattle.rules.specs.EventFile.{file_of, file_refusal, events_of}
use Rattle.rules.specs.Key.{bytes, lines as key_lines, file_line, key_after, key, plain_key}
use Rattle.rules.proofs.Computing.{computing}

-- a line of the key: all columns but the last, and the last
pub record Line : Type 0 where
  pub columns : String
  pub links : String

-- what a row prints
pub data Prints : Type 0 where
  lines : List Line → Prints
  file_refused : String → Prints

-- a timeslice with its place
pub record Stands : Type 0 where
  pub timeslice : ℕ
  pub place : Place

pub record Row : Type 0 where
  pub file : List ℕ
  pub prints : Prints
  pub places : List Stands

unfoldable pub lines_text : List Line → List ℕ
lines_text [] = []
lines_text (l ∷ ls) = bytes l.columns ++ bytes " " ++ bytes l.links ++ bytes "\n" ++ lines_text ls

unfoldable pub plain_lines_text : List Line → List ℕ
plain_lines_text [] = []
plain_lines_text (l ∷ ls) = bytes l.columns ++ bytes "\n" ++ plain_lines_text ls

unfoldable pub text : Prints → List ℕ
text (lines ls) = lines_text ls
text (file_refused t) = bytes t ++ bytes "\n"

unfoldable pub plain_text : Prints → List ℕ
plain_text (lines ls) = plain_lines_text ls
plain_text (file_refused t) = bytes t ++ bytes "\n"

unfoldable pub stands : List Stands → State → List Place
stands [] s = []
stands (x ∷ xs) s = place_at s.places x.timeslice ∷ stands xs s

unfoldable pub places_of : List Stands → List Place
places_of [] = []
places_of (x ∷ xs) = x.place ∷ places_of xs

-- the machine after a row's file
unfoldable pub machine_after : Row → State
machine_after r = after (events_of r.file) empty

-- what the definitions make of a row: what the key program prints, what the plain machine answers, the places, and whether the machine
-- is sound
pub record Result : Type 0 where
  pub printed : List ℕ
  pub plain : List ℕ
  pub places : List Place
  pub sound_after : Bool

unfoldable pub result : Row → Result
result r =
    record {
      printed = key r.file;
      plain = plain_key r.file;
      places = stands r.places (machine_after r);
      sound_after = sound (machine_after r);
    }

unfoldable pub expected : Row → Result
expected r = record { printed = text r.prints; plain = plain_text r.prints; places = places_of r.places; sound_after = true }

-- the statement
abbrev pub Meets : Row → Type 0
Meets r = result r ≡ expected r

abbrev pub All : {A : Type 0} → (A → Type 0) → List A → Type 0
All P [] = Unit {0}
All P (r ∷ rs) = P r × All P rs

-- the result by the answers of one run: the key's lines are these answers', and the machine after the file is the last one's
unfoldable last_machine : List Answered → State → State
last_machine [] s = s
last_machine (a ∷ rest) s = last_machine rest a.state

abbrev key_of : ℕ → List Answered → List ℕ
key_of zero answers = key_lines 1 answers
key_of (suc number) answers = file_line (suc number)

unfoldable result_of : Row → List Answered → Result
result_of r answers =
    let m = last_machine answers empty in
    record {
      printed = key_of (file_refusal r.file) answers;
      plain = plain_key r.file;
      places = stands r.places m;
      sound_after = sound m;
    }

last_machine_lem : (es : List Event) (s : State) → last_machine (run es s) s ≡ after es s
unfolding run after last_machine
last_machine_lem [] s = refl
last_machine_lem (e ∷ es) s = last_machine_lem es (offer e s).state

key_of_lem : (k : ℕ) (file : List ℕ) → key_of k (run (events_of file) empty) ≡ key_after k file
key_of_lem zero file = refl
key_of_lem (suc k) file = refl

meets : (r : Row) → result_of r (run (events_of r.file) empty) ≡ expected r → Meets r
unfolding result result_of key machine_after
meets r e =
    let m = last_machine_lem (events_of r.file) empty in
    let printed = key_of_lem (file_refusal r.file) r.file in
    sym (λ i. record { printed = printed i; plain = plain_key r.file; places = stands r.places (m i); sound_after = sound (m i) }) ∙ e

infixr 20 ◌also◌
abbrev pub ◌also◌ : {A B : Type 0} → A → B → A × B
a also b = (a, b)

abbrev at : ℕ → Place → Stands
at t p = record { timeslice = t; place = p }

infix 70 ◌with_links◌
abbrev ◌with_links◌ : String → String → Line
c with_links l = record { columns = c; links = l }

unfoldable pub K1 : Row
K1 =
    record {
      file =
          0x00 ∷ 0x00 ∷ 0x00 ∷ 0x1B ∷ 0x01 ∷ 0x03 ∷ 0x01 ∷ 0x00 ∷ 0x00 ∷ 0x03 ∷ 0x01 ∷ 0x01 ∷ 0x01 ∷ 0x06 ∷ 0x02 ∷ 0x05 ∷ 0x00 ∷ 0x0A
          ∷ 0x00 ∷ 0x64 ∷ 0x02 ∷ 0x03 ∷ 0x01 ∷ 0x03 ∷ 0x07 ∷ 0x00 ∷ 0x1E ∷ 0x01 ∷ 0x04 ∷ 0x01 ∷ 0x04 ∷ [];
      prints =
          lines
          ("1 ok 0 - - 0" with_links "0" ∷ "2 ok 0 - - 0" with_links "0" ∷ "3 ok 0 0 5 0" with_links "0"
          ∷ "4 ok 0 1 5 1" with_links "0" ∷ "5 ok 0 1 5 1" with_links "0"
          ∷ "6 ok 0 0 5 0" with_links "0" ∷ "7 no 8 0 5 0" with_links "0" ∷ []);
      places = at 5 Queue ∷ [];
    }

-- K2 to K6: one list of events that goes on from row to row
unfoldable pub two : List Event
two =
    Create 0 Client ∷ Create 1 Server ∷ Create 2 Client ∷ Give 0 0 10 100 ∷ Call 1 ∷ Give 2 2 20 100 ∷ Call 1 ∷ []

unfoldable pub two_prints : List Line
two_prints =
    "1 ok 0 - - 0" with_links "0" ∷ "2 ok 0 - - 0" with_links "0" ∷ "3 ok 0 - - 0" with_links "0" ∷ "4 ok 0 0 0 0" with_links "0"
    ∷ "5 ok 0 1 0 1" with_links "0"
    ∷ "6 ok 0 2 2 0" with_links "0" ∷ "7 ok 0 1 2 0" with_links "1" ∷ []

unfoldable pub K2 : Row
K2 = record { file = file_of two; prints = lines two_prints; places = at 0 Queue ∷ at 2 Queue ∷ [] }

unfoldable pub K3 : Row
K3 =
    record {
      file = file_of (two ++ (Reply ∷ []));
      prints = lines (two_prints ++ ("8 ok 0 1 2 1" with_links "2" ∷ []));
      places = at 0 Queue ∷ at 2 Queue ∷ [];
    }

unfoldable pub four : List Event
four = two ++ (Reply ∷ Block ∷ Call 1 ∷ [])

unfoldable pub four_prints : List Line
four_prints = two_prints ++ ("8 ok 0 1 2 1" with_links "2" ∷ "9 ok 0 0 0 0" with_links "1" ∷ "10 ok 0 - - 0" with_links "1" ∷ [])

unfoldable pub K4 : Row
K4 = record { file = file_of four; prints = lines four_prints; places = at 0 (On 1) ∷ at 2 (On 1) ∷ [] }

unfoldable pub K5 : Row
K5 =
    record {
      file = file_of (four ++ (Wake 1 ∷ []));
      prints = lines (four_prints ++ ("11 ok 0 1 2 1" with_links "1" ∷ []));
      places = at 0 (Behind 2) ∷ at 2 Queue ∷ [];
    }

unfoldable pub K6 : Row
K6 =
    record {
      file = file_of (four ++ (Wake 1 ∷ Abort 2 ∷ Block ∷ []));
      prints = lines (four_prints ++ ("11 ok 0 1 2 1" with_links "1" ∷ "12 ok 0 2 2 0" with_links "1"
          ∷ "13 ok 0 1 0 0" with_links "1" ∷ []));
      places = at 0 Queue ∷ at 2 (On 2) ∷ [];
    }

unfoldable pub seven : List Event
seven = Create 0 Client ∷ Create 1 Server ∷ Create 2 Server ∷ Give 0 0 10 100 ∷ Call 1 ∷ Call 2 ∷ Call 1 ∷ []

unfoldable pub seven_prints : List Line
seven_prints =
    "1 ok 0 - - 0" with_links "0" ∷ "2 ok 0 - - 0" with_links "0" ∷ "3 ok 0 - - 0" with_links "0" ∷ "4 ok 0 0 0 0" with_links "0"
    ∷ "5 ok 0 1 0 1" with_links "0"
    ∷ "6 ok 0 2 0 2" with_links "0" ∷ "7 ok 0 - - 0" with_links "3" ∷ []

unfoldable pub K7 : Row
K7 = record { file = file_of seven; prints = lines seven_prints; places = at 0 Stalled ∷ [] }

unfoldable pub K8 : Row
K8 =
    record {
      file = file_of (seven ++ (Abort 2 ∷ []));
      prints = lines (seven_prints ++ ("8 ok 0 2 0 2" with_links "5" ∷ []));
      places = at 0 Queue ∷ [];
    }

unfoldable pub K9 : Row
K9 =
    record {
      file = file_of (Create 0 Client ∷ Create 1 Client ∷ Give 0 0 10 5 ∷ Give 1 1 10 5 ∷ Charge 6 ∷ Charge 5 ∷ []);
      prints =
          lines
          ("1 ok 0 - - 0" with_links "0" ∷ "2 ok 0 - - 0" with_links "0" ∷ "3 ok 0 0 0 0" with_links "0"
          ∷ "4 ok 0 0 0 0" with_links "0" ∷ "5 no 11 0 0 0" with_links "0"
          ∷ "6 ok 0 1 1 0" with_links "0" ∷ []);
      places = at 0 Spent ∷ at 1 Queue ∷ [];
    }

unfoldable pub K10 : Row
K10 = record { file = []; prints = file_refused "file 14"; places = [] }

unfoldable pub K11 : Row
K11 =
    record {
      file = file_of (Create 127 Client ∷ Create 128 Client ∷ []);
      prints = lines ("1 ok 0 - - 0" with_links "0" ∷ "2 no 2 - - 0" with_links "0" ∷ []);
      places = [];
    }

-- "A called server whose own, higher timeslice stays On it" is wrong: server 1 owns timeslice 1, priority 30. It waits On its
-- Idle owner until client 0 calls server 1, and then pays for it.
unfoldable pub own_timeslice : Row
own_timeslice =
    record {
      file = file_of (Create 0 Client ∷ Create 1 Server ∷ Give 0 0 10 100 ∷ Give 1 1 30 100 ∷ Call 1 ∷ []);
      prints =
          lines
          ("1 ok 0 - - 0" with_links "0" ∷ "2 ok 0 - - 0" with_links "0" ∷ "3 ok 0 0 0 0" with_links "0"
          ∷ "4 ok 0 0 0 0" with_links "0" ∷ "5 ok 0 1 1 0" with_links "0" ∷ []);
      places = at 0 Queue ∷ at 1 Queue ∷ [];
    }

-- Refill, document 02, [2]: refused with 2, 4 and 18; where nothing runs it starts the machine; the turn order stays, so that timeslice 1,
-- depleted last, stands below timeslice 0.
unfoldable pub refilled_in_turn : Row
refilled_in_turn =
    record {
      file =
          file_of
          (Create 0 Client ∷ Create 1 Client ∷ Give 0 0 10 5 ∷ Give 1 1 10 5 ∷ Charge 5 ∷ Refill 128 ∷ Refill 2 ∷ Refill 1 ∷ Charge 5
          ∷ Refill 1 ∷ Refill 0 ∷ []);
      prints =
          lines
          ("1 ok 0 - - 0" with_links "0" ∷ "2 ok 0 - - 0" with_links "0" ∷ "3 ok 0 0 0 0" with_links "0"
          ∷ "4 ok 0 0 0 0" with_links "0" ∷ "5 ok 0 1 1 0" with_links "0" ∷ "6 no 2 1 1 0" with_links "0"
          ∷ "7 no 4 1 1 0" with_links "0" ∷ "8 no 18 1 1 0" with_links "0" ∷ "9 ok 0 - - 0" with_links "0"
          ∷ "10 ok 0 1 1 0" with_links "0" ∷ "11 ok 0 0 0 0" with_links "0" ∷ []);
      places = at 0 Queue ∷ at 1 Queue ∷ [];
    }

-- timeslice 2 pays for server 1, which serves client 0, with 0 and 3 Behind it
unfoldable pub leading : List Event
leading =
    Create 0 Client ∷ Create 1 Server ∷ Create 2 Client ∷ Create 3 Client ∷ Give 0 0 10 9 ∷ Call 1 ∷ Block ∷ Give 2 2 20 9 ∷ Call 1
    ∷ Give 3 3 15 9 ∷ Call 1 ∷ Wake 1 ∷ []

unfoldable pub leading_prints : List Line
leading_prints =
    "1 ok 0 - - 0" with_links "0" ∷ "2 ok 0 - - 0" with_links "0" ∷ "3 ok 0 - - 0" with_links "0" ∷ "4 ok 0 - - 0" with_links "0"
    ∷ "5 ok 0 0 0 0" with_links "0" ∷ "6 ok 0 1 0 1" with_links "0" ∷ "7 ok 0 - - 0" with_links "1" ∷ "8 ok 0 2 2 0" with_links "0"
    ∷ "9 ok 0 - - 0" with_links "1" ∷ "10 ok 0 3 3 0" with_links "0" ∷ "11 ok 0 - - 0" with_links "1"
    ∷ "12 ok 0 1 2 0" with_links "1" ∷ []

-- A depleted leader is Spent; of its followers 3 stands above and goes to Queue, 0 goes Behind that one, and the server is finished on a
-- helper's time.
unfoldable pub spent_leader : Row
spent_leader =
    record {
      file = file_of (leading ++ (Charge 9 ∷ []));
      prints = lines (leading_prints ++ ("13 ok 0 1 3 0" with_links "1" ∷ []));
      places = at 0 (Behind 3) ∷ at 2 Spent ∷ at 3 Queue ∷ [];
    }

-- Remove, document 02, [3]: server 1 is removed with a caller and a helper, and both are Ready, not Blocked: each runs at once on its own
-- timeslice. Refused with 2 and 4; the number is created again, in the other role.
unfoldable pub server_removed : Row
server_removed =
    record {
      file =
          file_of
          (Create 0 Client ∷ Create 1 Server ∷ Create 2 Client ∷ Give 0 0 10 9 ∷ Call 1 ∷ Give 2 2 20 9 ∷ Call 1 ∷ Remove 1 ∷ Block
          ∷ Remove 128 ∷ Remove 1 ∷ Create 1 Client ∷ Call 1 ∷ []);
      prints =
          lines
          ("1 ok 0 - - 0" with_links "0" ∷ "2 ok 0 - - 0" with_links "0" ∷ "3 ok 0 - - 0" with_links "0" ∷ "4 ok 0 0 0 0" with_links "0"
          ∷ "5 ok 0 1 0 1" with_links "0" ∷ "6 ok 0 2 2 0" with_links "0" ∷ "7 ok 0 1 2 0" with_links "1"
          ∷ "8 ok 0 2 2 0" with_links "0" ∷ "9 ok 0 0 0 0" with_links "0" ∷ "10 no 2 0 0 0" with_links "0"
          ∷ "11 no 4 0 0 0" with_links "0" ∷ "12 ok 0 0 0 0" with_links "0" ∷ "13 no 6 0 0 0" with_links "0" ∷ []);
      places = at 0 Queue ∷ at 2 (On 2) ∷ [];
    }

-- A struck-out leader, its owner removed: again 3 goes to Queue and 0 Behind that one.
unfoldable pub leader_removed : Row
leader_removed =
    record {
      file = file_of (leading ++ (Remove 2 ∷ []));
      prints = lines (leading_prints ++ ("13 ok 0 1 3 0" with_links "2" ∷ []));
      places = at 0 (Behind 3) ∷ at 3 Queue ∷ [];
    }

-- Then the caller is removed, whose timeslice is Behind: the server is an orphan, and after its reply the helper's retry succeeds.
-- Timeslice 2, given again, is last.
unfoldable pub caller_removed : Row
caller_removed =
    record {
      file = file_of (leading ++ (Remove 2 ∷ Remove 0 ∷ Reply ∷ Create 2 Client ∷ Give 2 2 15 9 ∷ []));
      prints =
          lines
          (leading_prints ++ ("13 ok 0 1 3 0" with_links "2" ∷ "14 ok 0 1 3 0" with_links "2" ∷ "15 ok 0 1 3 1" with_links "2"
          ∷ "16 ok 0 1 3 1" with_links "0" ∷ "17 ok 0 1 3 1" with_links "0" ∷ []));
      places = at 2 Queue ∷ at 3 Queue ∷ [];
    }

-- K7's loop, one of it removed: the Stalled are released, and the walk's 3 links count. Then the Idle owner 2 with its timeslice On itself
-- is removed, and then the Blocked thread 1, whose waiters are released.
unfoldable pub loop_removed : Row
loop_removed =
    record {
      file = file_of (seven ++ (Remove 2 ∷ Block ∷ Create 2 Server ∷ Give 2 2 5 9 ∷ Remove 2 ∷ Remove 1 ∷ []));
      prints =
          lines
          (seven_prints ++ ("8 ok 0 1 0 1" with_links "4" ∷ "9 ok 0 - - 0" with_links "1" ∷ "10 ok 0 - - 0" with_links "0"
          ∷ "11 ok 0 - - 0" with_links "0" ∷ "12 ok 0 - - 0" with_links "0" ∷ "13 ok 0 0 0 0" with_links "0" ∷ []));
      places = at 0 Queue ∷ [];
    }

-- Rank, document 02, [4]: refused with 2 and 4. The same priority again goes to the back; one that is Spent or On stays there, and comes
-- back with its new priority and turn.
unfoldable pub ranked_in_turn : Row
ranked_in_turn =
    record {
      file =
          file_of
          (Create 0 Client ∷ Create 1 Client ∷ Give 0 0 10 5 ∷ Give 1 1 10 5 ∷ Rank 0 10 ∷ Rank 128 10 ∷ Rank 2 10 ∷ Rank 1 10 ∷ Charge 5
          ∷ Rank 0 255 ∷ Block ∷ Rank 1 0 ∷ Refill 0 ∷ Wake 1 ∷ Rank 0 0 ∷ []);
      prints =
          lines
          ("1 ok 0 - - 0" with_links "0" ∷ "2 ok 0 - - 0" with_links "0" ∷ "3 ok 0 0 0 0" with_links "0" ∷ "4 ok 0 0 0 0" with_links "0"
          ∷ "5 ok 0 1 1 0" with_links "0" ∷ "6 no 2 1 1 0" with_links "0" ∷ "7 no 4 1 1 0" with_links "0"
          ∷ "8 ok 0 0 0 0" with_links "0" ∷ "9 ok 0 1 1 0" with_links "0" ∷ "10 ok 0 1 1 0" with_links "0"
          ∷ "11 ok 0 - - 0" with_links "0" ∷ "12 ok 0 - - 0" with_links "0" ∷ "13 ok 0 0 0 0" with_links "0"
          ∷ "14 ok 0 0 0 0" with_links "0" ∷ "15 ok 0 1 1 0" with_links "0" ∷ []);
      places = at 0 Queue ∷ at 1 Queue ∷ [];
    }

-- A lowered leader: of its followers 3 stands above and goes to Queue, 0 goes Behind that one; the leader stays in Queue, at the back.
unfoldable pub leader_ranked : Row
leader_ranked =
    record {
      file = file_of (leading ++ (Rank 2 5 ∷ []));
      prints = lines (leading_prints ++ ("13 ok 0 1 3 0" with_links "1" ∷ []));
      places = at 0 (Behind 3) ∷ at 2 Queue ∷ at 3 Queue ∷ [];
    }

-- A follower raised above its leader pays for the server that its owner called; the other follower moves to Queue though it stays below.
unfoldable pub follower_ranked : Row
follower_ranked =
    record {
      file = file_of (leading ++ (Rank 0 30 ∷ Rank 3 15 ∷ []));
      prints = lines (leading_prints ++ ("13 ok 0 1 0 1" with_links "1" ∷ "14 ok 0 1 0 1" with_links "1" ∷ []));
      places = at 0 Queue ∷ at 2 Queue ∷ at 3 Queue ∷ [];
    }

-- K7's loop: a Stalled timeslice stays Stalled, and no link is followed.
unfoldable pub stalled_ranked : Row
stalled_ranked =
    record {
      file = file_of (seven ++ (Rank 0 200 ∷ []));
      prints = lines (seven_prints ++ ("8 ok 0 - - 0" with_links "0" ∷ []));
      places = at 0 Stalled ∷ [];
    }

unfoldable pub rows : List Row
rows =
    K1 ∷ K2 ∷ K3 ∷ K4 ∷ K5 ∷ K6 ∷ K7 ∷ K8 ∷ K9 ∷ K10 ∷ K11 ∷ own_timeslice ∷ refilled_in_turn ∷ spent_leader ∷ server_removed
    ∷ leader_removed ∷ caller_removed ∷ loop_removed ∷ ranked_in_turn ∷ leader_ranked ∷ follower_ranked ∷ stalled_ranked ∷ []

pub marked : All Meets rows
unfolding computing lines_text plain_lines_text text plain_text stands places_of last_machine result_of expected K1 two two_prints K2 K3
    four four_prints K4 K5 K6 seven seven_prints K7 K8 K9 K10 K11 own_timeslice refilled_in_turn leading leading_prints spent_leader
    server_removed leader_removed caller_removed loop_removed ranked_in_turn leader_ranked follower_ranked stalled_ranked rows
marked =
    meets K1 refl also meets K2 refl also meets K3 refl also meets K4 refl also meets K5 refl also meets K6 refl also
    meets K7 refl also meets K8 refl also meets K9 refl also meets K10 refl also meets K11 refl also meets own_timeslice refl also
    meets refilled_in_turn refl also meets spent_leader refl also meets server_removed refl also meets leader_removed refl also
    meets caller_removed refl also meets loop_removed refl also meets ranked_in_turn refl also meets leader_ranked refl also
    meets follower_ranked refl also meets stalled_ranked refl also tt
