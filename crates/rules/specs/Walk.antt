-- Document 01, "The walk".
use Rattle.std.specs.Prelude.{ℕ, zero, suc, ◌+◌, List, Bool, true, false, cond, not, ◌&&◌, ltb, eqb, None, Some}
use Rattle.rules.specs.declared.Hold.{Hold}
use Rattle.rules.specs.declared.Hold.TheVariants.{Ready, Idle, Blocked, Calling, Helping}
use Rattle.rules.specs.declared.Thread.{Thread}
use Rattle.rules.specs.declared.Chain.{Chain}
use Rattle.rules.specs.declared.Slice.{Slice}
use Rattle.rules.specs.State.{hold_at, owner_at, left_at, live_thread_count}

-- before the first link
abbrev pub no_links : Chain
no_links = record { looped = false; end = 0; links = 0; count = 0; helper = 0; helping = 0; last = None }

-- a donation link is followed, from this thread
abbrev pub donated : ℕ → Chain → Chain
donated n c =
    record {
      looped = false;
      end = 0;
      links = c.links + 1;
      count = c.count + 1;
      helper = c.helper;
      helping = c.helping;
      last = Some n;
    }

-- a helping link is followed, from this thread: the donation count begins anew
abbrev pub helped : ℕ → Chain → Chain
helped n c =
    record { looped = false; end = 0; links = c.links + 1; count = 0; helper = n; helping = c.helping + 1; last = Some n }

-- "until a thread without one"
abbrev pub ended : ℕ → Chain → Chain
ended n c =
    record {
      looped = false;
      end = n;
      links = c.links;
      count = c.count;
      helper = c.helper;
      helping = c.helping;
      last = c.last;
    }

-- "the chain is a loop"
abbrev pub loop : Chain → Chain
loop c = record { looped = true; end = 0; links = c.links; count = 0; helper = 0; helping = c.helping; last = None }

-- one step at a thread with this hold: the walk goes on over its link, or ends
abbrev pub follow : (ℕ → Chain → Chain) → ℕ → Chain → Hold → Chain
follow go n c Ready = ended n c
follow go n c Idle = ended n c
follow go n c Blocked = ended n c
follow go n c (Calling server) = go server (donated n c)
follow go n c (Helping server) = go server (helped n c)

-- the walk from a thread after the chain so far, with so many links to spend: "all links count"
unfoldable pub walk_from : ℕ → List Thread → ℕ → Chain → Chain
walk_from zero ts n c = loop c
walk_from (suc left) ts n c = follow (λ m d. walk_from left ts m d) n c (hold_at ts n)

-- "A walk may follow as many links as there are live threads (L). If it has followed L links, the chain is a loop."
unfoldable pub walk : List Thread → ℕ → Chain
walk ts n = walk_from (live_thread_count ts) ts n no_links

-- "for a timeslice from its owner"
abbrev pub chain_of : List Thread → List Slice → ℕ → Chain
chain_of ts ss t = walk ts (owner_at ss t)

-- what the end of a chain says of its timeslice
pub data Verdict : Type 0 where
  runs : Verdict
  retries : Verdict
  waits : Verdict
  stalls : Verdict

-- Ready: it runs. Idle after a link: it runs once the retry is made. Idle owner, Blocked: it waits. (A thread with a link is no end.)
abbrev pub at_end : Hold → ℕ → Verdict
at_end Ready links = runs
at_end Idle links = cond (ltb 0 links) retries waits
at_end Blocked links = waits
at_end (Calling server) links = waits
at_end (Helping server) links = waits

abbrev pub verdict : List Thread → Chain → Verdict
verdict ts c = cond c.looped stalls (at_end (hold_at ts c.end) c.links)

-- "A chain's end lets the timeslice run if the end is Ready, or if it is Idle and at least one link was followed."
abbrev pub lets : Verdict → Bool
lets runs = true
lets retries = true
lets waits = false
lets stalls = false

-- Document 02, [2]: "A Spent timeslice cannot run", and "Left is 0 exactly for Spent". The plain machine has no places, so left says it.
abbrev pub has_time : List Slice → ℕ → Bool
has_time ss t = not (eqb (left_at ss t) 0)

abbrev pub may_run : List Thread → List Slice → ℕ → Bool
may_run ts ss t = lets (verdict ts (chain_of ts ss t)) && has_time ss t

-- a thread's link, for "all links": which server it is Calling or Helping, if any
pub data Link : Type 0 where
  unlinked : Link
  donation : ℕ → Link
  helping : ℕ → Link

abbrev pub link_of : Hold → Link
link_of Ready = unlinked
link_of Idle = unlinked
link_of Blocked = unlinked
link_of (Calling server) = donation server
link_of (Helping server) = helping server

-- the donation links that a walk follows, all of them: the donation count has only those after the last helping link
abbrev pub donations_over : (ℕ → ℕ) → Link → ℕ
donations_over rest unlinked = 0
donations_over rest (donation server) = suc (rest server)
donations_over rest (helping server) = rest server

unfoldable pub donations_from : ℕ → List Thread → ℕ → ℕ
donations_from zero ts n = 0
donations_from (suc left) ts n = donations_over (donations_from left ts) (link_of (hold_at ts n))

unfoldable pub donations : List Thread → ℕ → ℕ
donations ts n = donations_from (live_thread_count ts) ts n
