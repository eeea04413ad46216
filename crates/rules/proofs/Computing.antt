-- `unfolding computing` opens every definition of specs/, for a proof by computation.
use Rattle.rules.specs.Tests.{member, distinct, all, filter, below}
use Rattle.rules.specs.State.{live_thread_count}
use Rattle.rules.specs.Order.{earlier, stands_above, topmost}
use Rattle.rules.specs.Walk.{walk_from, walk, donations_from, donations}
use Rattle.rules.specs.Threads.{set_hold, set_service, created, donate, replied, aborted, links_cut, removed}
use Rattle.rules.specs.Timeslices.{own_of, set_left, given, last, without, to_back, charged, refilled, struck, ranked}
use Rattle.rules.specs.Release.{released_places, release}
use Rattle.rules.specs.Choice.{park, retry, choose_from, choose}
use Rattle.rules.specs.Sound.{shaped, placed, settled, sound}
use Rattle.rules.specs.Events.{releases, create, with_given, give, call_donates, call_helps, call, reply, block, wake, depletes}
use Rattle.rules.specs.Events.{spends, charge, after_walk, abort, with_refilled, refill, remove, rank, dispatch, offer}
use Rattle.rules.specs.Plain.{judge_from, judge, plain_offer}
use Rattle.rules.specs.Lists.{run, after, links_in_all, plain_run}
use Rattle.rules.specs.EventFile.{records_of, file_of, record_at, events_after, file_refusal, events_of, opened, stepped, started, all_fit}
use Rattle.rules.specs.EventFile.{append_refusal, appended}
use Rattle.rules.specs.Steps.{events_in, appended_all}
use Rattle.rules.specs.Key.{bytes, digits, decimal, columns, line, lines, file_line, key, short_lines, short_key, plain_lines, plain_key}
use Rattle.rules.specs.Reason.{threads_from, threads_on, above_below, above, cause, spaced, cause_line, cause_lines, reason_of}
use Rattle.rules.specs.Reason.{reason_refusal, machine_after, reason}
use Rattle.rules.specs.Shares.{payments, units_of, total, numbers_from, payers, shares_in, share_line, share_lines, shares}
use Rattle.rules.specs.Shorten.{refused_from, tried, passes, shorter}

unfoldable pub computing : Unit {0}
unfolding member distinct all filter below live_thread_count earlier stands_above topmost walk_from walk donations_from donations set_hold
    set_service created donate replied aborted links_cut removed own_of set_left given last without to_back charged refilled struck
    ranked released_places release park retry choose_from choose shaped placed settled sound releases create with_given give
    call_donates call_helps call reply block wake depletes spends charge after_walk abort with_refilled refill remove rank dispatch
    offer judge_from judge plain_offer run after links_in_all plain_run all_fit records_of file_of record_at events_after file_refusal events_of opened
    stepped started append_refusal appended events_in appended_all bytes digits decimal columns line lines file_line key short_lines
    short_key plain_lines plain_key threads_from threads_on above_below above cause spaced cause_line cause_lines reason_of reason_refusal
    machine_after reason payments units_of total numbers_from payers shares_in share_line share_lines shares refused_from
    tried passes shorter
computing = tt
