-- P1 to P11 of document 01: one table, and what is seen in each example. The one statement over the table is proved in
-- proofs/Computed/Examples. Lent buffers have one entry more than they need, and hold 9s where nothing was written.
use Rattle.std.specs.Prelude.{List, [], ◌∷◌, map, ℕ, ◌+◌, ◌*◌, replicate, Ok, Result}
use Rattle.model.specs.Lists.{every, tally, filled, gathered}
use Rattle.model.specs.Plot.{bad_sides, ahead, allowed, distance}
use Rattle.model.specs.Lent.{Lent, Scratch, lent_with, scratch_with}
use Rattle.model.specs.Head.{cells_of}
use Rattle.model.specs.Sound.{ground_sound, learned_sound, step_close, cell_close, neighbours_close, link_entry, links_sound, sound}
use Rattle.model.specs.Route.{leads, cells_from, route}
use Rattle.model.specs.Numbers.{verdict_number, step_verdict, given_number}
use Rattle.model.specs.Refusals.{fits, check}
use Rattle.model.specs.Layout.{layout_check, fresh, laid_out}
use Rattle.model.specs.Report.{report_check, link_once_blocked, unlinked, blocked, reported}
use Rattle.model.specs.Search.{begun, smaller_first, earlier, sooner, best, looked, expanded, run}
use Rattle.model.specs.Plan.{plan_check, searched, expanded_count, lesson, relinked, improved, concluded, planned}
use Rattle.model.specs.Move.{moved}
use Rattle.model.specs.Record.{low_bits, ground_byte, learned_bytes, record_of, record_length, head_of, ground_in, learned_in, link_in, read_into, same}
use Rattle.model.specs.Record.{sides_formed, formed}
use Rattle.model.specs.Store.{save_check, saved, load_check, loaded}
use Rattle.model.specs.Listing.{list_check, listed, list_question}
use Rattle.model.specs.Controller.{on_record, reported_c, planned_c, moved_c}
use Rattle.model.specs.declared.Head.{Head}
use Rattle.model.specs.declared.Outcome.{Outcome}
use Rattle.model.specs.declared.Reason.{Reason}
use Rattle.model.specs.declared.Step.{Step}

-- to unfold this is to unfold every definition that the examples compute with
unfoldable pub definitions : ℕ
unfolding every tally filled gathered
    bad_sides ahead allowed distance
    ground_sound learned_sound step_close cell_close neighbours_close link_entry links_sound sound
    leads cells_from route
    fits check layout_check fresh laid_out
    report_check link_once_blocked unlinked blocked reported
    begun smaller_first earlier sooner best looked expanded run
    plan_check searched expanded_count lesson relinked improved concluded planned
    moved list_check listed list_question
    low_bits ground_byte learned_bytes record_of head_of ground_in learned_in link_in read_into same sides_formed formed
    save_check saved load_check loaded
    on_record reported_c planned_c moved_c
definitions = 0

pub data ExampleCall : Type 0 where
  report : (cell : ℕ) → ExampleCall
  plan : ExampleCall
  move : ExampleCall
  load : (bytes : List ℕ) → ExampleCall

-- one thing to look at after the calls, with what it should be
pub data Seen : Type 0 where
  cart_on : ℕ → Seen
  learned_is links_are marks_are costs_are trail_is : List ℕ → Seen
  -- the last plan's answer and its count of expanded cells
  plan_gave : Outcome → (count : ℕ) → Seen
  -- the last move's refusal number, or 0
  move_gave : ℕ → Seen
  -- the length that save answers, and the buffer afterwards
  save_gives : ℕ → List ℕ → Seen
  -- the number of load's refusal of these bytes, or 0
  load_gives : ℕ → List ℕ → Seen
  -- the length of a record of so many cells
  length_at : (cells length : ℕ) → Seen

-- a fresh layout, then calls, then what is seen
pub record Example : Type 0 where
  pub width : ℕ
  pub height : ℕ
  pub start : ℕ
  pub goal : ℕ
  pub calls : List ExampleCall
  pub seen : List Seen

-- a state between calls, with the last answers
pub record Situation : Type 0 where
  pub head : Head
  pub lists : Lent
  pub work : Scratch
  pub outcome : Outcome
  pub count : ℕ
  pub step : Result Step Reason

abbrev pub room : ℕ → List ℕ
room n = replicate (n + 1) 9

abbrev pub roomy : ℕ → Lent
roomy n = lent_with (room n) (room n) (room n)

abbrev pub begin : Example → Situation
begin e =
    let n = e.width * e.height in
    let r = laid_out e.width e.height e.start e.goal (roomy n) in
    record {
      head = r.answer.head;
      lists = r.lists;
      work = scratch_with (room n) (room n) (room n);
      outcome = Outcome.NoWay;
      count = 0;
      step = Ok Step.Moved;
    }

abbrev pub call : Situation → ExampleCall → Situation
call s (report c) =
    let r = reported s.head s.lists c in
    record { head = r.answer.head; lists = r.lists; work = s.work; outcome = s.outcome; count = s.count; step = s.step }
call s plan =
    let r = planned s.head s.lists s.work in
    record { head = r.answer.head; lists = r.lists; work = r.scratch; outcome = r.answer.outcome; count = r.answer.expanded; step = s.step }
call s move =
    let r = moved s.head s.lists in
    record { head = r.answer.head; lists = r.lists; work = s.work; outcome = s.outcome; count = s.count; step = r.answer.step }
call s (load bytes) =
    let r = loaded bytes s.lists in
    record { head = r.answer.head; lists = r.lists; work = s.work; outcome = s.outcome; count = s.count; step = s.step }

abbrev pub call_all : Situation → List ExampleCall → Situation
call_all s [] = s
call_all s (c ∷ cs) = call_all (call s c) cs

-- the same thing, as it is
abbrev pub look : Situation → Seen → Seen
look s (cart_on c) = cart_on s.head.cell
look s (learned_is l) = learned_is s.lists.learned
look s (links_are l) = links_are s.lists.link
look s (marks_are l) = marks_are s.work.mark
look s (costs_are l) = costs_are s.work.cost
look s (trail_is l) = trail_is s.work.trail
look s (plan_gave o n) = plan_gave s.outcome s.count
look s (move_gave n) = move_gave (verdict_number (step_verdict s.step))
look s (save_gives n l) =
    let r = saved s.head s.lists (room (record_length (cells_of s.head))) in
    save_gives (given_number r.answer.length) r.buffer
look s (load_gives n l) = load_gives (verdict_number (loaded l (roomy 3)).answer.verdict) l
look s (length_at n l) = length_at n (record_length n)

abbrev pub as_is : Example → List Seen
as_is e = map (look (call_all (begin e) e.calls)) e.seen

abbrev pub as_expected : Example → List Seen
as_expected e = e.seen

unfoldable pub on : (w h start goal : ℕ) → List ExampleCall → List Seen → Example
on w h start goal calls seen = record { width = w; height = h; start = start; goal = goal; calls = calls; seen = seen }

unfoldable pub table : List Example
table =
    -- P1
    on 1 1 0 0 (plan ∷ []) (
    learned_is (0 ∷ 9 ∷ [])
    ∷ plan_gave Outcome.Arrived 0
    ∷ marks_are (9 ∷ 9 ∷ [])
    ∷ [])
    -- P2
    ∷ on 3 1 0 2 (plan ∷ []) (
    plan_gave (Outcome.Route 2) 2
    ∷ learned_is (2 ∷ 1 ∷ 0 ∷ 9 ∷ [])
    ∷ links_are (1 ∷ 1 ∷ 0 ∷ 9 ∷ [])
    ∷ marks_are (2 ∷ 2 ∷ 1 ∷ 9 ∷ [])
    ∷ costs_are (0 ∷ 1 ∷ 2 ∷ 9 ∷ [])
    ∷ trail_is (0 ∷ 1 ∷ 1 ∷ 9 ∷ [])
    ∷ [])
    -- P3
    ∷ on 3 1 0 2 (plan ∷ plan ∷ []) (
    plan_gave (Outcome.Route 2) 0
    ∷ marks_are (1 ∷ 0 ∷ 0 ∷ 9 ∷ [])
    ∷ costs_are (0 ∷ 65535 ∷ 65535 ∷ 9 ∷ [])
    ∷ [])
    -- P4
    ∷ on 3 1 0 2 (plan ∷ move ∷ []) (
    move_gave 0
    ∷ cart_on 1
    ∷ links_are (0 ∷ 1 ∷ 0 ∷ 9 ∷ [])
    ∷ [])
    -- P5
    ∷ on 3 1 0 2 (report 1 ∷ plan ∷ []) (
    plan_gave Outcome.NoWay 1
    ∷ learned_is (2 ∷ 1 ∷ 0 ∷ 9 ∷ [])
    ∷ marks_are (2 ∷ 0 ∷ 0 ∷ 9 ∷ [])
    ∷ [])
    -- P6
    ∷ on 3 1 0 2 (plan ∷ report 1 ∷ move ∷ []) (
    links_are (0 ∷ 0 ∷ 0 ∷ 9 ∷ [])
    ∷ move_gave 6
    ∷ cart_on 0
    ∷ [])
    -- P7
    ∷ on 3 2 0 2 (report 1 ∷ plan ∷ []) (
    plan_gave (Outcome.Route 4) 4
    ∷ learned_is (4 ∷ 1 ∷ 0 ∷ 3 ∷ 2 ∷ 1 ∷ 9 ∷ [])
    ∷ links_are (2 ∷ 0 ∷ 0 ∷ 1 ∷ 1 ∷ 4 ∷ 9 ∷ [])
    ∷ [])
    -- P8
    ∷ on 2 2 0 3 (plan ∷ []) (
    plan_gave (Outcome.Route 2) 2
    ∷ links_are (1 ∷ 2 ∷ 0 ∷ 0 ∷ 9 ∷ [])
    ∷ marks_are (2 ∷ 2 ∷ 1 ∷ 1 ∷ 9 ∷ [])
    ∷ [])
    -- P9
    ∷ on 3 2 3 2 (plan ∷ []) (
    plan_gave (Outcome.Route 3) 3
    ∷ links_are (1 ∷ 1 ∷ 0 ∷ 4 ∷ 0 ∷ 0 ∷ 9 ∷ [])
    ∷ [])
    -- P10, and that it loads
    ∷ on 2 1 0 1 [] (
    save_gives 34 (
    1 ∷ 0 ∷ 1 ∷ 2 ∷ 2 ∷ 0 ∷ 1 ∷ 1 ∷ 3 ∷ 0 ∷ 2 ∷ 0 ∷ 1 ∷ 4 ∷ 0 ∷ 2 ∷ 0 ∷ 0 ∷ 5 ∷ 0 ∷ 1 ∷ 0
    ∷ 6 ∷ 0 ∷ 4 ∷ 0 ∷ 1 ∷ 0 ∷ 0 ∷ 7 ∷ 0 ∷ 2 ∷ 0 ∷ 0 ∷ 9 ∷ [])
    ∷ load_gives 0 (
    1 ∷ 0 ∷ 1 ∷ 2 ∷ 2 ∷ 0 ∷ 1 ∷ 1 ∷ 3 ∷ 0 ∷ 2 ∷ 0 ∷ 1 ∷ 4 ∷ 0 ∷ 2 ∷ 0 ∷ 0 ∷ 5 ∷ 0 ∷ 1 ∷ 0
    ∷ 6 ∷ 0 ∷ 4 ∷ 0 ∷ 1 ∷ 0 ∷ 0 ∷ 7 ∷ 0 ∷ 2 ∷ 0 ∷ 0 ∷ [])
    ∷ [])
    -- P11
    ∷ on 2 1 0 1 [] (
    load_gives 4 (
    1 ∷ 0 ∷ 1 ∷ 2 ∷ 2 ∷ 0 ∷ 1 ∷ 1 ∷ 3 ∷ 0 ∷ 2 ∷ 0 ∷ 1 ∷ 4 ∷ 0 ∷ 2 ∷ 0 ∷ 0 ∷ 5 ∷ 0 ∷ 1 ∷ 0
    ∷ 6 ∷ 0 ∷ 4 ∷ 0 ∷ 2 ∷ 0 ∷ 0 ∷ 7 ∷ 0 ∷ 2 ∷ 0 ∷ 0 ∷ [])
    ∷ [])
    -- the shortest record, and the longest
    ∷ on 1 1 0 0 [] (
    length_at 1 31
    ∷ length_at 4096 12827
    ∷ [])
    ∷ []
