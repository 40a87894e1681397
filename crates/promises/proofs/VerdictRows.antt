-- The verdict of each call, and that it follows the rows of the table.
-- Assumes nothing.
use Rattle.std.specs.Prelude.{Ok}
use mathlib.Core.Path.{◌≡◌, sym}
use mathlib.Core.Bool.{not}
use mathlib.Core.List.{List, [], ◌∷◌, ◌++◌}
use Prim.Native.Nat.{ℕ}
use lib.ListN.{length}
use Rattle.model.specs.Plot.{cells}
use Rattle.model.specs.Lent.{Lent, buffers_of, scratch_buffers}
use Rattle.model.specs.Head.{cells_of, cells_named}
use Rattle.model.specs.Route.{stands, route}
use Rattle.model.specs.Refusals.{refuse_if, and_then, fits, check, acceptance}
use Rattle.model.specs.Record.{record_length, head_of, read_into, sides_formed, formed}
use Rattle.model.specs.Layout.{layout_check}
use Rattle.model.specs.Report.{report_check}
use Rattle.model.specs.Plan.{plan_check}
use Rattle.model.specs.Listing.{list_check}
use Rattle.model.specs.Store.{save_check, load_check}
use Rattle.model.specs.Controller.{own_room, state_in}
use Rattle.model.specs.declared.Head.{Head}
use Rattle.model.specs.declared.Reason.{Reason}
use Rattle.model.specs.declared.Reason.TheVariants.{NoRoute}
use Rattle.model.specs.Verdict.{Verdict}
use Rattle.model.proofs.Calls.Acceptance.{held_accepts}
use Rattle.model.proofs.Calls.ReportLaws.{report_rest_law}
use Rattle.model.proofs.Record.RecordLaws.{load_held}
use Rattle.promises.specs.Asking.{Ask, layout, report, plan, move, list, question, save, load, report_c, plan_c, move_c}
use Rattle.promises.specs.Table.{Done, Sized, Checked, ListRows, LoadRows, Rows}
use Rattle.promises.proofs.TestsAreRows.{bad_sides_law, any_short_law, any_outside_law, too_short_law, equal, failing, unfit, routeless, least}
use Rattle.promises.proofs.TestsAreRows.{RowsFollow, done}
use Rattle.promises.proofs.TestsAreRows.{row, row_then, Chain, chain_end, same_verdict, then_then, then_accepted}

-- The shared tests --------------------------------------------------------------------------------------------------------------------

sized_then : (w h : ℕ) (buffers : List (List ℕ)) (names : List ℕ) {next : Verdict} {later : Reason → Type 0} → RowsFollow next later
    → Chain (fits w h buffers names) next (Sized w h buffers names later)
unfolding fits
sized_then w h buffers names f =
    row_then (bad_sides_law w h)
    (λ _. row_then (any_short_law (cells w h) buffers) (λ _. row_then (any_outside_law (cells w h) names) (λ _. chain_end f)))

module _ (head : Head) (p : Lent) (buffers : List (List ℕ)) (names : List ℕ) where
  checked_then : {next : Verdict} {later : Reason → Type 0} → RowsFollow next later
      → RowsFollow (and_then (check head p buffers names) next) (Checked head p buffers names later)
  unfolding check
  checked_then {next} f =
      same_verdict (then_then (fits head.width head.height buffers names) _ next)
      (sized_then head.width head.height buffers names (row_then (unfit head p) (λ _. chain_end f)).together).together

  checked : RowsFollow (check head p buffers names) (Checked head p buffers names Done)
  checked = same_verdict (sym (then_accepted (check head p buffers names))) (checked_then done)

-- The calls ---------------------------------------------------------------------------------------------------------------------------

-- move's 6: "on the goal, arrived", where a route stands too
abbrev pub move_check : Head → Lent → Verdict
move_check head p = and_then (acceptance head p) (refuse_if (not (stands head p)) NoRoute (Ok tt))

-- what a call over a record asks
abbrev pub record_check : (bytes : List ℕ) → Verdict → Verdict
record_check bytes own = and_then (load_check bytes own_room) own

unfoldable pub verdict : Ask → Verdict
verdict (layout w h start goal p) = layout_check w h start goal p
verdict (report head p c) = report_check head p c
verdict (plan head p s) = plan_check head p s
verdict (move head p) = move_check head p
verdict (list head p buffer) = list_check head p buffer
verdict (question head p buffer) = list_check head p buffer
verdict (save head p buffer) = save_check head p buffer
verdict (load bytes p) = load_check bytes p
verdict (report_c bytes c) = record_check bytes (report_check (head_of bytes) (state_in bytes) c)
verdict (plan_c bytes) = load_check bytes own_room
verdict (move_c bytes) = record_check bytes (move_check (head_of bytes) (state_in bytes))

listed : (head : Head) (p : Lent) (buffer : List ℕ) → RowsFollow (list_check head p buffer) (ListRows head p buffer)
unfolding list_check
listed head p buffer =
    checked_then head p (buffers_of p) (cells_named head) (row (routeless head p) (row (too_short_law (length (route head p)) buffer) done))

-- load, and what may count on it
loaded_then : (bytes : List ℕ) (p : Lent) {next : Verdict} {later : Reason → Type 0} → (load_check bytes p ≡ Ok tt → RowsFollow next later)
    → RowsFollow (and_then (load_check bytes p) next) (LoadRows bytes p later)
unfolding load_check
loaded_then bytes p f =
    let head = head_of bytes in
    let n = cells_of head in
    (row_then (failing (sides_formed bytes)) (λ a.
    row_then (bad_sides_law head.width head.height) (λ b.
    row_then (failing (formed bytes)) (λ c.
    row_then (any_outside_law n (cells_named head)) (λ d.
    row_then (any_short_law n (buffers_of p)) (λ e.
    row_then (unfit head (read_into n bytes p)) (λ g.
    chain_end (f (rw (load_check, a, b, c, d, e, g)))))))))).together

-- THE VERDICT of every call follows its rows.
pub follows : (a : Ask) → RowsFollow (verdict a) (Rows a)
unfolding verdict Rows layout_check report_check plan_check save_check
follows (layout w h start goal p) = same_verdict (sym (then_accepted _)) (sized_then w h (buffers_of p) (goal ∷ start ∷ []) done).together
follows (report head p c) = checked_then head p (buffers_of p) (c ∷ cells_named head) (row (equal c head.cell) done)
follows (plan head p s) = checked head p (scratch_buffers s ++ buffers_of p) (cells_named head)
follows (move head p) = checked_then head p (buffers_of p) (cells_named head) (row (routeless head p) done)
follows (list head p buffer) = listed head p buffer
follows (question head p buffer) = listed head p buffer
follows (save head p buffer) = checked_then head p (buffers_of p) (cells_named head) (row (too_short_law (record_length (cells_of head)) buffer) done)
follows (load bytes p) = same_verdict (sym (then_accepted (load_check bytes p))) (loaded_then bytes p (λ _. done))
follows (report_c bytes c) =
    loaded_then bytes own_room (λ e.
    same_verdict (report_rest_law (head_of bytes) (state_in bytes) c (load_held bytes own_room e))
    (row (least (cells_of (head_of bytes)) c) (row (equal c (head_of bytes).cell) done)))
follows (plan_c bytes) = same_verdict (sym (then_accepted (load_check bytes own_room))) (loaded_then bytes own_room (λ _. done))
follows (move_c bytes) =
    loaded_then bytes own_room (λ e.
    same_verdict (rw (held_accepts (head_of bytes) (state_in bytes) (load_held bytes own_room e)))
    (row (routeless (head_of bytes) (state_in bytes)) done))
