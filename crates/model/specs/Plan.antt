-- Plan.
use Rattle.std.specs.Prelude.{ℕ, zero, suc, ◌-◌, Bool, true, false, cond, List, ◌++◌, get_or, set, ltb, eqb, Ok, Err}
use Rattle.model.specs.Lists.{filled, tally}
use Rattle.model.specs.Plot.{cells, behind}
use Rattle.model.specs.Lent.{Lent, Scratch, lent_with, buffers_of, scratch_buffers}
use Rattle.model.specs.Head.{cells_of, cells_named}
use Rattle.model.specs.Route.{leads_from}
use Rattle.model.specs.Refusals.{check}
use Rattle.model.specs.Search.{begun, total, Ended, stopped_at, nothing_waits, out_of_iterations, run}
use Rattle.model.specs.declared.Head.{Head}
use Rattle.model.specs.Verdict.{Verdict}
use Rattle.model.specs.declared.Outcome.{Outcome}
use Rattle.model.specs.declared.Planned.{Planned}

-- an answer, and what is lent and the scratch afterwards
pub record AfterPlan : Type 0 where
  pub answer : Planned
  pub lists : Lent
  pub scratch : Scratch

abbrev pub after_plan : Planned → Lent → Scratch → AfterPlan
after_plan answer p s = record { answer = answer; lists = p; scratch = s }

abbrev pub answered : Head → (count : ℕ) → Outcome → Planned
answered head count outcome = record { head = head; expanded = count; outcome = outcome }

unfoldable pub plan_check : Head → Lent → Scratch → Verdict
plan_check head p s = check head p (scratch_buffers s ++ buffers_of p) (cells_named head)

-- "If from it links lead to the goal with the learned value falling by exactly 1 each step .. stop there"
unfoldable pub searched : Head → Lent → Scratch → Ended
searched head p s =
    run head.width head.height p (leads_from head.width head.height head.goal p) (cells_of head)
    (begun (cells_of head) head.cell s)

abbrev pub is_expanded : (mark : List ℕ) (x : ℕ) → Bool
is_expanded mark x = eqb (get_or mark x 0) 2

-- "the number of cells marked 2"
unfoldable pub expanded_count : (n : ℕ) (mark : List ℕ) → ℕ
expanded_count n mark = tally n (is_expanded mark)

-- "each expanded cell x gets learned = cost(s) + learned(s) - cost(x)": the learned value of x after a search that found
-- a route of this length. No expanded cell costs more than the length (proofs/Search/Lessons, `cost_within`)
unfoldable pub lesson : (length : ℕ) (learned mark cost : List ℕ) (x : ℕ) → ℕ
lesson length learned mark cost x = cond (is_expanded mark x) (length - get_or cost x 0) (get_or learned x 0)

-- the learned values of n cells after it
abbrev pub raised : (n length : ℕ) (learned mark cost : List ℕ) → List ℕ
raised n length learned mark cost = filled n (lesson length learned mark cost) learned

-- "links are set along the trail from the cart's cell to s; other links stay": back from c, whose cost is v. The test
-- keeps a trail that no search left on the plot; a search's trail never leaves it (proofs/Search/Trail, `trail_stays`)
unfoldable pub relinked : (w h : ℕ) (trail : List ℕ) (v c : ℕ) → List ℕ → List ℕ
relinked w h trail zero c link = link
relinked w h trail (suc v) c link =
    let d = get_or trail c 0 in
    let b = behind w h c d in
    elim (ltb b (cells w h)) [ true ↦ relinked w h trail v b (set link b d) | false ↦ link ]

-- stopped at c with this scratch
unfoldable pub improved : (w h : ℕ) → Lent → (c : ℕ) → Scratch → Lent
improved w h p c s =
    lent_with p.ground
    (raised (cells w h) (total p.learned s.cost c) p.learned s.mark s.cost)
    (relinked w h s.trail (get_or s.cost c 0) c p.link)

-- "Stopped at s: .. Answer: route, length cost(s) + learned(s)"
abbrev pub found : Head → Lent → (c : ℕ) → Scratch → AfterPlan
found head p c s =
    after_plan (answered head (expanded_count (cells_of head) s.mark) (Outcome.Route (total p.learned s.cost c)))
    (improved head.width head.height p c s)
    s

-- "Nothing waits: answer "no way"; learned and link stay, scratch is as the search left it"
abbrev pub lost : Head → Lent → Scratch → AfterPlan
lost head p s = after_plan (answered head (expanded_count (cells_of head) s.mark) Outcome.NoWay) p s

-- a search never runs out of iterations
unfoldable pub concluded : Head → Lent → Ended → AfterPlan
concluded head p (stopped_at c s) = found head p c s
concluded head p (nothing_waits s) = lost head p s
concluded head p (out_of_iterations s) = lost head p s

-- "if the cart is on the goal the answer is "arrived", and nothing changes, scratch included"
unfoldable pub planned : Head → Lent → Scratch → AfterPlan
planned head p s =
    elim (plan_check head p s) [
      | Ok _ ↦ elim (eqb head.cell head.goal) [
        | true ↦ after_plan (answered head 0 Outcome.Arrived) p s
        | false ↦ concluded head p (searched head p s)
      ]
      | Err why ↦ after_plan (answered head 0 (Outcome.Refused why)) p s
    ]
