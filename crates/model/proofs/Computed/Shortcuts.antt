-- "Shortcuts that look right": for each, a case in which it goes wrong, and what is right there, by computation.
-- Further cases tell other wrong definitions apart that P1 to P11 do not see.
-- Assumes nothing.
use Rattle.std.specs.Prelude.{refl, [], ◌∷◌}
use Rattle.model.specs.declared.Outcome.{Outcome}
use Rattle.model.specs.Examples.{definitions, report, plan, move, load, learned_is, links_are, marks_are, plan_gave, move_gave, load_gives}
use Rattle.model.specs.Examples.{on}
use Rattle.model.specs.Shortcuts.{AsExpected}

-- "Raising the learned value of waiting cells too: their cost may not be the least yet". Cell 0 waits at cost 1; the
-- length, 1, less that cost would be 0.
pub waiting_cells_keep_theirs : AsExpected (on 3 1 1 2 (plan ∷ []) (
    plan_gave (Outcome.Route 1) 1
    ∷ learned_is (2 ∷ 1 ∷ 0 ∷ 9 ∷ [])
    ∷ []))
unfolding on definitions
waiting_cells_keep_theirs = refl

-- "Updating with cost(s) alone when the search stopped before the goal: learned(s) is missing". The second search stops
-- at cell 1, where the first one's route still stands.
pub value_of_the_stop_counts : AsExpected (on 3 2 3 2 (plan ∷ report 0 ∷ plan ∷ []) (
    plan_gave (Outcome.Route 3) 2
    ∷ learned_is (2 ∷ 1 ∷ 0 ∷ 3 ∷ 2 ∷ 1 ∷ 9 ∷ [])
    ∷ links_are (0 ∷ 1 ∷ 0 ∷ 1 ∷ 4 ∷ 0 ∷ 9 ∷ [])
    ∷ []))
unfolding on definitions
value_of_the_stop_counts = refl

-- "Following an old link without comparing learned values: the distance beyond it may have grown". The record's links lead
-- down, right, right and up to the goal, past an open aisle: no route stands, and the next plan takes the aisle.
pub old_links_are_compared : AsExpected (on 3 2 0 2 (load (
    1 ∷ 0 ∷ 1 ∷ 3 ∷ 2 ∷ 0 ∷ 1 ∷ 2 ∷ 3 ∷ 0 ∷ 2 ∷ 0 ∷ 2 ∷ 4 ∷ 0 ∷ 2 ∷ 0 ∷ 0 ∷ 5 ∷ 0 ∷ 1 ∷ 0
    ∷ 6 ∷ 0 ∷ 12 ∷ 0 ∷ 2 ∷ 0 ∷ 1 ∷ 0 ∷ 0 ∷ 0 ∷ 3 ∷ 0 ∷ 2 ∷ 0 ∷ 1 ∷ 7 ∷ 0 ∷ 6 ∷ 2 ∷ 0 ∷ 0 ∷ 1 ∷ 1 ∷ 4 ∷ []) ∷ move ∷ plan ∷ []) (
    move_gave 6
    ∷ plan_gave (Outcome.Route 2) 2
    ∷ links_are (1 ∷ 1 ∷ 0 ∷ 1 ∷ 1 ∷ 4 ∷ 9 ∷ [])
    ∷ []))
unfolding on definitions
old_links_are_compared = refl

-- The same after a fresh layout: an old link leads past a cell from which the distance has grown.
pub grown_distances_are_compared : AsExpected
    (on 6 5 11 27 (report 28 ∷ plan ∷ report 21 ∷ report 10 ∷ plan ∷ report 16 ∷ plan ∷ []) (plan_gave (Outcome.Route 9) 10 ∷ []))
unfolding on definitions
grown_distances_are_compared = refl

-- "Clearing the blocked cell's link only, and not its neighbours'": after P2's plan and a report of cell 1, cell 0 has no link.
pub neighbours_links_are_cleared : AsExpected (on 3 1 0 2 (plan ∷ report 1 ∷ move ∷ []) (
    links_are (0 ∷ 0 ∷ 0 ∷ 9 ∷ [])
    ∷ move_gave 6
    ∷ []))
unfolding on definitions
neighbours_links_are_cleared = refl

-- "Updating learned values after "no way": there is no length to subtract from". Cell 0 keeps its 3.
pub no_way_teaches_nothing : AsExpected (on 4 1 1 3 (report 2 ∷ plan ∷ []) (
    plan_gave Outcome.NoWay 2
    ∷ learned_is (3 ∷ 2 ∷ 1 ∷ 0 ∷ 9 ∷ [])
    ∷ []))
unfolding on definitions
no_way_teaches_nothing = refl

-- Free neighbours two apart are not sound: 3×1, goal 2, learned 2, 0, 0.
pub neighbours_two_apart_are_unsound : AsExpected (on 3 1 0 2 [] (
    load_gives 4 (
    1 ∷ 0 ∷ 1 ∷ 3 ∷ 2 ∷ 0 ∷ 1 ∷ 1 ∷ 3 ∷ 0 ∷ 2 ∷ 0 ∷ 2 ∷ 4 ∷ 0 ∷ 2 ∷ 0 ∷ 0 ∷ 5 ∷ 0 ∷ 1 ∷ 0
    ∷ 6 ∷ 0 ∷ 6 ∷ 0 ∷ 2 ∷ 0 ∷ 0 ∷ 0 ∷ 0 ∷ 7 ∷ 0 ∷ 3 ∷ 0 ∷ 0 ∷ 0 ∷ [])
    ∷ []))
unfolding on definitions
neighbours_two_apart_are_unsound = refl

-- "among these the larger cost": cell 3 at cost 2 is taken before cell 2 at cost 1, and the search is over (P8).
pub larger_cost_goes_first : AsExpected (on 2 2 0 3 (plan ∷ []) (
    plan_gave (Outcome.Route 2) 2
    ∷ marks_are (2 ∷ 2 ∷ 1 ∷ 1 ∷ 9 ∷ [])
    ∷ []))
unfolding on definitions
larger_cost_goes_first = refl

-- "among these the lower cell number": the cart goes by the upper row (P9).
pub lower_number_goes_first : AsExpected (on 3 2 3 2 (plan ∷ []) (links_are (1 ∷ 1 ∷ 0 ∷ 4 ∷ 0 ∷ 0 ∷ 9 ∷ []) ∷ []))
unfolding on definitions
lower_number_goes_first = refl

-- "other links stay": the second search expands cell 0 too and lays its route by the lower row; cell 0 keeps its old link.
pub other_links_stay : AsExpected (on 4 2 4 3 (plan ∷ report 2 ∷ plan ∷ []) (
    plan_gave (Outcome.Route 4) 6
    ∷ links_are (1 ∷ 0 ∷ 0 ∷ 0 ∷ 1 ∷ 1 ∷ 1 ∷ 4 ∷ 9 ∷ [])
    ∷ []))
unfolding on definitions
other_links_stay = refl
