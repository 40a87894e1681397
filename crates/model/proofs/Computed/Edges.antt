-- Document 01's edges, each refusal and its order, list and its question, and the C calls' numbers, by computation.
-- Assumes nothing.
use Rattle.std.specs.Prelude.{◌≡◌, refl, [], ◌∷◌}
use Rattle.model.specs.Head.{head_at}
use Rattle.model.specs.Listing.{listed, list_question}
use Rattle.model.specs.Store.{loaded}
use Rattle.model.specs.Controller.{reported_c, planned_c, moved_c}
use Rattle.model.specs.Examples.{definitions}
use Rattle.model.specs.Edges.{nines, lent_of, pair, layout, report, plan, move, save, load, bytes_of}

-- "side 64 accepted, 65 and 0 give 1"
pub side_limits :
    layout 64 1 0 0 64 64 64 ∷ layout 1 64 0 0 64 64 64 ∷ layout 65 1 0 0 65 65 65 ∷ layout 1 65 0 0 65 65 65 ∷ layout 0 1 0 0 1 1 1
    ∷ layout 1 0 0 0 1 1 1 ∷ []
    ≡ 0 ∷ 0 ∷ 1 ∷ 1 ∷ 1 ∷ 1 ∷ []
unfolding definitions
side_limits = refl

-- "cell N-1 accepted, N gives 3": layout's start and goal, a head's goal and cell, a reported cell
pub cell_limits :
    layout 2 1 1 1 2 2 2 ∷ layout 2 1 2 1 2 2 2 ∷ layout 2 1 1 2 2 2 2 ∷ report 2 1 1 0 1 (pair 1 0) ∷ report 2 1 1 0 2 (pair 1 0)
    ∷ report 2 1 2 0 1 (pair 1 0) ∷ report 2 1 1 2 1 (pair 1 0) ∷ []
    ≡ 0 ∷ 3 ∷ 3 ∷ 0 ∷ 3 ∷ 3 ∷ 3 ∷ []
unfolding definitions
cell_limits = refl

-- "buffers of N accepted, N-1 give 2"
pub buffer_limits :
    layout 2 1 0 1 2 2 2 ∷ layout 2 1 0 1 1 2 2 ∷ layout 2 1 0 1 2 1 2 ∷ layout 2 1 0 1 2 2 1 ∷ plan 2 1 1 0 2 2 2 (pair 1 0)
    ∷ plan 2 1 1 0 1 2 2 (pair 1 0) ∷ plan 2 1 1 0 2 1 2 (pair 1 0) ∷ plan 2 1 1 0 2 2 1 (pair 1 0)
    ∷ save 34 (pair 1 0) ∷ save 33 (pair 1 0) ∷ []
    ≡ 0 ∷ 2 ∷ 2 ∷ 2 ∷ 0 ∷ 2 ∷ 2 ∷ 2 ∷ 34 ∷ 70002 ∷ []
unfolding definitions
buffer_limits = refl

-- "learned N-1 can be sound, N never; reporting the cart's cell gives 5"; move without a route gives 6
pub data_limits : report 2 1 1 0 1 (pair 1 0) ∷ report 2 1 1 0 1 (pair 2 0) ∷ report 2 1 1 0 0 (pair 1 0) ∷ move 2 1 1 0 (pair 1 0)
    ∷ move 2 1 1 0 (pair 1 1) ∷ move 2 1 0 0 (pair 0 0) ∷ [] ≡ 0 ∷ 4 ∷ 5 ∷ 6 ∷ 0 ∷ 0 ∷ []
unfolding definitions
data_limits = refl

-- "Order 1, 2, 3, 4, 5, 6": each call below has all the later faults too
pub refusal_order :
    report 0 1 9 9 9 (lent_of 0 0 0) ∷ report 2 1 9 9 9 (lent_of 1 2 2) ∷ report 2 1 9 0 0 (pair 2 0) ∷ report 2 1 1 0 0 (pair 2 0)
    ∷ report 2 1 1 0 0 (pair 1 0)
    ∷ plan 65 1 9 9 0 0 0 (pair 2 0) ∷ plan 2 1 9 9 0 0 0 (pair 2 0) ∷ plan 2 1 9 9 2 2 2 (pair 2 0) ∷ plan 2 1 1 0 2 2 2 (pair 2 0)
    ∷ move 2 1 1 0 (pair 2 0) ∷ []
    ≡ 1 ∷ 2 ∷ 3 ∷ 4 ∷ 5 ∷ 1 ∷ 2 ∷ 3 ∷ 4 ∷ 4 ∷ []
unfolding definitions
refusal_order = refl

-- "the list buffer's 2 comes after 6, the save buffer's after 4"; list writes the front of its buffer, and its question agrees
pub list_and_question :
    list_question (head_at 2 1 1 0) (pair 2 1) [] ∷ list_question (head_at 2 1 1 0) (pair 1 0) [] ∷ list_question (head_at 2 1 1 0) (pair 1 1) (nines 1)
    ∷ list_question (head_at 2 1 1 0) (pair 1 1) (nines 2)
    ∷ save 0 (pair 2 0) ∷ []
    ≡ 4 ∷ 6 ∷ 2 ∷ 0 ∷ 70004 ∷ []
unfolding definitions
list_and_question = refl

pub list_writes_the_route : listed (head_at 2 1 1 0) (pair 1 1) (nines 3) ≡ record { front = 0 ∷ 1 ∷ []; buffer = 0 ∷ 1 ∷ 9 ∷ [] }
unfolding definitions
list_writes_the_route = refl

-- "Load: 8 for the first two fields, 1, 8 for the rest, 3, 2, 4": each record below has all the later faults too
pub load_order :
    load [] 0 0 0 ∷ load (1 ∷ 0 ∷ 1 ∷ 0 ∷ 2 ∷ 0 ∷ 2 ∷ 0 ∷ []) 0 0 0 ∷ load (1 ∷ 0 ∷ 1 ∷ 2 ∷ 2 ∷ 0 ∷ 1 ∷ 65 ∷ []) 0 0 0
    ∷ load (bytes_of 2 1 9 9 4 2 []) 0 0 0 ∷ load (bytes_of 2 1 1 0 0 2 (7 ∷ [])) 0 0 0 ∷ load (bytes_of 2 1 2 0 0 2 []) 0 0 0
    ∷ load (bytes_of 2 1 1 0 0 2 []) 1 2 2 ∷ load (bytes_of 2 1 1 0 0 2 []) 2 2 2 ∷ load (bytes_of 2 1 1 0 0 1 []) 2 2 2 ∷ []
    ≡ 8 ∷ 8 ∷ 1 ∷ 8 ∷ 8 ∷ 3 ∷ 2 ∷ 4 ∷ 0 ∷ []
unfolding definitions
load_order = refl

-- "Load checks all before it writes": a record that is not sound, P11, leaves every entry
pub load_checks_first : (loaded (bytes_of 2 1 1 0 0 2 []) (lent_of 2 2 2)).lists ≡ lent_of 2 2 2
unfolding definitions
load_checks_first = refl

-- The C calls: "plan gives the length (0 arrived) or 65,535 for no way; move gives the cell the cart is then on; report gives
-- 0; a refusal n is 70,000 + n", and "a reported cell of N or more in an unsound record gives 4"
pub c_plan_answers :
    (planned_c (bytes_of 2 1 1 0 0 1 [])).answer ∷ (planned_c (bytes_of 2 1 0 0 0 0 [])).answer ∷ (planned_c (bytes_of 2 1 1 0 2 1 [])).answer
    ∷ (planned_c (bytes_of 2 1 1 0 0 2 [])).answer ∷ (planned_c (bytes_of 2 1 1 0 0 1 (0 ∷ []))).answer ∷ []
    ≡ 1 ∷ 0 ∷ 65535 ∷ 70004 ∷ 70008 ∷ []
unfolding definitions
c_plan_answers = refl

pub c_report_answers :
    (reported_c (bytes_of 2 1 1 0 0 1 []) 1).answer ∷ (reported_c (bytes_of 2 1 1 0 0 1 []) 0).answer ∷ (reported_c (bytes_of 2 1 1 0 0 1 []) 2).answer
    ∷ (reported_c (bytes_of 2 1 1 0 0 2 []) 2).answer ∷ []
    ≡ 0 ∷ 70005 ∷ 70003 ∷ 70004 ∷ []
unfolding definitions
c_report_answers = refl

-- plan lays cell 0's link, and move takes the cart along it; without a link it is refused
pub c_move_answers : (moved_c (planned_c (bytes_of 2 1 1 0 0 1 [])).bytes).answer ∷ (moved_c (bytes_of 2 1 1 0 0 1 [])).answer
    ∷ (moved_c (bytes_of 2 1 0 0 0 0 [])).answer ∷ [] ≡ 1 ∷ 70006 ∷ 0 ∷ []
unfolding definitions
c_move_answers = refl
