-- Lists as the theory of walks reads them: entries as functions, links as a relation, scratch as a search's state.
-- Assumes nothing.
use mathlib.Core.Path.{◌≡◌, ◌∙◌}
use mathlib.Core.Logic.{◌≢◌}
use mathlib.Core.Bool.{cond}
use mathlib.Core.List.{List}
use Prim.Native.Nat.{ℕ, ◌≤◌, ◌<◌}
use native.Mathlib.Decide.{dec_lt}
use native.Mathlib.Omega.{arith}
use borrow.Author.Tests.{lt-ltb, le-ltb}
use lib.Dec.{ltb}
use lib.ListN.{length, get_or, set}
use lib.Seq.{get_or-set_same, get_or-set_other}
use Rattle.walks.specs.Search.{State}
use Rattle.model.specs.Lent.{Scratch}
use Rattle.model.specs.Ways.{Leg}

abbrev pub at : List ℕ → ℕ → ℕ
at l x = get_or l x 0

-- the link of x points to y
abbrev pub Link : (w h : ℕ) (ground link : List ℕ) (x y : ℕ) → Type 0
Link w h ground link x y = Leg w h ground (get_or link x 0) x y

-- the mark of a cell of the plot; what lies beyond the plot is unseen
unfoldable pub mark_in : (n : ℕ) (mark : List ℕ) (x : ℕ) → ℕ
mark_in n mark x = cond (ltb x n) (get_or mark x 0) 0

abbrev pub view : (n : ℕ) → Scratch → State
view n s = record { mark = mark_in n s.mark; cost = at s.cost; trail = at s.trail }

module _ (n : ℕ) (mark : List ℕ) (x : ℕ) where
  pub mark_on : x < n → mark_in n mark x ≡ get_or mark x 0
  unfolding mark_in
  mark_on l = rw (lt-ltb x n l)

  pub mark_off : n ≤ x → mark_in n mark x ≡ 0
  unfolding mark_in
  mark_off l = rw (le-ltb x n l)

  -- a seen cell is on the plot
  pub seen_inside : 1 ≤ mark_in n mark x → x < n
  seen_inside l = go (dec_lt x n)
    where
      go : Dec (x < n) → x < n
      go (yes i) = i
      go (no o) = absurd (omega (arith, mark_off (omega arith)))

-- setting a mark
pub mark_set_same : (n : ℕ) (mark : List ℕ) (x v : ℕ) → n ≤ length mark → x < n → mark_in n (set mark x v) x ≡ v
mark_set_same n mark x v r l = mark_on n (set mark x v) x l ∙ get_or-set_same mark x v 0 (omega arith)

pub mark_set_other : (n : ℕ) (mark : List ℕ) (x y v : ℕ) → y ≢ x → mark_in n (set mark x v) y ≡ mark_in n mark y
unfolding mark_in
mark_set_other n mark x y v d = rw (get_or-set_other mark x y v 0 d)
