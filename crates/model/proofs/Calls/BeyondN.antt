-- "entries beyond N are never touched": no call changes a lent list's length or an entry from N on. Plan's is in
-- PlanBeyond.
-- Assumes nothing.
use mathlib.Core.Path.{◌≡◌, refl, ◌∙◌}
use mathlib.Core.List.{List}
use Prim.Native.Nat.{ℕ, zero, suc, ◌≤◌, ◌<◌}
use native.Mathlib.Omega.{arith}
use lib.ListN.{length, drop, set, length-set}
use lib.Seq.{drop-set-lt}
use Rattle.model.specs.Lists.{filled}
use Rattle.model.specs.Plot.{cells}
use Rattle.model.specs.Lent.{Lent, Scratch, After}
use Rattle.model.specs.Head.{cells_of}
use Rattle.model.specs.Layout.{fresh, laid_out}
use Rattle.model.specs.Report.{unlinked, reported}
use Rattle.model.specs.Move.{moved}
use Rattle.model.specs.Record.{head_of, read_into}
use Rattle.model.specs.Store.{loaded}
use Rattle.model.specs.declared.Head.{Head}
use Rattle.model.specs.declared.Changed.{Changed}
use Rattle.model.specs.declared.Moved.{Moved}
use Rattle.model.proofs.Calls.LayoutLaws.{LayingOut, layout_refused, layout_laid, layout_is}
use Rattle.model.proofs.Calls.ReportLaws.{Reporting, report_refused, report_taken, report_is}
use Rattle.model.proofs.Calls.ReportsCommute.{blocked_by}
use Rattle.model.proofs.Record.SaveAndLoad.{Loading, load_refused, load_read, load_is}
use Rattle.model.proofs.Calls.MoveLaws.{Moving, move_refused, move_there, move_lost, move_went, move_is}

-- l' has the length of l and its entries from n on
pub record Beyond (n : ℕ) (l l' : List ℕ) : Type 0 where
  pub long : length l' ≡ length l
  pub stays : drop n l' ≡ drop n l

pub beyond_same : (n : ℕ) (l : List ℕ) → Beyond n l l
beyond_same n l = record { long = refl; stays = refl }

pub beyond_trans : {n : ℕ} {l m k : List ℕ} → Beyond n l m → Beyond n m k → Beyond n l k
beyond_trans a b = record { long = b.long ∙ a.long; stays = b.stays ∙ a.stays }

pub beyond_set : (n : ℕ) (l : List ℕ) (i v : ℕ) → i < n → Beyond n l (set l i v)
beyond_set n l i v b = record { long = length-set l i v; stays = drop-set-lt n l i v b }

pub beyond_filled : (n k : ℕ) (entry : ℕ → ℕ) (l : List ℕ) → k ≤ n → Beyond n l (filled k entry l)
unfolding filled
beyond_filled n zero entry l b = beyond_same n l
beyond_filled n (suc k) entry l b = beyond_trans (beyond_filled n k entry l (omega arith)) (beyond_set n (filled k entry l) k (entry k) b)

-- the same of each list
pub record LentBeyond (n : ℕ) (p q : Lent) : Type 0 where
  pub ground : Beyond n p.ground q.ground
  pub learned : Beyond n p.learned q.learned
  pub link : Beyond n p.link q.link

pub record ScratchBeyond (n : ℕ) (s t : Scratch) : Type 0 where
  pub mark : Beyond n s.mark t.mark
  pub cost : Beyond n s.cost t.cost
  pub trail : Beyond n s.trail t.trail

pub lent_same : (n : ℕ) (p : Lent) → LentBeyond n p p
lent_same n p = record { ground = beyond_same n p.ground; learned = beyond_same n p.learned; link = beyond_same n p.link }

pub scratch_same : (n : ℕ) (s : Scratch) → ScratchBeyond n s s
scratch_same n s = record { mark = beyond_same n s.mark; cost = beyond_same n s.cost; trail = beyond_same n s.trail }

pub scratch_trans : {n : ℕ} {s t u : Scratch} → ScratchBeyond n s t → ScratchBeyond n t u → ScratchBeyond n s u
scratch_trans a b = record {
  mark = beyond_trans a.mark b.mark;
  cost = beyond_trans a.cost b.cost;
  trail = beyond_trans a.trail b.trail;
}

-- Layout, report, move, load ------------------------------------------------------------------------------------------------------

module _ (w h start goal : ℕ) (p : Lent) where
  laid : {r : After Changed} → LayingOut w h start goal p r → LentBeyond (cells w h) p r.lists
  unfolding fresh
  laid (layout_refused e) = lent_same (cells w h) p
  laid (layout_laid r m) = record {
    ground = beyond_filled (cells w h) (cells w h) _ p.ground (omega arith);
    learned = beyond_filled (cells w h) (cells w h) _ p.learned (omega arith);
    link = beyond_filled (cells w h) (cells w h) _ p.link (omega arith);
  }

  pub layout_beyond : LentBeyond (cells w h) p (laid_out w h start goal p).lists
  layout_beyond = laid (layout_is w h start goal p)

module _ (head : Head) (p : Lent) (c : ℕ) where
  told : {r : After Changed} → Reporting head p c r → LentBeyond (cells_of head) p r.lists
  unfolding unlinked
  told (report_refused e) = lent_same (cells_of head) p
  told (report_taken a i n) = blocked_by head p c (LentBeyond (cells_of head) p)
      (λ _. record {
        ground = beyond_set (cells_of head) p.ground c 1 i;
        learned = beyond_same (cells_of head) p.learned;
        link = beyond_filled (cells_of head) (cells_of head) _ p.link (omega arith);
      })
      (λ _. lent_same (cells_of head) p)

  pub report_beyond : LentBeyond (cells_of head) p (reported head p c).lists
  report_beyond = told (report_is head p c)

module _ (head : Head) (p : Lent) where
  went : {r : After Moved} → Moving head p r → LentBeyond (cells_of head) p r.lists
  went (move_refused e) = lent_same (cells_of head) p
  went (move_there a e) = lent_same (cells_of head) p
  went (move_lost a d t) = lent_same (cells_of head) p
  went (move_went a d t) = record {
    ground = beyond_same (cells_of head) p.ground;
    learned = beyond_same (cells_of head) p.learned;
    link = beyond_set (cells_of head) p.link head.cell 0 a.placed.cart_on;
  }

  pub move_beyond : LentBeyond (cells_of head) p (moved head p).lists
  move_beyond = went (move_is head p)

module _ (bytes : List ℕ) (p : Lent) where
  read : {r : After Changed} → Loading bytes p r → LentBeyond (cells_of (head_of bytes)) p r.lists
  unfolding read_into
  read (load_refused e) = lent_same (cells_of (head_of bytes)) p
  read (load_read e) = record {
    ground = beyond_filled (cells_of (head_of bytes)) (cells_of (head_of bytes)) _ p.ground (omega arith);
    learned = beyond_filled (cells_of (head_of bytes)) (cells_of (head_of bytes)) _ p.learned (omega arith);
    link = beyond_filled (cells_of (head_of bytes)) (cells_of (head_of bytes)) _ p.link (omega arith);
  }

  pub load_beyond : LentBeyond (cells_of (head_of bytes)) p (loaded bytes p).lists
  load_beyond = read (load_is bytes p)
