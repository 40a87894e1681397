-- What the core of plan is handed: the tests have passed, and there is room to work.
use Rattle.std.specs.Prelude.{◌≡◌, List, ℕ, Ok}
use Rattle.model.specs.Head.{cells_of}
use Rattle.model.specs.Lent.{Lent, Scratch}
use Rattle.model.specs.Plan.{plan_check}
use Rattle.model.specs.declared.Head.{Head}
use Rattle.search.specs.Workspace.{Workspace}
use Rattle.search.specs.declared.lent.Scratch as scratch
use Rattle.search.specs.declared.lent.Workspace as space
use Rattle.search.specs.LentLists.{scratch_of}

-- (a record, so that laws over it find the head, the lists and the scratch by themselves)
pub record Passed (head : Head) (p : Lent) (s : Scratch) : Type 0 where
  pub accepted : plan_check head p s ≡ Ok tt

-- the working space has room for the cells of the plot
pub record Planable (head : Head) (p : Lent) (s : Scratch) (heap place gone list : List ℕ) : Type 0 where
  pub passed : Passed head p s
  pub space : Workspace (cells_of head) heap place gone list

-- the same, said of the lists that plan is lent
abbrev pub CanPlan : Head → Lent → scratch.Scratch → space.Workspace → Type 0
CanPlan head p s w = Planable head p (scratch_of s) w.heap.now w.place.now w.gone.now w.list.now
