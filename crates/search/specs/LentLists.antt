-- The lists that a search is lent.
use Rattle.std.specs.Prelude.{◌≡◌, ℕ, length}
use Rattle.model.specs.Lent.{scratch_with}
use Rattle.model.specs.Lent as model
use Rattle.search.specs.Workspace as room
use Rattle.search.specs.declared.lent.Scratch.{Scratch}
use Rattle.search.specs.declared.lent.Workspace.{Workspace}

-- what scratch holds
abbrev pub scratch_of : Scratch → model.Scratch
scratch_of s = scratch_with s.mark.now s.cost.now s.trail.now

-- what a call leaves of the scratch that it changes: the same lists, and no shorter or longer
pub record SameScratch (old new : Scratch) : Type 0 where
  pub mark : new.mark.ghost_name ≡ old.mark.ghost_name
  pub cost : new.cost.ghost_name ≡ old.cost.ghost_name
  pub trail : new.trail.ghost_name ≡ old.trail.ghost_name
  pub mark_long : length new.mark.now ≡ length old.mark.now
  pub cost_long : length new.cost.now ≡ length old.cost.now
  pub trail_long : length new.trail.now ≡ length old.trail.now

-- and of a working space
pub record SameSpace (old new : Workspace) : Type 0 where
  pub heap : new.heap.ghost_name ≡ old.heap.ghost_name
  pub place : new.place.ghost_name ≡ old.place.ghost_name
  pub gone : new.gone.ghost_name ≡ old.gone.ghost_name
  pub list : new.list.ghost_name ≡ old.list.ghost_name
  pub heap_long : length new.heap.now ≡ length old.heap.now
  pub place_long : length new.place.now ≡ length old.place.now
  pub gone_long : length new.gone.now ≡ length old.gone.now
  pub list_long : length new.list.now ≡ length old.list.now

-- a working space has room for n cells
abbrev pub HasRoom : (n : ℕ) → Workspace → Type 0
HasRoom n s = room.Workspace n s.heap.now s.place.now s.gone.now s.list.now
