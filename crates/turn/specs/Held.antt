-- What a drive holds, as the drive of the definitions.
use Rattle.std.specs.Prelude.{◌≡◌, length}
use Rattle.model.specs.Lent.{Lent, lent_with}
use Rattle.search.specs.LentLists.{scratch_of, SameScratch}
use Rattle.search.specs.declared.lent.Workspace.{Workspace}
use Rattle.replan.specs.Passed.{Planable}
use Rattle.turn.specs.declared.Drive.{Drive}
use Rattle.turn.specs.Turn.{drive_with}
use Rattle.turn.specs.Turn as turn

abbrev pub lent_of : Drive → Lent
lent_of d = lent_with d.ground.now d.learned.now d.link.now

abbrev pub drive_of : Drive → turn.Drive
drive_of d = drive_with d.head (lent_of d) (scratch_of d.scratch) d.moves

-- its data are accepted, and there is room to plan
abbrev pub CanPlan : Drive → Workspace → Type 0
CanPlan d s = Planable d.head (lent_of d) (scratch_of d.scratch) s.heap.now s.place.now s.gone.now s.list.now

-- what a turn leaves: the same lists, and no shorter or longer
pub record SameDrive (old new : Drive) : Type 0 where
  pub ground : new.ground.ghost_name ≡ old.ground.ghost_name
  pub learned : new.learned.ghost_name ≡ old.learned.ghost_name
  pub link : new.link.ghost_name ≡ old.link.ghost_name
  pub ground_long : length new.ground.now ≡ length old.ground.now
  pub learned_long : length new.learned.now ≡ length old.learned.now
  pub link_long : length new.link.now ≡ length old.link.now
  pub scratch : SameScratch old.scratch new.scratch
