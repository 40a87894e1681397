-- The loop of the program: the drive is under way, and what is left to do falls. Assumes nothing.
use Prim.Native.Nat.{ℕ, ◌+◌, ◌<◌}
use mathlib.Core.Path.{◌≡◌, refl, sym, ap, ◌∙◌}
use mathlib.Core.Bool.{Bool, true, false, not, cond}
use mathlib.Core.List.{List}
use native.Mathlib.Omega.{arith}
use Rattle.printing.specs.Lines.{is_last}
use Rattle.printing.specs.declared.lines.Line.{Line}
use Rattle.turn.specs.Turn.{Drive, Said, says, turn}
use Rattle.turn.specs.Held.{SameDrive}
use Rattle.turn.specs.declared.Drive.{Drive as Lists}
use Rattle.turn.proofs.EveryDriveEnds.{left_to_do, turn_falls}
use Rattle.turn.proofs.DriveUnderWay.{UnderWay, going_on}

-- so many bytes may wait to be written
abbrev pub waiting_room : ℕ
waiting_room = 8192

-- what falls: what is left to do, and one more as long as the drive goes on
abbrev pub to_say : (going : Bool) (truth : List ℕ) → Drive → ℕ
to_say going truth k = cond going (left_to_do truth k + 1) 0

module _ {truth : List ℕ} {k next : Drive} {line : Line} (g : UnderWay truth k) (e : says line next ≡ turn truth k) {last : Bool}
    (l : last ≡ is_last line) where
  goes_on : last ≡ false → is_last (turn truth k).line ≡ false
  goes_on f = ap (λ (a : Said). is_last a.line) (sym e) ∙ sym l ∙ f

  next_is : (turn truth k).drive ≡ next
  next_is = ap (λ (a : Said). a.drive) (sym e)

  pub going_again : last ≡ false → UnderWay truth next
  going_again f = rw next_is at (going_on truth k g (goes_on f))

  -- what is left to do where the line is not the last
  pub less_to_do : last ≡ false → left_to_do truth next < left_to_do truth k
  less_to_do f = rw next_is at (turn_falls truth k g.in_order (goes_on f)).falls

  -- and what falls with every line, the last one too
  pub less_to_say : {going : Bool} → going ≡ true → to_say (not last) truth next < to_say going truth k
  less_to_say q = rw q (go last refl)
    where
      go : (b : Bool) → last ≡ b → cond (not b) (left_to_do truth next + 1) 0 < left_to_do truth k + 1
      go true f = omega arith
      go false f = omega (arith, less_to_do f)

-- What the drive is lent stays the same lists, from turn to turn ------------------------------------------------------------------------

pub same_here : (k : Lists) → SameDrive k k
same_here k = record {
  ground = refl;
  learned = refl;
  link = refl;
  ground_long = refl;
  learned_long = refl;
  link_long = refl;
  scratch = record { mark = refl; cost = refl; trail = refl; mark_long = refl; cost_long = refl; trail_long = refl };
}

pub same_still : {k m n : Lists} → SameDrive k m → SameDrive m n → SameDrive k n
same_still a b = record {
  ground = b.ground ∙ a.ground;
  learned = b.learned ∙ a.learned;
  link = b.link ∙ a.link;
  ground_long = b.ground_long ∙ a.ground_long;
  learned_long = b.learned_long ∙ a.learned_long;
  link_long = b.link_long ∙ a.link_long;
  scratch = record {
    mark = b.scratch.mark ∙ a.scratch.mark;
    cost = b.scratch.cost ∙ a.scratch.cost;
    trail = b.scratch.trail ∙ a.scratch.trail;
    mark_long = b.scratch.mark_long ∙ a.scratch.mark_long;
    cost_long = b.scratch.cost_long ∙ a.scratch.cost_long;
    trail_long = b.scratch.trail_long ∙ a.scratch.trail_long;
  };
}
