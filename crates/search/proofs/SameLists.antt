-- What several calls leave, one after the other: the same lists.
-- Assumes nothing.
use mathlib.Core.Path.{refl, ◌∙◌}
use Rattle.queue.specs.declared.Queue.{Queue}
use Rattle.queue.specs.Same.{SameQueue}
use Rattle.search.specs.declared.lent.Scratch.{Scratch}
use Rattle.search.specs.LentLists.{SameScratch}

pub scratch_begins : (a : Scratch) → SameScratch a a
scratch_begins a = record { mark = refl; cost = refl; trail = refl; mark_long = refl; cost_long = refl; trail_long = refl }

pub scratch_still : {a b c : Scratch} → SameScratch a b → SameScratch b c → SameScratch a c
scratch_still f g = record {
  mark = g.mark ∙ f.mark;
  cost = g.cost ∙ f.cost;
  trail = g.trail ∙ f.trail;
  mark_long = g.mark_long ∙ f.mark_long;
  cost_long = g.cost_long ∙ f.cost_long;
  trail_long = g.trail_long ∙ f.trail_long;
}

pub queue_begins : (a : Queue) → SameQueue a a
queue_begins a = record { heap = refl; place = refl; cells = refl; heap_long = refl; place_long = refl }

pub queue_still : {a b c : Queue} → SameQueue a b → SameQueue b c → SameQueue a c
queue_still f g = record {
  heap = g.heap ∙ f.heap;
  place = g.place ∙ f.place;
  cells = g.cells ∙ f.cells;
  heap_long = g.heap_long ∙ f.heap_long;
  place_long = g.place_long ∙ f.place_long;
}
