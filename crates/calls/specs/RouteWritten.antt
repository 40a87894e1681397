-- What callers show before the cells of a route are written, and what they are told after.
use Rattle.std.specs.Prelude.{ℕ, suc, ◌≤◌, ◌<◌, ◌≡◌, false, List, length}
use Rattle.model.specs.Plot.{bad_sides, cells}
use Rattle.model.specs.Lent.{Lent, fronted}
use Rattle.model.specs.Route.{next, route}
use Rattle.model.specs.declared.Head.{Head}

-- v steps along links, from c on, stay on the plot
pub data Onward (w h : ℕ) (link : List ℕ) : (v c : ℕ) → Type 0 where
  ends : {c : ℕ} → c < cells w h → Onward w h link 0 c
  goes : {v c : ℕ} → c < cells w h → Onward w h link v (next w h link c) → Onward w h link (suc v) c

-- and their cells have room in the buffer
pub record Writable (w h v c : ℕ) (link buffer : List ℕ) : Type 0 where
  pub sides : bad_sides w h ≡ false
  pub links : cells w h ≤ length link
  pub onward : Onward w h link v c
  pub room : v < length buffer

-- the k cells of the route stand at the front of l, which was the buffer; "entries after it stay"
pub record RouteFilled (head : Head) (p : Lent) (buffer : List ℕ) (k : ℕ) (l : List ℕ) : Type 0 where
  pub count : k ≡ length (route head p)
  pub is : l ≡ fronted (route head p) buffer
