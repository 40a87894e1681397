-- The room of a working space: room for many cells is room for fewer, and lists that are long enough have it.
-- Assumes nothing.
use mathlib.Core.Path.{◌≡◌}
use mathlib.Core.List.{List}
use Prim.Native.Nat.{ℕ, ◌≤◌}
use native.Mathlib.Omega.{arith}
use lib.ListN.{length}
use Rattle.queue.specs.Queue.{heap_room}
use Rattle.search.specs.Workspace.{Workspace}

pub room_fewer : {m n : ℕ} {heap place gone list : List ℕ} → m ≤ n → Workspace n heap place gone list → Workspace m heap place gone list
room_fewer l r = record {
  queue = record { heaps = omega (arith, r.queue.heaps); places = omega (arith, r.queue.places) };
  gones = omega (arith, r.gones);
  lists = omega (arith, r.lists);
}

pub room_long : {n : ℕ} {heap place gone list : List ℕ} → length heap ≡ heap_room n → length place ≡ n → length gone ≡ n → length list ≡ n
    → Workspace n heap place gone list
room_long a b c d = record { queue = record { heaps = omega arith; places = omega arith }; gones = omega arith; lists = omega arith }
