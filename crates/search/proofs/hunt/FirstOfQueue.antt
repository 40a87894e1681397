-- The first of the queue is the waiting cell to take, and an empty queue means that none waits.
-- Assumes nothing.
use mathlib.Core.Path.{◌≡◌, sym}
use mathlib.Core.Logic.{◌≢◌}
use mathlib.Core.Bool.{true}
use mathlib.Core.List.{List}
use Prim.Native.Nat.{ℕ, ◌%◌, ◌≤◌, ◌<◌}
use native.Mathlib.Decide.{ℕ_discrete}
use native.Mathlib.Omega.{arith}
use lib.ListN.{get_or}
use Rattle.model.specs.Lent.{Scratch}
use Rattle.model.specs.Search.{earlier}
use Rattle.model.proofs.Search.Order.{Foremost}
use Rattle.queue.specs.Queue.{none}
use Rattle.queue.proofs.LeastKey.{first_own, first_under, empty_none}
use Rattle.queue.proofs.KeyOrder.{key_earlier}
use Rattle.search.specs.Waiting.{key_for, Queued}
use Rattle.search.proofs.expand.LookLaws.{key_waits, key_none, first_on}

module _ {n : ℕ} {l : List ℕ} {s : Scratch} {len : ℕ} {heap place : List ℕ} (a : Queued n l s len heap place)
    (costs : (y : ℕ) → y < n → get_or s.mark y 0 ≡ 1 → get_or s.cost y 0 ≤ 65535) (values : (y : ℕ) → y < n → get_or l y 0 ≤ 65535) where
  -- the key of a waiting cell
  waits_under : (y : ℕ) → y < n → get_or s.mark y 0 ≡ 1 → key_for l s y < none
  waits_under y i m = omega (arith, key_waits l s y m, costs y i m, values y i, a.queue.small)

  pub queue_foremost : (x : ℕ) → 1 ≤ len → x ≡ get_or heap 1 0 % 65536 → Foremost l s n x
  queue_foremost x some e = record { below = on; waiting = waiting (ℕ_discrete (get_or s.mark x 0) 1); before = before }
    where
      on : x < n
      on = first_on a some e

      own : key_for l s x ≡ get_or heap 1 0
      own = rw e (first_own a.queue (key_for l s) a.keys some)

      waiting : Dec (get_or s.mark x 0 ≡ 1) → get_or s.mark x 0 ≡ 1
      waiting (yes m) = m
      waiting (no m) = absurd (omega (arith, own, key_none l s x m, (a.queue.entry 1 (omega arith) some).under))

      before : (y : ℕ) → y < n → get_or s.mark y 0 ≡ 1 → y ≢ x → earlier l s x y ≡ true
      before y i m d =
          let w = waiting (ℕ_discrete (get_or s.mark x 0) 1) in
          key_earlier l s x y (costs x on w) (costs y i m) (omega (arith, on, a.queue.small)) (omega (arith, i, a.queue.small)) (λ q. d (sym q))
          (omega (arith, own, key_waits l s x w, key_waits l s y m, first_under a.queue (key_for l s) a.keys y i (waits_under y i m)))

  pub queue_empty : len ≡ 0 → (y : ℕ) → y < n → get_or s.mark y 0 ≢ 1
  queue_empty e y i m = omega (arith, waits_under y i m, empty_none a.queue (key_for l s) a.keys (omega arith) y i)
