-- What the promise of a host's call allows is one: two results that it allows have the same answer, and leave the same lists.
-- Each promise is an equation with a definition, so that one law serves every call that leaves the same things.
-- Assumes nothing.
use mathlib.Core.Path.{◌≡◌, ap}
use mathlib.Core.List.{List}
use Prim.Native.Nat.{ℕ}
use Rattle.model.specs.Lent.{lent_with, scratch_with}
use Rattle.model.specs.Controller.{AfterC, after_c}
use Rattle.model.proofs.Calls.OneResult.{coincide}
use Rattle.salenduro.specs.Buffers.{AfterHost, AfterHostPlan, AfterHostFill, after_host, after_host_plan, after_host_fill}

-- layout, report, move and load: one answer, head, ground, learned and link. (For the question `coincide` itself serves.)
pub host_coincides : {z : AfterHost} {n n' : ℕ} {head head' ground ground' learned learned' link link' : List ℕ}
    → after_host n head (lent_with ground learned link) ≡ z → after_host n' head' (lent_with ground' learned' link') ≡ z
    → (n ≡ n') × (head ≡ head') × (ground ≡ ground') × (learned ≡ learned') × (link ≡ link')
host_coincides e f =
    let q = coincide e f in (
      ap (λ (a : AfterHost). a.answer) q,
      ap (λ (a : AfterHost). a.head) q,
      ap (λ (a : AfterHost). a.lists.ground) q,
      ap (λ (a : AfterHost). a.lists.learned) q,
      ap (λ (a : AfterHost). a.lists.link) q,
    )

-- plan: one answer, head, learned, link, mark, cost and trail
pub host_plan_coincides : {z : AfterHostPlan} {n n' : ℕ} {head head' ground learned learned' link link' mark mark' cost cost' trail trail' : List ℕ}
    → after_host_plan n head (lent_with ground learned link) (scratch_with mark cost trail) ≡ z
    → after_host_plan n' head' (lent_with ground learned' link') (scratch_with mark' cost' trail') ≡ z
    → (n ≡ n') × (head ≡ head') × (learned ≡ learned') × (link ≡ link') × (mark ≡ mark') × (cost ≡ cost') × (trail ≡ trail')
host_plan_coincides e f =
    let q = coincide e f in (
      ap (λ (a : AfterHostPlan). a.answer) q,
      ap (λ (a : AfterHostPlan). a.head) q,
      ap (λ (a : AfterHostPlan). a.lists.learned) q,
      ap (λ (a : AfterHostPlan). a.lists.link) q,
      ap (λ (a : AfterHostPlan). a.scratch.mark) q,
      ap (λ (a : AfterHostPlan). a.scratch.cost) q,
      ap (λ (a : AfterHostPlan). a.scratch.trail) q,
    )

-- list and save: one answer and buffer
pub host_fill_coincides : {z : AfterHostFill} {n n' : ℕ} {buffer buffer' : List ℕ} → after_host_fill n buffer ≡ z → after_host_fill n' buffer' ≡ z
    → (n ≡ n') × (buffer ≡ buffer')
host_fill_coincides e f =
    let q = coincide e f in (ap (λ (a : AfterHostFill). a.answer) q, ap (λ (a : AfterHostFill). a.buffer) q)

-- report, plan and move over a record: one answer, and one record
pub record_coincides : {z : AfterC} {n n' : ℕ} {bytes bytes' : List ℕ} → after_c n bytes ≡ z → after_c n' bytes' ≡ z → (n ≡ n') × (bytes ≡ bytes')
record_coincides e f = let q = coincide e f in (ap (λ (a : AfterC). a.answer) q, ap (λ (a : AfterC). a.bytes) q)
