-- DEMAND 2, sentence by sentence, and what document 01 adds to it.
-- Assumes nothing.
use Rattle.std.specs.Prelude.{Ok}
use mathlib.Core.Path.{◌≡◌, refl, sym, ap, ◌∙◌}
use mathlib.Core.Logic.{◌≢◌, ◌↔◌}
use mathlib.Core.Bool.{true, false, false≢true}
use mathlib.Core.List.{List}
use Prim.Native.Nat.{ℕ, ◌≤◌, ◌<◌}
use native.Mathlib.Omega.{arith}
use borrow.Author.Tests.{lt-ltb, le-ltb, eq-eqb}
use lib.ListN.{length, take, get_or}
use Rattle.model.specs.Lists.{tally}
use Rattle.model.specs.Plot.{free}
use Rattle.model.specs.Lent.{Lent, Scratch, After}
use Rattle.model.specs.Head.{cells_of}
use Rattle.model.specs.Refusals.{changed}
use Rattle.model.specs.Route.{stands}
use Rattle.model.specs.Search.{total, smaller_first, earlier, best}
use Rattle.model.specs.Plan.{plan_check, planned, expanded_count}
use Rattle.model.specs.Move.{moved}
use Rattle.model.specs.Record.{record_length, record_of, head_of}
use Rattle.model.specs.Store.{AfterSave, save_check, saved, loaded}
use Rattle.model.specs.Ways.{Accepts, HasWay, Shortest}
use Rattle.model.specs.declared.Head.{Head}
use Rattle.model.specs.declared.Outcome.{Outcome}
use Rattle.model.specs.declared.Step.{Step}
use Rattle.model.specs.declared.Changed.{Changed}
use Rattle.model.specs.Fit.{Room, Held}
use Rattle.model.proofs.Calls.Acceptance.{not_both, held_accepts}
use Rattle.model.proofs.Record.RecordFields.{record_long}
use Rattle.model.proofs.Calls.FirstEntries.{SameEntries}
use Rattle.model.proofs.Search.Order.{SmallerFirst, less, equal, first_is, earlier_not_itself, earlier_trans, earlier_total, Foremost, foremost_is_best}
use Rattle.model.proofs.Calls.PlanAnswers.{route_exactly, no_way_exactly, arrived_exactly}
use Rattle.model.proofs.Calls.PlanKeeps.{plan_keeps}
use Rattle.model.proofs.Calls.MoveLaws.{Nearer, move_comes_nearer, standing_route_moves}
use Rattle.model.proofs.Record.RecordLaws.{one_record, saved_again, load_held}
use Rattle.model.proofs.Record.SaveAndLoad.{Saving, save_refused, save_wrote, save_is, saved_reads, Loading, load_refused, load_read, load_is}

-- The plan ----------------------------------------------------------------------------------------------------------------------------

module _ (head : Head) (p : Lent) (s : Scratch) (ok : plan_check head p s ≡ Ok tt) where
  -- "On accepted data the length it states is the fewest steps over cells not known blocked"
  pub length_is_the_fewest : head.cell ≢ head.goal → (L : ℕ) → ((planned head p s).answer.outcome ≡ Outcome.Route L)
      ↔ Shortest head p head.cell L
  length_is_the_fewest d L = route_exactly head p s ok d L

  -- ""no way" is said exactly when there is none"
  pub no_way_exactly_when_none : ((planned head p s).answer.outcome ≡ Outcome.NoWay) ↔ ((n : ℕ) → ¬ HasWay head p head.cell n)
  no_way_exactly_when_none = no_way_exactly head p s ok

  -- and "arrived" on the goal
  pub arrived_exactly_there : ((planned head p s).answer.outcome ≡ Outcome.Arrived) ↔ (head.cell ≡ head.goal)
  arrived_exactly_there = arrived_exactly head p s ok

  -- "the count of expanded cells .. equals the number of cells marked 2 after a search"
  pub count_is_the_marks : head.cell ≢ head.goal
      → (planned head p s).answer.expanded ≡ expanded_count (cells_of head) (planned head p s).scratch.mark
  count_is_the_marks = (plan_keeps head p s).count_marks ok

-- "It never exceeds the number of free cells"
pub count_within_free : (head : Head) (p : Lent) (s : Scratch) → (planned head p s).answer.expanded ≤ tally (cells_of head) (free p.ground)
count_within_free head p s = (plan_keeps head p s).count_free

-- "Planning follows Multipath Adaptive A* .. with our tie order": the smallest cost + learned; among these the larger cost; among
-- these the lower cell number
pub data Earlier (learned : List ℕ) (s : Scratch) (a b : ℕ) : Type 0 where
  smaller_sum : total learned s.cost a < total learned s.cost b → Earlier learned s a b
  larger_cost : total learned s.cost a ≡ total learned s.cost b → get_or s.cost b 0 < get_or s.cost a 0 → Earlier learned s a b
  lower_number : total learned s.cost a ≡ total learned s.cost b → get_or s.cost b 0 ≡ get_or s.cost a 0 → a < b → Earlier learned s a b

pub order_exactly : (learned : List ℕ) (s : Scratch) (a b : ℕ) → (earlier learned s a b ≡ true) ↔ Earlier learned s a b
unfolding earlier smaller_first
order_exactly learned s a b = (λ e. sum (first_is _ _ _ e), back)
  where
    number : (t : total learned s.cost a ≡ total learned s.cost b) → get_or s.cost b 0 ≡ get_or s.cost a 0 → SmallerFirst a b false
        → Earlier learned s a b
    number t q (less l) = lower_number t q l
    number t q (equal _ f) = absurd (false≢true f)

    cost : total learned s.cost a ≡ total learned s.cost b → SmallerFirst (get_or s.cost b 0) (get_or s.cost a 0) (smaller_first a b false)
        → Earlier learned s a b
    cost t (less l) = larger_cost t l
    cost t (equal q n) = number t q (first_is _ _ _ n)

    sum : SmallerFirst (total learned s.cost a) (total learned s.cost b)
        (smaller_first (get_or s.cost b 0) (get_or s.cost a 0) (smaller_first a b false)) → Earlier learned s a b
    sum (less l) = smaller_sum l
    sum (equal q n) = cost q (first_is _ _ _ n)

    back : Earlier learned s a b → earlier learned s a b ≡ true
    back (smaller_sum l) = rw (earlier, lt-ltb (total learned s.cost a) (total learned s.cost b) l)
    back (larger_cost t l) =
        rw (
          earlier,
          le-ltb (total learned s.cost a) (total learned s.cost b) (omega (arith, t)),
          eq-eqb (total learned s.cost a) (total learned s.cost b) t,
          lt-ltb (get_or s.cost b 0) (get_or s.cost a 0) l,
        )
    back (lower_number t q l) =
        rw (
          earlier,
          le-ltb (total learned s.cost a) (total learned s.cost b) (omega (arith, t)),
          eq-eqb (total learned s.cost a) (total learned s.cost b) t,
          le-ltb (get_or s.cost b 0) (get_or s.cost a 0) (omega (arith, q)),
          eq-eqb (get_or s.cost b 0) (get_or s.cost a 0) q,
          lt-ltb a b l,
        )

-- a strict total order, and each iteration of a search takes the waiting cell that is earlier than every other
pub record TakesInOrder (learned : List ℕ) (s : Scratch) : Type 0 where
  pub not_itself : (a : ℕ) → earlier learned s a a ≡ false
  pub onwards : (a b c : ℕ) → earlier learned s a b ≡ true → earlier learned s b c ≡ true → earlier learned s a c ≡ true
  pub one_first : (a b : ℕ) → a ≢ b → earlier learned s a b ≡ false → earlier learned s b a ≡ true
  pub takes_the_first : (n x : ℕ) → Foremost learned s n x → best n learned s n ≡ x

pub order_is_total : (learned : List ℕ) (s : Scratch) → TakesInOrder learned s
order_is_total learned s = record {
  not_itself = earlier_not_itself learned s;
  onwards = earlier_trans learned s;
  one_first = earlier_total learned s;
  takes_the_first = λ n x f. foremost_is_best n learned s x f;
}

-- The move ----------------------------------------------------------------------------------------------------------------------------

-- "each move short of the goal brings the cart one step nearer": where a route stands it does move ..
pub route_moves : (head : Head) (p : Lent) → Accepts head p → stands head p ≡ true → head.cell ≢ head.goal → (moved head p).answer.step ≡ Ok Step.Moved
route_moves head p = standing_route_moves head p

-- .. and then the fewest steps left are one fewer, and the rest of the route stands
pub move_is_nearer : (head : Head) (p : Lent) → (moved head p).answer.step ≡ Ok Step.Moved → Nearer head p (moved head p)
move_is_nearer head p = move_comes_nearer head p

-- The record --------------------------------------------------------------------------------------------------------------------------

may_save : (head : Head) (p : Lent) (buffer : List ℕ) → Held head p → record_length (cells_of head) ≤ length buffer → save_check head p buffer ≡ Ok tt
unfolding save_check
may_save head p buffer a room = rw (save_check, held_accepts head p a, le-ltb (length buffer) (record_length (cells_of head)) room)

-- "A saved record reads back as the same state": load takes what save wrote, with the same head and the same N entries
pub saved_reads_back : (head : Head) (p : Lent) (buffer : List ℕ) (m : ℕ) → (saved head p buffer).answer.length ≡ Ok m → (q : Lent)
    → Room (cells_of head) q
    → let r = loaded (take m (saved head p buffer).buffer) q in (r.answer ≡ changed head (Ok tt)) × SameEntries (cells_of head) p r.lists
saved_reads_back head p buffer m e q room = go (save_is head p buffer) e
  where
    go : {r : AfterSave} → Saving head p buffer r → r.answer.length ≡ Ok m
        → let t = loaded (take m r.buffer) q in (t.answer ≡ changed head (Ok tt)) × SameEntries (cells_of head) p t.lists
    go (save_refused f) e = let z : ◌≡◌ {A = ℕ} 0 1 = cc in absurd (omega arith)
    go (save_wrote a w) e = let k : record_length (cells_of head) ≡ m = cc in rw (← k) (saved_reads a w q room)

-- what load accepts saves as the same bytes, in a buffer with room for them
pub loaded_saves_back : (bytes : List ℕ) (q : Lent) → (loaded bytes q).answer.verdict ≡ Ok tt → (buffer : List ℕ) → length bytes ≤ length buffer
    → let r = saved (loaded bytes q).answer.head (loaded bytes q).lists buffer in
    (r.answer.length ≡ Ok (length bytes)) × (take (length bytes) r.buffer ≡ bytes)
loaded_saves_back bytes q e buffer room = go (load_is bytes q) e
  where
    again : (head : Head) (p : Lent) → Held head p → record_of head p ≡ bytes → (r : AfterSave) → Saving head p buffer r
        → (r.answer.length ≡ Ok (length bytes)) × (take (length bytes) r.buffer ≡ bytes)
    again head p a k r (save_refused f) = absurd (not_both f (may_save head p buffer a (rw (sym (record_long head p a.room) ∙ ap length k) room)))
    again head p a k r (save_wrote _ w) =
        let l : record_length (cells_of head) ≡ length bytes = sym (record_long head p a.room) ∙ ap length k in
        (ap Ok l, rw (← l) (w.front ∙ k))

    go : {r : After Changed} → Loading bytes q r → r.answer.verdict ≡ Ok tt
        → let t =
        saved r.answer.head r.lists buffer in (t.answer.length ≡ Ok (length bytes)) × (take (length bytes) t.buffer ≡ bytes)
    go (load_refused f) e = absurd (not_both refl e)
    go (load_read f) e = again (head_of bytes) _ (load_held bytes q f) (saved_again bytes q f) _ (save_is (head_of bytes) _ buffer)

-- "and a state has one record": two that are read as one state are the same bytes
pub state_has_one_record : (bytes bytes' : List ℕ) (q q' : Lent) → (loaded bytes q).answer.verdict ≡ Ok tt
    → (loaded bytes' q').answer.verdict ≡ Ok tt
    → (loaded bytes q).answer.head ≡ (loaded bytes' q').answer.head
    → SameEntries (cells_of (loaded bytes q).answer.head) (loaded bytes q).lists (loaded bytes' q').lists
    → bytes ≡ bytes'
state_has_one_record bytes bytes' q q' e e' = go (load_is bytes q) (load_is bytes' q') e e'
  where
    go : {r r' : After Changed} → Loading bytes q r → Loading bytes' q' r' → r.answer.verdict ≡ Ok tt → r'.answer.verdict ≡ Ok tt
        → r.answer.head ≡ r'.answer.head → SameEntries (cells_of r.answer.head) r.lists r'.lists → bytes ≡ bytes'
    go (load_refused f) l e e' h s = absurd (not_both refl e)
    go (load_read f) (load_refused g) e e' h s = absurd (not_both refl e')
    go (load_read f) (load_read g) e e' h s = one_record bytes bytes' q q' f g h s

-- "Length at N = 4,096: 12,827; at N = 1: 31"
pub record_lengths : (record_length 1 ≡ 31) × (record_length 4096 ≡ 12827)
record_lengths = (refl, refl)
