-- List's verdict after acceptance, what list leaves in its two cases, and the question's number.
-- Assumes nothing.
use Rattle.std.specs.Prelude.{Ok, Err}
use Prim.Native.Nat.{ℕ}
use mathlib.Core.Path.{◌≡◌, sym, ap, ◌∙◌}
use mathlib.Core.List.{List}
use lib.ListN.{length, take}
use Rattle.model.specs.Lent.{Lent, fronted}
use Rattle.model.specs.Route.{route}
use Rattle.model.specs.Refusals.{acceptance}
use Rattle.model.specs.Numbers.{reason_number}
use Rattle.model.specs.Listing.{AfterList, list_check, listed, list_question}
use Rattle.model.specs.declared.Head.{Head}
use Rattle.model.specs.declared.Reason.{Reason}
use Rattle.model.specs.Verdict.{Verdict}
use Rattle.calls.specs.RouteWritten.{RouteFilled}
use Rattle.calls.proofs.list.ListCases.{filled_back}
use Rattle.calls.specs.Counted.{Counted, front_of}

module _ (head : Head) (p : Lent) (buffer : List ℕ) where
  -- data that are not accepted are not listed
  pub list_refused : {v : Verdict} {why : Reason} → v ≡ acceptance head p → v ≡ Err why → Err why ≡ list_check head p buffer
  unfolding list_check
  list_refused e q = rw (sym e ∙ q)

  pub number_none : {v : Verdict} → v ≡ list_check head p buffer → v ≡ Ok tt → 0 ≡ list_question head p buffer
  unfolding list_question
  number_none e q = rw (sym e ∙ q)

  pub number_why : {v : Verdict} {why : Reason} (n : ℕ) → v ≡ list_check head p buffer → v ≡ Err why → n ≡ reason_number why
      → n ≡ list_question head p buffer
  unfolding list_question
  number_why n e q is = rw (sym e ∙ q) is

  pub count_none : {v : Verdict} {why : Reason} → v ≡ list_check head p buffer → v ≡ Err why → Counted head p buffer 0 buffer
  unfolding listed
  count_none e q = record { count = rw (sym e ∙ q, listed); leaves = rw (sym e ∙ q, listed) }

  pub count_filled : {k : ℕ} {l : List ℕ} → list_check head p buffer ≡ Ok tt → RouteFilled head p buffer k l → Counted head p buffer k l
  unfolding listed
  count_filled {k} {l} ok f = record {
    count = rw (ok, listed) f.count;
    leaves = rw (ok, listed, filled_back f, f.is);
  }

  -- what list leaves, in equations: `grind` reads these. v is the verdict
  pub listed_none : {v : Verdict} {why : Reason} → v ≡ list_check head p buffer → v ≡ Err why → listed head p buffer ≡ front_of 0 buffer
  listed_none e q = sym (count_none e q).leaves

  pub listed_filled : {v : Verdict} {u : Unit} {k : ℕ} {l : List ℕ} → v ≡ list_check head p buffer → v ≡ Ok u → k ≡ length (route head p)
      → l ≡ fronted (route head p) buffer
      → (listed head p buffer ≡ front_of k l) × (k ≡ length (listed head p buffer).front)
  listed_filled e q n is = let c = count_filled (sym e ∙ q) (record { count = n; is = is }) in (sym c.leaves, c.count)

-- the front that was left, read back and counted
module _ {head : Head} {p : Lent} {buffer l : List ℕ} {k : ℕ} (f : Counted head p buffer k l) where
  pub counted_back : take k l ≡ (listed head p buffer).front
  counted_back = ap (λ (a : AfterList). a.front) f.leaves

  pub counted_long : k ≡ length (take k l)
  counted_long = rw counted_back f.count
