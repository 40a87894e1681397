-- What a report leaves, as a call; two reports leave the same lists in either order.
-- Assumes nothing.
use Rattle.std.specs.Prelude.{Ok}
use mathlib.Core.Path.{◌≡◌, refl, sym, ap, ◌∙◌}
use mathlib.Core.Logic.{◌≢◌, ◌⊎◌, inl, inr}
use mathlib.Core.Bool.{Bool, true, false, cond, ◌||◌}
use mathlib.Core.List.{List}
use Prim.Native.Nat.{ℕ, ◌≤◌, ◌<◌}
use native.Mathlib.Decide.{ℕ_discrete, dec_lt}
use native.Mathlib.Omega.{arith}
use borrow.Author.Tests.{eqb-false}
use lib.Dec.{eqb}
use lib.ListN.{length, get_or, set}
use lib.Seq.{get_or-set_same, get_or-set_other, set_comm, ext_get_or}
use Rattle.model.specs.Plot.{cells, ahead, free}
use Rattle.model.specs.Lent.{Lent, lent_with, After}
use Rattle.model.specs.Head.{cells_of}
use Rattle.model.specs.Report.{link_once_blocked, unlinked, blocked, reported}
use Rattle.model.specs.declared.Head.{Head}
use Rattle.model.specs.declared.Changed.{Changed}
use Rattle.model.specs.Fit.{Held}
use Rattle.model.proofs.Calls.Acceptance.{not_both}
use Rattle.model.proofs.Calls.ReportLaws.{pass_report, Reporting, report_refused, report_taken, report_is, links_long, links_at, links_beyond}
use Rattle.model.proofs.Calls.ReportLaws.{after_fit, after_room}

-- What is left ------------------------------------------------------------------------------------------------------------------

module _ (head : Head) (p : Lent) (c : ℕ) where
  -- the cell was free, or known blocked already
  pub blocked_new : free p.ground c ≡ true
      → blocked head p c ≡ lent_with (set p.ground c 1) p.learned (unlinked head.width head.height p.link c)
  unfolding blocked
  blocked_new e = rw e

  pub blocked_known : free p.ground c ≡ false → blocked head p c ≡ p
  unfolding blocked
  blocked_known e = rw e

  pub blocked_by : (P : Lent → Type 0)
      → (free p.ground c ≡ true → P (lent_with (set p.ground c 1) p.learned (unlinked head.width head.height p.link c)))
      → (free p.ground c ≡ false → P p) → P (blocked head p c)
  blocked_by P new known = go _ refl
    where
      go : (b : Bool) → free p.ground c ≡ b → P (blocked head p c)
      go true e = rw (blocked_new e) (new e)
      go false e = rw (blocked_known e) (known e)

  pub blocked_held : Held head p → c < cells_of head → c ≢ head.cell → Held head (blocked head p c)
  blocked_held a i n =
      blocked_by (Held head) (λ _. record {
        placed = a.placed;
        room = after_room p a.placed a.room a.fit c i n;
        fit = after_fit p a.placed a.room a.fit c i n;
      }) (λ _. a)

-- the reported cell is known blocked, the ground elsewhere stays (so what was blocked stays blocked), and so does what is learned
pub record Blocks (p q : Lent) (c : ℕ) : Type 0 where
  pub here : get_or q.ground c 0 ≡ 1
  pub elsewhere : (x : ℕ) → x ≢ c → get_or q.ground x 0 ≡ get_or p.ground x 0
  pub same_learned : q.learned ≡ p.learned

pub blocks : (head : Head) (p : Lent) (c : ℕ) → Held head p → c < cells_of head → Blocks p (blocked head p c) c
blocks head p c a i = blocked_by head p c (λ q. Blocks p q c)
    (λ _. record {
      here = get_or-set_same p.ground c 1 0 (omega (arith, a.room.grounds));
      elsewhere = λ x n. get_or-set_other p.ground c x 1 0 n;
      same_learned = refl;
    })
    (λ e. record {
      here = omega (arith, eqb-false (get_or p.ground c 0) 0 e, a.fit.ground c i);
      elsewhere = λ x n. refl;
      same_learned = refl;
    })

-- whatever report answers
pub record ReportKeeps (head : Head) (p : Lent) (c : ℕ) (r : After Changed) : Type 0 where
  pub same_head : r.answer.head ≡ head
  pub same_learned : r.lists.learned ≡ p.learned
  pub held : Held head p → Held head r.lists
  pub taken : r.answer.verdict ≡ Ok tt → Blocks p r.lists c

module _ (head : Head) (p : Lent) (c : ℕ) where
  keeps : {r : After Changed} → Reporting head p c r → ReportKeeps head p c r
  keeps (report_refused e) = record { same_head = refl; same_learned = refl; held = λ a. a; taken = λ q. absurd (not_both refl q) }
  keeps (report_taken a i n) = record {
    same_head = refl;
    same_learned = (blocks head p c a i).same_learned;
    held = λ _. blocked_held head p c a i n;
    taken = λ _. blocks head p c a i;
  }

  pub report_keeps : ReportKeeps head p c (reported head p c)
  report_keeps = keeps (report_is head p c)

-- Two reports -------------------------------------------------------------------------------------------------------------------

-- v, the link of x, once c is blocked
unfoldable cut : (w h c x v : ℕ) → ℕ
cut w h c x v = cond (eqb x c || eqb (ahead w h x v) c) 0 v

cut_is : (w h : ℕ) (link : List ℕ) (c x : ℕ) → link_once_blocked w h link c x ≡ cut w h c x (get_or link x 0)
unfolding link_once_blocked cut
cut_is w h link c x = refl

cut_either : (w h c x v : ℕ) → (cut w h c x v ≡ 0) ⊎ (cut w h c x v ≡ v)
unfolding cut
cut_either w h c x v = by (eqb x c || eqb (ahead w h x v) c)
  where
    by : (b : Bool) → (cond b 0 v ≡ 0) ⊎ (cond b 0 v ≡ v)
    by true = inl refl
    by false = inr refl

cut_zero : (w h c x : ℕ) → cut w h c x 0 ≡ 0
cut_zero w h c x = go (cut_either w h c x 0)
  where
    go : (cut w h c x 0 ≡ 0) ⊎ (cut w h c x 0 ≡ 0) → cut w h c x 0 ≡ 0
    go (inl e) = e
    go (inr e) = e

cut_comm : (w h c d x v : ℕ) → cut w h d x (cut w h c x v) ≡ cut w h c x (cut w h d x v)
cut_comm w h c d x v = go (cut_either w h c x v) (cut_either w h d x v)
  where
    go : (cut w h c x v ≡ 0) ⊎ (cut w h c x v ≡ v) → (cut w h d x v ≡ 0) ⊎ (cut w h d x v ≡ v)
        → cut w h d x (cut w h c x v) ≡ cut w h c x (cut w h d x v)
    go (inl e) (inl f) = rw (e, f) (cut_zero w h d x ∙ sym (cut_zero w h c x))
    go (inl e) (inr f) = rw (e, f, e) (cut_zero w h d x)
    go (inr e) (inl f) = rw (e, f) (sym (cut_zero w h c x))
    go (inr e) (inr f) = rw (e, f) (sym e)

module _ (w h : ℕ) (link : List ℕ) (r : cells w h ≤ length link) where
  abbrev both : (c d : ℕ) → List ℕ
  both c d = unlinked w h (unlinked w h link c) d

  both_long : (c d : ℕ) → length (both c d) ≡ length link
  both_long c d = links_long w h (unlinked w h link c) d ∙ links_long w h link c

  both_on : (c d x : ℕ) → x < cells w h → get_or (both c d) x 0 ≡ cut w h d x (cut w h c x (get_or link x 0))
  both_on c d x i =
      links_at w h (unlinked w h link c) d x (rw (links_long w h link c) r) i
      ∙ cut_is w h (unlinked w h link c) d x
      ∙ ap (cut w h d x) (links_at w h link c x r i ∙ cut_is w h link c x)

  both_beyond : (c d x : ℕ) → cells w h ≤ x → get_or (both c d) x 0 ≡ get_or link x 0
  both_beyond c d x o = links_beyond w h (unlinked w h link c) d x o ∙ links_beyond w h link c x o

  links_comm : (c d : ℕ) → both c d ≡ both d c
  links_comm c d = ext_get_or 0 (both c d) (both d c) (both_long c d ∙ sym (both_long d c)) (λ x _. go x (dec_lt x (cells w h)))
    where
      go : (x : ℕ) → Dec (x < cells w h) → get_or (both c d) x 0 ≡ get_or (both d c) x 0
      go x (yes i) = both_on c d x i ∙ cut_comm w h c d x (get_or link x 0) ∙ sym (both_on d c x i)
      go x (no o) = both_beyond c d x (omega arith) ∙ sym (both_beyond d c x (omega arith))

module _ (head : Head) (p : Lent) (c d : ℕ) (a : Held head p) where
  -- the ground elsewhere
  same_free : (x y : ℕ) → x ≢ y → free (set p.ground y 1) x ≡ free p.ground x
  same_free x y n = rw (get_or-set_other p.ground y x 1 0 n)

  pub blocked_comm : blocked head (blocked head p c) d ≡ blocked head (blocked head p d) c
  blocked_comm = same (ℕ_discrete c d)
    where
      differ : c ≢ d → (u v : Bool) → free p.ground c ≡ u → free p.ground d ≡ v
          → blocked head (blocked head p c) d ≡ blocked head (blocked head p d) c
      differ n true true e f =
          rw (blocked_new head p c e, blocked_new head p d f)
          (blocked_new head _ d (same_free d c (λ q. n (sym q)) ∙ f)
          ∙ (λ i. lent_with (set_comm p.ground c d 1 1 n i) p.learned (links_comm head.width head.height p.link a.room.links c d i))
          ∙ sym (blocked_new head _ c (same_free c d n ∙ e)))
      differ n true false e f =
          rw (blocked_new head p c e, blocked_known head p d f)
          (blocked_known head _ d (same_free d c (λ q. n (sym q)) ∙ f) ∙ sym (blocked_new head p c e))
      differ n false true e f =
          rw (blocked_known head p c e, blocked_new head p d f) (sym (blocked_known head _ c (same_free c d n ∙ e)))
      differ n false false e f = rw (blocked_known head p c e, blocked_known head p d f) (sym (blocked_known head p c e))

      same : Dec (c ≡ d) → blocked head (blocked head p c) d ≡ blocked head (blocked head p d) c
      same (yes e) = rw e
      same (no n) = differ n _ _ refl refl

module _ (head : Head) (p : Lent) (c : ℕ) where
  -- what a report leaves where it is taken, and where it is not
  report_held : {r : After Changed} → Reporting head p c r → Held head p → c < cells_of head → c ≢ head.cell → r.lists ≡ blocked head p c
  report_held (report_refused e) a i n = absurd (not_both e (pass_report head p c a i n))
  report_held (report_taken _ _ _) a i n = refl

  report_nothing : {r : After Changed} → Reporting head p c r → (Held head p → c < cells_of head → c ≢ head.cell → ⊥) → r.lists ≡ p
  report_nothing (report_refused e) never = refl
  report_nothing (report_taken a i n) never = absurd (never a i n)

-- TWO REPORTS made one right after the other leave the same lists in either order, accepted or not.
pub reports_commute : (head : Head) (p : Lent) (c d : ℕ) → (reported head (reported head p c).lists d).lists
    ≡ (reported head (reported head p d).lists c).lists
reports_commute head p c d = go (report_is head p c) (report_is head p d)
  where
    go : {r t : After Changed} → Reporting head p c r → Reporting head p d t → (reported head r.lists d).lists ≡ (reported head t.lists c).lists
    go (report_taken a i n) (report_taken b j m) =
        report_held head (blocked head p c) d (report_is head (blocked head p c) d) (blocked_held head p c a i n) j m
        ∙ blocked_comm head p c d a
        ∙ sym (report_held head (blocked head p d) c (report_is head (blocked head p d) c) (blocked_held head p d a j m) i n)
    go (report_taken a i n) (report_refused e) =
        report_nothing head (blocked head p c) d (report_is head (blocked head p c) d) (λ _ j m. not_both e (pass_report head p d a j m))
        ∙ sym (report_held head p c (report_is head p c) a i n)
    go (report_refused e) (report_taken b j m) =
        report_held head p d (report_is head p d) b j m
        ∙ sym (report_nothing head (blocked head p d) c (report_is head (blocked head p d) c) (λ _ i n. not_both e (pass_report head p c b i n)))
    go (report_refused e) (report_refused f) =
        report_nothing head p d (report_is head p d) (λ a j m. not_both f (pass_report head p d a j m))
        ∙ sym (report_nothing head p c (report_is head p c) (λ a i n. not_both e (pass_report head p c a i n)))
