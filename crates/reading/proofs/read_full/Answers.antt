use Rattle.std.proofs.Common.{◌≡◌, ℕ, ◌+◌, ◌≤◌, List, ◌++◌, rules, length, take, sym, ap, ◌∙◌, subst, length-take-le}
use Rattle.std.proofs.Math.Seq.{take-append-add}
use Rattle.std.proofs.lemmas.List.{take-append-le}
use Rattle.std.specs.Io.KnownBytes.{Consumes}
use Rattle.std.proofs.KnownBytes.{Consumes-trans}
use borrow.Rule.Slice.PartMut.{put_mid, post_of}
use Rattle.reading.proofs.read_full.Goals as goal

-- the first bytes of xs, and what a read left behind them
taken : (a n k : ℕ) (xs ys : List ℕ) → a ≤ length xs → n ≤ length ys → take a xs ++ take n ys ≡ take (a + n) (put_mid a k xs ys)
taken a n k xs ys within fits =
    let after = post_of a k xs in
    ap (λ l. take a xs ++ l) (sym (take-append-le n ys after fits)) ∙ sym (take-append-add (take a xs) (ys ++ after) n)
    ∙ ap (λ m. take (m + n) (take a xs ++ (ys ++ after))) (length-take-le a xs within)

pub loop-got-preserved : goal.loop-got-preserved
loop-got-preserved g c =
    let before = c.loop-got.invariant in
    let read = c.in_ok-more.ensures in record {
      within = search rules;
      bytes = subst (Consumes _ _) (taken _ _ _ c.loop-got.buffer c.read.new.buf before.within read.bound.0)
          (Consumes-trans _ _ _ _ _ before.bytes read.bytes.0);
    }
