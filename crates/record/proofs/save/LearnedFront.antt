-- The field of the first n learned values is that of the list's front.
use Prim.Native.Nat.{ℕ, ◌≤◌}
use mathlib.Core.Path.{◌≡◌, ap, ◌∙◌}
use mathlib.Core.List.{List}
use lib.ListN.{length, take}
use lib.Seq.{length-take-le}
use Rattle.std.proofs.lemmas.List.{get_or-take}
use Rattle.model.specs.Lists.{gathered}
use Rattle.model.specs.Lent.{fronted}
use Rattle.model.specs.Record.{big, field, learned_bytes}
use Rattle.model.proofs.Lists.Gathered.{gathered_same}

pub learned_front : (n : ℕ) (l part : List ℕ) {part' : List ℕ} → n ≤ length l
    → part' ≡ fronted (field 6 (gathered (length (take n l)) (learned_bytes (take n l)))) part
    → part' ≡ fronted (field 6 (gathered n (learned_bytes l))) part
unfolding learned_bytes
learned_front n l part long e =
    let few : length (take n l) ≡ n = length-take-le n l long in
    let same : gathered n (learned_bytes (take n l)) ≡ gathered n (learned_bytes l) =
    gathered_same n (learned_bytes (take n l)) (learned_bytes l) (λ c b. ap big (get_or-take n l c 0 b)) in
    e ∙ ap (λ (k : ℕ). fronted (field 6 (gathered k (learned_bytes (take n l)))) part) few
    ∙ ap (λ (s : List ℕ). fronted (field 6 s) part) same
