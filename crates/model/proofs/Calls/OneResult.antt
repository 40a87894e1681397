-- Two results that one contract allows are one: both equal what its definition says, and so they are equal part by part.
-- Assumes nothing.
use mathlib.Core.Path.{◌≡◌, sym, ap, ◌∙◌}
use Rattle.model.specs.Lent.{Lent, After, after}

-- two that equal a third
pub coincide : {A : Type 0} {x y z : A} → x ≡ z → y ≡ z → x ≡ y
coincide e f = e ∙ sym f

-- two answers with what is lent afterwards are equal: part by part
module _ {A : Type 0} {r r' : A} {p p' : Lent} (e : after r p ≡ after r' p') where
  pub answers : r ≡ r'
  answers = ap (λ (a : After A). a.answer) e

  pub grounds : p.ground ≡ p'.ground
  grounds = ap (λ (a : After A). a.lists.ground) e

  pub learneds : p.learned ≡ p'.learned
  learneds = ap (λ (a : After A). a.lists.learned) e

  pub links : p.link ≡ p'.link
  links = ap (λ (a : After A). a.lists.link) e
