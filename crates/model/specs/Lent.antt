-- What the caller lends beside the head, as lists, "with N entries or more each".
use Rattle.std.specs.Prelude.{ℕ, List, [], ◌∷◌, ◌++◌, length, drop}

pub record Lent : Type 0 where
  -- "0 free, 1 known blocked"
  pub ground : List ℕ
  -- "the learned distance to the goal"
  pub learned : List ℕ
  -- "0 none, or the direction of the next step"
  pub link : List ℕ

-- "for planning only, three scratch buffers"
pub record Scratch : Type 0 where
  -- "0 unseen, 1 waiting, 2 expanded"
  pub mark : List ℕ
  -- "65,535 for unseen"
  pub cost : List ℕ
  -- "the direction of the step by which the cell was reached; 0 for the cart's cell and for unseen cells"
  pub trail : List ℕ

abbrev pub lent_with : (ground learned link : List ℕ) → Lent
lent_with ground learned link = record { ground = ground; learned = learned; link = link }

abbrev pub scratch_with : (mark cost trail : List ℕ) → Scratch
scratch_with mark cost trail = record { mark = mark; cost = cost; trail = trail }

-- the buffers, one by one
abbrev pub buffers_of : Lent → List (List ℕ)
buffers_of p = p.ground ∷ p.learned ∷ p.link ∷ []

abbrev pub scratch_buffers : Scratch → List (List ℕ)
scratch_buffers s = s.mark ∷ s.cost ∷ s.trail ∷ []

-- a buffer with these entries at its front; "entries after it stay"
abbrev pub fronted : (front buffer : List ℕ) → List ℕ
fronted front buffer = front ++ drop (length front) buffer

-- an answer, and what is lent afterwards
pub record After (A : Type 0) : Type 0 where
  pub answer : A
  pub lists : Lent

abbrev pub after : {A : Type 0} → A → Lent → After A
after answer p = record { answer = answer; lists = p }
