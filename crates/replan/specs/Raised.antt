-- Learned values raised along a list of the expanded cells.
use Rattle.std.specs.Prelude.{ℕ, zero, suc, ◌-◌, List, get_or, set}

-- l with the learned value of each of the first k entries after a route of this many steps
unfoldable pub raised_to : (steps : ℕ) (cost list : List ℕ) (k : ℕ) → List ℕ → List ℕ
raised_to steps cost list zero l = l
raised_to steps cost list (suc k) l =
    set (raised_to steps cost list k l) (get_or list k 0) (steps - get_or cost (get_or list k 0) 0)
