-- P1 to P11 of document 01, by computation from the definitions. Assumes nothing.
use Rattle.std.specs.Prelude.{◌≡◌, refl, map}
use Rattle.model.specs.Examples.{definitions, table, as_is, as_expected, on}

-- What is seen in each example is what document 01 expects.
pub examples : map as_is table ≡ map as_expected table
unfolding table on definitions
examples = refl
