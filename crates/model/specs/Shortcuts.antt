-- What it is that an example is as expected, of the cases of "Shortcuts that look right", which are proved in
-- proofs/Computed/Shortcuts. No contract cites this file.
use Rattle.std.specs.Prelude.{◌≡◌}
use Rattle.model.specs.Examples.{Example, as_is}

abbrev pub AsExpected : Example → Type 0
AsExpected e = as_is e ≡ e.seen
