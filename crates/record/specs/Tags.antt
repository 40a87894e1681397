-- The tags of a record's fields.
use Rattle.std.specs.Prelude.{ℕ}
use Rattle.record.specs.declared.places.Tag.{Tag}
use Rattle.record.specs.declared.places.Tag.TheVariants.{Width, Height, Goal, Cell, Ground, Learned, Link}

abbrev pub tag_byte : Tag → ℕ
tag_byte Width = 1
tag_byte Height = 2
tag_byte Goal = 3
tag_byte Cell = 4
tag_byte Ground = 5
tag_byte Learned = 6
tag_byte Link = 7
