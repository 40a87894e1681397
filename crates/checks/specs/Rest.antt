-- What is left of a call's tests once the data are accepted.
use Rattle.std.specs.Prelude.{ℕ, leb, eqb, Ok}
use Rattle.model.specs.Head.{cells_of}
use Rattle.model.specs.Refusals.{refuse_if}
use Rattle.model.specs.declared.Head.{Head}
use Rattle.model.specs.declared.Reason.TheVariants.{Outside, OwnCell}
use Rattle.model.specs.Verdict.{Verdict}

-- report: 3 for the reported cell, then 5
unfoldable pub report_rest : Head → (c : ℕ) → Verdict
report_rest head c = refuse_if (leb (cells_of head) c) Outside (refuse_if (eqb c head.cell) OwnCell (Ok tt))
