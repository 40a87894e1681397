-- A call's verdict: accepted, or refused for a reason.
use Rattle.std.specs.Prelude.{Result}
use Rattle.model.specs.declared.Reason.{Reason}

abbrev pub Verdict : Type 0
Verdict = Result Unit Reason
