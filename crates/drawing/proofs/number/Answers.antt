-- `drawing::number` meets its contract: before each iteration what is still to be read is the same (`NumberRead`). Assumes nothing.
use Rattle.std.proofs.Common.{sym, ◌∙◌}
use Rattle.drawing.proofs.NumberRead.{digit_value, digit_rest, other_value, other_rest, none_value, none_rest}
use Rattle.drawing.proofs.number.Goals as goal

pub returns-then-not-is_digit-clause-value : goal.returns-then-not-is_digit-clause-value
returns-then-not-is_digit-clause-value c =
    other_value c.in-Some.ensures.cases.0 _ (sym c.is_digit.ensures ∙ c.if-not-is_digit.true) ∙ c.loop-byte.invariant.value

pub returns-then-not-is_digit-clause-rest : goal.returns-then-not-is_digit-clause-rest
returns-then-not-is_digit-clause-rest c =
    other_rest c.in-Some.ensures.cases.0 (sym c.is_digit.ensures ∙ c.if-not-is_digit.true) ∙ c.loop-byte.invariant.rest

pub loop-byte-preserved : goal.loop-byte-preserved
loop-byte-preserved c =
    let first = c.in-Some.ensures.cases.0 in
    let digit = sym c.is_digit.ensures ∙ c.if-not-is_digit.false in record {
      value = rw c.grown-value.ensures.0 (digit_value first _ digit ∙ c.loop-byte.invariant.value);
      rest = digit_rest first digit ∙ c.loop-byte.invariant.rest;
      small = c.grown-value.ensures.1;
    }

pub returns-clause-value : goal.returns-clause-value
returns-clause-value c = none_value _ _ c.in_default.ensures.cases ∙ c.loop-byte.invariant.value

pub returns-clause-rest : goal.returns-clause-rest
returns-clause-rest c = none_rest _ c.in_default.ensures.cases ∙ c.loop-byte.invariant.rest
