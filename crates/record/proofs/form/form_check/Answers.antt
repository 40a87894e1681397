-- `record::form::form_check` meets its contract: at each return the tests that led there decide the answer (`FormCases`). Assumes nothing.
use Rattle.record.proofs.form.FormCases.{form_first, form_sides, form_rest, form_passed}
use Rattle.record.proofs.form.form_check.Goals as goal

pub returns-then-not-sides_test : goal.returns-then-not-sides_test
returns-then-not-sides_test c = form_first _ c.sides_test.ensures c.if-not-sides_test.true

pub returns-then-bad_sides : goal.returns-then-bad_sides
returns-then-bad_sides c =
    form_sides _ c.sides_test.ensures c.if-not-sides_test.false
    c.byte_of-width.ensures c.byte_of-height.ensures
    c.bad_sides.ensures c.if-bad_sides.true

pub returns-then-rest_test : goal.returns-then-rest_test
returns-then-rest_test c =
    form_passed _ c.sides_test.ensures c.if-not-sides_test.false
    c.byte_of-width.ensures c.byte_of-height.ensures
    c.bad_sides.ensures c.if-bad_sides.false c.rest_test.ensures c.if-rest_test.true

pub returns-else-rest_test : goal.returns-else-rest_test
returns-else-rest_test c =
    form_rest _ c.sides_test.ensures c.if-not-sides_test.false
    c.byte_of-width.ensures c.byte_of-height.ensures
    c.bad_sides.ensures c.if-bad_sides.false c.rest_test.ensures c.if-rest_test.false
