-- `search::search` meets its contract. Assumes nothing.
use Rattle.model.proofs.Lists.Filled.{filled_to, filled_mid}
use Rattle.search.proofs.SearchCases.{can_begin, huntable, hunted}
use borrow.Author.Rules.{rules}
use Rattle.search.proofs.search.Goals as goal

pub begin-requires : goal.begin-requires
begin-requires c = let t = can_begin c.requires in search rules

pub hunt-requires-clause-huntable : goal.hunt-requires-clause-huntable
hunt-requires-clause-huntable c =
    let kept = c.begin.ensures.same.1.cells in
    rw kept
    (huntable c.requires _ _ _ _ (rw (kept, c.begin.ensures.waiting) at c.begin.ensures.begun)
    (search (rules, filled_to, filled_mid)))

pub returns-clause-hunted : goal.returns-clause-hunted
returns-clause-hunted c =
    let kept = c.begin.ensures.same.1.cells in
    hunted c.requires _ _ _ _ _ _ _ (rw (kept, c.begin.ensures.waiting) at c.begin.ensures.begun) (rw kept at c.hunt.ensures.hunted)
