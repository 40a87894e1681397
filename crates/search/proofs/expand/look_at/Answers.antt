-- `search::expand::look_at` meets its contract: three ways through, each a case of `looked_at`. Assumes nothing.
use Rattle.search.proofs.expand.LookLaws.{look_blocked, look_dear, look_reach}
use mathlib.Core.Path.{◌∙◌}
use Rattle.search.proofs.expand.look_at.Goals as goal

pub returns-then-ground-y-ne0-clause-looked : goal.returns-then-ground-y-ne0-clause-looked
returns-then-ground-y-ne0-clause-looked c = record { is = look_blocked _ _ _ _ _ _ c.requires.inside.0 c.if-ground-y-ne0.true; queued = c.requires.agree }

pub returns-then-cost-g-clause-looked : goal.returns-then-cost-g-clause-looked
returns-then-cost-g-clause-looked c =
    record {
      is = look_dear _ _ _ _ _ _ c.requires.inside.0 c.if-ground-y-ne0.false c.if-cost-g.true;
      queued = c.requires.agree;
    }

pub returns-clause-looked : goal.returns-clause-looked
returns-clause-looked c =
    record {
      is = c.reach.ensures.reached.is ∙ look_reach _ _ _ _ _ _ c.requires.inside.0 c.if-ground-y-ne0.false c.if-cost-g.false;
      queued = c.reach.ensures.reached.queued;
    }
