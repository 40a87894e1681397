-- `turn::sighting` meets its contract: `find_map` calls `unknown_ahead` at 1 to 4, up to the first that is unknown (`SightingLaws`).
-- Assumes nothing.
use Rattle.std.proofs.Common.{rules}
use Rattle.std.proofs.iter.runs.Sources.{ranges}
use Rattle.turn.proofs.SightingLaws.{finds_first, reckoned}
use Rattle.turn.proofs.sighting.Goals as goal

pub returns : goal.returns
returns c =
    let r = c.find_map.ensures.runs in
    finds_first _ _ _ r.0 (search (rules, ranges)) (λ d a f h. search rules)
    (λ d l u a f h. search (rules, reckoned c.args.head c.args.truth.now c.args.ground.now)) _ r.2
