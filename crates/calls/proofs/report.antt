-- The links that lead to a blocked cell, cut in four directions.
pub mod CutLinks
