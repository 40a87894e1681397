-- Learned values raised along a list, and links set back along the trail.
pub mod RelinkLaws
pub mod RaiseLaws
