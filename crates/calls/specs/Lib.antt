-- What the cores write in steps: cut links, filled rows, a route's cells, and a counted front.
pub mod Cuts
pub mod Rows
pub mod RouteWritten
pub mod Counted
