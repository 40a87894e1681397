-- List's verdict, the walk that writes the route, and its count.
pub mod ListCases
pub mod RouteWritten
pub mod ListCounts
