-- Order: the order in which waiting cells are taken is strict and total.
pub mod Order
-- Expansions: an expansion over scratch is one of the theory's.
pub mod Expansions
-- SearchInvariant: each iteration keeps the theory's invariant.
pub mod SearchInvariant
-- SearchEnds: a search over accepted data stops, or nothing waits.
pub mod SearchEnds
-- Unseen: what scratch holds where the search saw nothing.
pub mod Unseen
-- Lessons: what is learned after a stop.
pub mod Lessons
-- Trail: the trail leads back to the cart, and its links are a route.
pub mod Trail
