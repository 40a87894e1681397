-- Stores into a head array.
pub mod HeadStores
