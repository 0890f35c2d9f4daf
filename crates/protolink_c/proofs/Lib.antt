mod BoxBounds
mod BoxWord
mod Counting
pub mod Fields
mod Lending
mod PairWord
mod PointerWord
pub mod PoolSends
pub mod PoolSyncs
pub mod ViewFields
