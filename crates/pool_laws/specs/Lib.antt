pub mod Laws
pub mod Order
