pub mod Order
pub mod Clear
