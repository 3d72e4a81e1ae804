pub mod Table
pub mod Record
pub mod Number
pub mod Entry
pub mod Hash
pub mod Move
