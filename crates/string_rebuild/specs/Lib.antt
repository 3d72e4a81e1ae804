pub mod Ready
