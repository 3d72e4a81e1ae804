pub mod FunctionLaws
pub mod GroupLaws
pub mod EditLaws
pub mod MovableLaws
