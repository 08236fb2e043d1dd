pub mod Fields
pub mod Kind
