pub mod Refusing
pub mod Tops
pub mod Kept
