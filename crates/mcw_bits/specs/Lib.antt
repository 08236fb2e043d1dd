pub mod Commonest
pub mod Mcw
pub mod Inner
