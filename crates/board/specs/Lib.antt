pub mod Board
pub mod Given
pub mod Inner
