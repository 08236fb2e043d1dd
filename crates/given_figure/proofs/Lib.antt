pub mod Smaller
pub mod GivenFigure
