pub mod LocalRange
pub mod Rounds
pub mod FewRounds
