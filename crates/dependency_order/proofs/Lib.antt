pub mod ListLemmas
pub mod NodeLemmas
pub mod WalkLemmas
pub mod SpreadLemmas
