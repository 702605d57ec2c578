pub mod BlankLemmas
pub mod ReadLemmas
pub mod PathLemmas
pub mod SlotPathLemmas
