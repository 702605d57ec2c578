pub mod ReferenceLemmas
pub mod NumberedLemmas
pub mod JoinedLemmas
pub mod ArgumentNodes
pub mod RenamingLemmas
