pub mod FrontLemmas
mod Shorter
mod AttributeLemmas
mod ItemLemmas
mod ItemLaws
mod ValueLemmas
mod NumberLemmas
mod ReferenceLemmas
mod RepeatedLemmas
mod ElementLemmas
mod ScanLemmas
mod ReadingLemmas
mod BalanceLemmas
mod ScannerLemmas
pub mod SpelledLemmas
