pub mod BracketLemmas
pub mod ReplacedLemmas
pub mod PartLemmas
pub mod PathLexemes
pub mod LexedFronts
pub mod PathReading
pub mod PathExpressions
