pub mod HistoryLemmas
mod ChainLemmas
mod StepLemmas
pub mod NoteLemmas
pub mod HandleLemmas
pub mod ObjectLemmas
mod TrailLemmas
mod TouchLemmas
pub mod PassingLemmas
pub mod RisingLemmas
