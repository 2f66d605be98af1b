pub mod ClosingLemmas
pub mod WithinLemmas
pub mod OpeningLemmas
mod HoldLemmas
mod LabelLemmas
mod LeaseRowLemmas
pub mod StepLemmas
