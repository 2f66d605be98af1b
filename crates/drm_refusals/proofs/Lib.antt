pub mod FactLemmas
pub mod LoopLemmas
pub mod ReportLemmas
pub mod SizeLemmas
