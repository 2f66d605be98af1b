mod Flat
mod Chains
mod OrderFacts
mod InOrder
mod ChangedLists
mod RecordFacts
mod ListsAfterCalls
mod Walks
mod After
mod Rests
mod Removal
mod PrimeFacts
pub mod Crossing
