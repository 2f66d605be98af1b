pub mod Lists
pub mod FoundInLists
pub mod Each
pub mod Orders
pub mod Numbers
pub mod Pages
pub mod Chains
pub mod Rising
pub mod Edits
pub mod Placed
pub mod Least
pub mod MarkedLemmas
pub mod KeysLemmas
pub mod RowsByKey
pub mod Entries
mod WordLemmas
mod PlaceLemmas
mod TableLemmas
mod SlotLemmas
mod NextLemmas
mod NodeLemmas
mod CountLemmas
mod EditLemmas
mod FillLemmas
mod CutLemmas
mod EmptyLemmas
mod LendLemmas
mod RootLemmas
mod ArrayLemmas
pub mod Crossing
