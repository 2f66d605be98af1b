pub mod Looked
mod ClientList
mod IdLemmas
mod LesseesOfMasters
mod ClientsOfMasters
mod MasterSlab
pub mod MasterChains
mod Upward
pub mod Pushed
mod Owned
mod Swept
pub mod Released
mod FreeMagics
mod MastersStaySound
pub mod Crossing
pub mod NewestMember
pub mod Unmade
