mod Bits
mod Granting
mod LentMasks
mod NumbersSoFar
mod Below
mod Denied
mod LeasesStaySound
mod EndedLeases
mod OpenTokens
pub mod Agreeing
pub mod Crossing
pub mod MasterKeys
pub mod ObjectsRise
pub mod NewestLease
mod ByKey
mod Releasing
mod Lending
