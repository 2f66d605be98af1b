pub mod Numbers
pub mod PlaneKinds
pub mod Topology
pub mod LeaseRules
pub mod Topologies
pub mod Modes
pub mod Tables
pub mod AddFbFault
