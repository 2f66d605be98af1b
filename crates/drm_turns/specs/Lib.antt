pub mod History
pub mod Views
pub mod Rule
pub mod Plays
pub mod Participants
pub mod Turns
pub mod ParticipantFields
pub mod Places
