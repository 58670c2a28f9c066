-- Records of one width, laid end to end: the definitions, the laws that loops over records use, the round trip, and what stands at a place.
pub mod Rows
pub mod Stored
pub mod Loops
pub mod Round
pub mod Places
