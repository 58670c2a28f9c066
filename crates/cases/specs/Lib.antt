-- Document 01's "States to try by hand", P1 to P12, and the useless tools of its "How tight the promises are".
pub mod Case
pub mod Cases
pub mod SameRun
pub mod Useless
pub mod Shortcut
