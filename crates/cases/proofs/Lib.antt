-- The theorems about the useless tools, which a change of the cases that they are tried on can refute.
pub mod Useless
