-- The nodes in use, as one 32-bit word: what it says, and the laws by which callers use it.
pub mod Word
pub mod Bits
pub mod Laws
