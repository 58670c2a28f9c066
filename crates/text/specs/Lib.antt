-- The text of a schedule's run: decimal digits and letters, the lines of document 01, what the call gives, the fields of the lines, and the theorems on
-- these. Inner is what the crate's own functions ask for and give. Proof holds the arguments.
pub mod Decimal
pub mod Written
pub mod Text
pub mod Shown
pub mod Inner
pub mod Theorems
pub mod Proof
