-- The theorems about the text that a change of how its lines go on can refute, and their arguments. EventLines: the lines of a row of events. Passes: one pass
-- over the events of a schedule, from which its function is proved. Sizes: how long a text can be. Theorems: what of it a reader needs.
pub mod EventLines
pub mod Passes
pub mod Sizes
pub mod Theorems
