-- The theorems about a run over lent bytes that a change of what the bytes are to be can refute, and their argument. RunLeft: the bytes that a run leaves, from
-- which `sedge_run` is proved too. Theorems: what of it a buyer needs.
pub mod RunLeft
pub mod Theorems
