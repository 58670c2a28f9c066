-- The laws by which `fresh_state`, `table_valid` and `valid` are proved.
pub mod Laws
