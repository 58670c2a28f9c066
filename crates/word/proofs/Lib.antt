-- The laws by which `how_many` and `none_from` are proved.
pub mod Laws
