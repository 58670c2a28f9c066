-- The laws behind the cells. Inside: one record among others, read and stored, for every kind of record. Laws: so it is with bytes that hold a state.
-- Good: a saved state holds the state that is read from it.
pub mod Inside
pub mod Laws
pub mod Good
