-- The arguments behind the theorems about saved states.
-- Records: reading and writing one record undo each other. Kinds: what code for any kind of record asks of one. File: the test of a file and the rule agree. Size: how many bytes a saved state has.
-- Save, Read: what the number of a save and of a reading says. Tables: a table of 32 places against its records. ReadSave: what was saved is read as
-- it was. SaveRead: what was read is valid, and is written as it was. Fresh: the bytes of a fresh state. Held: the state that bytes hold, as crates
-- above cite it.
pub mod Records
pub mod Kinds
pub mod File
pub mod Size
pub mod Save
pub mod Read
pub mod Tables
pub mod ReadSave
pub mod SaveRead
pub mod Fresh
pub mod Held
