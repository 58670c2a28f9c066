-- The theorems about a step that a change of what a line does can refute, and their arguments.
-- Leads: the executable definition against Figure 1, line by line. Against: sound and complete, and no second tool. Theorems: what of it a buyer needs.
pub mod Leads
pub mod Against
pub mod Theorems
