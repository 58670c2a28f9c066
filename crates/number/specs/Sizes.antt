-- Document 01: the paragraph on sizes of "What the tool covers", and the ends of the ranges of "Saved state". Assumes nothing.
use Rattle.std.specs.Prelude.{ℕ}

-- "T threads, 1 to 32, numbered from 1."
abbrev pub most_threads : ℕ
most_threads = 32

-- "K nodes, 1 to 32, numbered from 1."
abbrev pub most_nodes : ℕ
most_nodes = 32

-- "At most 1,000,000 entries (accepted steps at line 11) in a state's life."
abbrev pub most_entries : ℕ
most_entries = 1_000_000

-- "lines 11 to 29"
abbrev pub first_line : ℕ
first_line = 11

abbrev pub last_line : ℕ
last_line = 29

-- "Low and high are 1 to 1,000,001"
abbrev pub last_place : ℕ
last_place = 1_000_001
