-- What threads share, as the theory sees it: plain numbers, and functions of a node's number. Two things are no part of a state and are noted beside it:
-- `owner`, who chose a node last, and `taker`, who took a place. Low and high are counted over the whole history. Assumes nothing.
use Rattle.std.specs.Prelude.{ℕ}

infixl 60 ◌⟦flag≔◌⟧
infixl 60 ◌⟦tail≔◌⟧
infixl 60 ◌⟦mess≔◌⟧
infixl 60 ◌⟦low≔◌⟧
infixl 60 ◌⟦high≔◌⟧
infixl 60 ◌⟦used≔◌⟧
infixl 60 ◌⟦next≔◌⟧
infixl 60 ◌⟦locked≔◌⟧
infixl 60 ◌⟦owner≔◌⟧
infixl 60 ◌⟦taker≔◌⟧
pub record Memory : Type 0 where
  pub flag : ℕ
  pub tail : ℕ
  pub mess : ℕ
  pub low : ℕ
  pub high : ℕ
  -- of node k: 1 if it is in use and 0 if not, its next, its locked, and who chose it last
  pub used : ℕ → ℕ
  pub next : ℕ → ℕ
  pub locked : ℕ → ℕ
  pub owner : ℕ → ℕ
  -- of place k: who took it
  pub taker : ℕ → ℕ

-- ---- one part changed
abbrev pub ◌⟦flag≔◌⟧ : Memory → ℕ → Memory
m ⟦flag≔ x ⟧ = record { flag = x; tail = m.tail; mess = m.mess; low = m.low; high = m.high; used = m.used; next = m.next; locked = m.locked; owner = m.owner; taker = m.taker }

abbrev pub ◌⟦tail≔◌⟧ : Memory → ℕ → Memory
m ⟦tail≔ x ⟧ = record { flag = m.flag; tail = x; mess = m.mess; low = m.low; high = m.high; used = m.used; next = m.next; locked = m.locked; owner = m.owner; taker = m.taker }

abbrev pub ◌⟦mess≔◌⟧ : Memory → ℕ → Memory
m ⟦mess≔ x ⟧ = record { flag = m.flag; tail = m.tail; mess = x; low = m.low; high = m.high; used = m.used; next = m.next; locked = m.locked; owner = m.owner; taker = m.taker }

abbrev pub ◌⟦low≔◌⟧ : Memory → ℕ → Memory
m ⟦low≔ x ⟧ = record { flag = m.flag; tail = m.tail; mess = m.mess; low = x; high = m.high; used = m.used; next = m.next; locked = m.locked; owner = m.owner; taker = m.taker }

abbrev pub ◌⟦high≔◌⟧ : Memory → ℕ → Memory
m ⟦high≔ x ⟧ = record { flag = m.flag; tail = m.tail; mess = m.mess; low = m.low; high = x; used = m.used; next = m.next; locked = m.locked; owner = m.owner; taker = m.taker }

abbrev pub ◌⟦used≔◌⟧ : Memory → (ℕ → ℕ) → Memory
m ⟦used≔ x ⟧ = record { flag = m.flag; tail = m.tail; mess = m.mess; low = m.low; high = m.high; used = x; next = m.next; locked = m.locked; owner = m.owner; taker = m.taker }

abbrev pub ◌⟦next≔◌⟧ : Memory → (ℕ → ℕ) → Memory
m ⟦next≔ x ⟧ = record { flag = m.flag; tail = m.tail; mess = m.mess; low = m.low; high = m.high; used = m.used; next = x; locked = m.locked; owner = m.owner; taker = m.taker }

abbrev pub ◌⟦locked≔◌⟧ : Memory → (ℕ → ℕ) → Memory
m ⟦locked≔ x ⟧ = record { flag = m.flag; tail = m.tail; mess = m.mess; low = m.low; high = m.high; used = m.used; next = m.next; locked = x; owner = m.owner; taker = m.taker }

abbrev pub ◌⟦owner≔◌⟧ : Memory → (ℕ → ℕ) → Memory
m ⟦owner≔ x ⟧ = record { flag = m.flag; tail = m.tail; mess = m.mess; low = m.low; high = m.high; used = m.used; next = m.next; locked = m.locked; owner = x; taker = m.taker }

abbrev pub ◌⟦taker≔◌⟧ : Memory → (ℕ → ℕ) → Memory
m ⟦taker≔ x ⟧ = record { flag = m.flag; tail = m.tail; mess = m.mess; low = m.low; high = m.high; used = m.used; next = m.next; locked = m.locked; owner = m.owner; taker = x }
