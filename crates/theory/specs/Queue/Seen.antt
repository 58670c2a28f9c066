-- A thread, as the theory sees it: plain numbers. Both the line and the slot are as the machine's own view gives them (View): a thread that only
-- looks is seen at the line it goes on to, and slots are counted over the whole history. Assumes nothing.
use Rattle.std.specs.Prelude.{◌≡◌, ℕ}

infixl 60 ◌⟦line≔◌⟧
infixl 60 ◌⟦my≔◌⟧
infixl 60 ◌⟦prev≔◌⟧
infixl 60 ◌⟦succ≔◌⟧
infixl 60 ◌⟦nxmy≔◌⟧
infixl 60 ◌⟦slot≔◌⟧
pub record Seen : Type 0 where
  pub line : ℕ
  pub my : ℕ
  pub prev : ℕ
  pub succ : ℕ
  pub nxmy : ℕ
  pub slot : ℕ

-- ---- one number changed
abbrev pub ◌⟦line≔◌⟧ : Seen → ℕ → Seen
v ⟦line≔ x ⟧ = record { line = x; my = v.my; prev = v.prev; succ = v.succ; nxmy = v.nxmy; slot = v.slot }

abbrev pub ◌⟦my≔◌⟧ : Seen → ℕ → Seen
v ⟦my≔ x ⟧ = record { line = v.line; my = x; prev = v.prev; succ = v.succ; nxmy = v.nxmy; slot = v.slot }

abbrev pub ◌⟦prev≔◌⟧ : Seen → ℕ → Seen
v ⟦prev≔ x ⟧ = record { line = v.line; my = v.my; prev = x; succ = v.succ; nxmy = v.nxmy; slot = v.slot }

abbrev pub ◌⟦succ≔◌⟧ : Seen → ℕ → Seen
v ⟦succ≔ x ⟧ = record { line = v.line; my = v.my; prev = v.prev; succ = x; nxmy = v.nxmy; slot = v.slot }

abbrev pub ◌⟦nxmy≔◌⟧ : Seen → ℕ → Seen
v ⟦nxmy≔ x ⟧ = record { line = v.line; my = v.my; prev = v.prev; succ = v.succ; nxmy = x; slot = v.slot }

abbrev pub ◌⟦slot≔◌⟧ : Seen → ℕ → Seen
v ⟦slot≔ x ⟧ = record { line = v.line; my = v.my; prev = v.prev; succ = v.succ; nxmy = v.nxmy; slot = x }

-- a thread at line l is the thread put at line l: for what computes at a numeral line
pub at_line : (l : ℕ) (v : Seen) → v.line ≡ l → v ≡ v ⟦line≔ l ⟧
at_line l v e = λ j. record { line = e j; my = v.my; prev = v.prev; succ = v.succ; nxmy = v.nxmy; slot = v.slot }
