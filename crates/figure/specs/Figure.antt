-- Figure 1 of source document 000, "State machine of the lock MCSHLi, with ghost variables", transcribed from the paper: the steps that thread p
-- can perform. `Figure p n s s'` says that thread p, by executing the line that it stands at, leads from state s to state s', and that n is the
-- node chosen at line 11. One rule a line, under the paper's own text; every value on the right of a ≔ is that of the state before the step, and
-- all that is not named stays as it was. With the readings of document 01: ⊥ is node 0 and is not kept among `local`, the set `local` is
-- the word of nodes in use, `my` is 0 before the first choice, and `entered` counts the choices at line 11.
-- Rests on the state's parts (crate `lock`) and the word of nodes in use (crate `word`) alone. Assumes nothing.
use Rattle.std.specs.Prelude.{cond, false, ◌≢◌, ◌≡◌, ℕ, ◌+◌, ◌≤◌}
use Rattle.lock.specs.State.{◌⟨entered≔◌⟩, ◌⟨flag≔◌⟩, ◌⟨high≔◌⟩, ◌⟨line≔◌⟩, ◌⟨locked≔◌⟩, ◌⟨low≔◌⟩, ◌⟨mess≔◌⟩, ◌⟨my≔◌⟩, ◌⟨next≔◌⟩, ◌⟨node◌≔◌⟩}
use Rattle.lock.specs.State.{◌⟨nxmy≔◌⟩, ◌⟨prev≔◌⟩, ◌⟨shared≔◌⟩, ◌⟨slot≔◌⟩, ◌⟨succ≔◌⟩, ◌⟨tail≔◌⟩, ◌⟨thread◌≔◌⟩, ◌⟨used≔◌⟩, node_at, thread_at}
use Rattle.lock.specs.declared.State.{State}
use Rattle.number.specs.Numbers.{behind, is_bottom, bottom, place, same}
use Rattle.number.specs.declared.NodeNo.{NodeNo}
use Rattle.number.specs.declared.Place.{Place}
use Rattle.number.specs.declared.ThreadNo.{ThreadNo}
use Rattle.word.specs.Word.{in_use, put_in, take_out}

infixl 60 ◌⟪flag≔◌⟫
infixl 60 ◌⟪tail≔◌⟫
infixl 60 ◌⟪mess≔◌⟫
infixl 60 ◌⟪low≔◌⟫
infixl 60 ◌⟪high≔◌⟫
infixl 60 ◌⟪entered≔◌⟫
infixl 60 ◌⟪local≔◌⟫
infixl 60 ◌⟪next◌≔◌⟫
infixl 60 ◌⟪locked◌≔◌⟫
infixl 60 ◌⟪line◌≔◌⟫
infixl 60 ◌⟪my◌≔◌⟫
infixl 60 ◌⟪prev◌≔◌⟫
infixl 60 ◌⟪succ◌≔◌⟫
infixl 60 ◌⟪nxmy◌≔◌⟫
infixl 60 ◌⟪slot◌≔◌⟫
-- ---- the variables of the figure: those of thread p, those of node k, and the shared ones
abbrev pub line : State → ThreadNo → ℕ
line s p = (thread_at s p).line

abbrev pub my : State → ThreadNo → NodeNo
my s p = (thread_at s p).my

abbrev pub prev : State → ThreadNo → NodeNo
prev s p = (thread_at s p).prev

abbrev pub succ : State → ThreadNo → NodeNo
succ s p = (thread_at s p).succ

abbrev pub nxmy : State → ThreadNo → NodeNo
nxmy s p = (thread_at s p).nxmy

abbrev pub slot : State → ThreadNo → Place
slot s p = (thread_at s p).slot

abbrev pub next : State → NodeNo → NodeNo
next s k = (node_at s k).next

abbrev pub locked : State → NodeNo → ℕ
locked s k = (node_at s k).locked

abbrev pub flag : State → ℕ
flag s = s.shared.flag

abbrev pub tail : State → NodeNo
tail s = s.shared.tail

abbrev pub mess : State → NodeNo
mess s = s.shared.mess

abbrev pub low : State → Place
low s = s.shared.low

abbrev pub high : State → Place
high s = s.shared.high

abbrev pub entered : State → ℕ
entered s = s.shared.entered

abbrev pub local : State → ℕ
local s = s.shared.used

-- ---- the state with one variable changed
abbrev pub ◌⟪flag≔◌⟫ : State → ℕ → State
s ⟪flag≔ x ⟫ = s ⟨shared≔ s.shared ⟨flag≔ x ⟩ ⟩

abbrev pub ◌⟪tail≔◌⟫ : State → NodeNo → State
s ⟪tail≔ x ⟫ = s ⟨shared≔ s.shared ⟨tail≔ x ⟩ ⟩

abbrev pub ◌⟪mess≔◌⟫ : State → NodeNo → State
s ⟪mess≔ x ⟫ = s ⟨shared≔ s.shared ⟨mess≔ x ⟩ ⟩

abbrev pub ◌⟪low≔◌⟫ : State → Place → State
s ⟪low≔ x ⟫ = s ⟨shared≔ s.shared ⟨low≔ x ⟩ ⟩

abbrev pub ◌⟪high≔◌⟫ : State → Place → State
s ⟪high≔ x ⟫ = s ⟨shared≔ s.shared ⟨high≔ x ⟩ ⟩

abbrev pub ◌⟪entered≔◌⟫ : State → ℕ → State
s ⟪entered≔ x ⟫ = s ⟨shared≔ s.shared ⟨entered≔ x ⟩ ⟩

abbrev pub ◌⟪local≔◌⟫ : State → ℕ → State
s ⟪local≔ x ⟫ = s ⟨shared≔ s.shared ⟨used≔ x ⟩ ⟩

abbrev pub ◌⟪next◌≔◌⟫ : State → NodeNo → NodeNo → State
s ⟪next k ≔ x ⟫ = s ⟨node k ≔ node_at s k ⟨next≔ x ⟩ ⟩

abbrev pub ◌⟪locked◌≔◌⟫ : State → NodeNo → ℕ → State
s ⟪locked k ≔ x ⟫ = s ⟨node k ≔ node_at s k ⟨locked≔ x ⟩ ⟩

abbrev pub ◌⟪line◌≔◌⟫ : State → ThreadNo → ℕ → State
s ⟪line p ≔ x ⟫ = s ⟨thread p ≔ thread_at s p ⟨line≔ x ⟩ ⟩

abbrev pub ◌⟪my◌≔◌⟫ : State → ThreadNo → NodeNo → State
s ⟪my p ≔ x ⟫ = s ⟨thread p ≔ thread_at s p ⟨my≔ x ⟩ ⟩

abbrev pub ◌⟪prev◌≔◌⟫ : State → ThreadNo → NodeNo → State
s ⟪prev p ≔ x ⟫ = s ⟨thread p ≔ thread_at s p ⟨prev≔ x ⟩ ⟩

abbrev pub ◌⟪succ◌≔◌⟫ : State → ThreadNo → NodeNo → State
s ⟪succ p ≔ x ⟫ = s ⟨thread p ≔ thread_at s p ⟨succ≔ x ⟩ ⟩

abbrev pub ◌⟪nxmy◌≔◌⟫ : State → ThreadNo → NodeNo → State
s ⟪nxmy p ≔ x ⟫ = s ⟨thread p ≔ thread_at s p ⟨nxmy≔ x ⟩ ⟩

abbrev pub ◌⟪slot◌≔◌⟫ : State → ThreadNo → Place → State
s ⟪slot p ≔ x ⟫ = s ⟨thread p ≔ thread_at s p ⟨slot≔ x ⟩ ⟩

-- ---- initially: flag = true ∧ tail = ⊥ ∧ local = {⊥} ∧ low = high = 1 ∧ ∀ q ∈ thread : pc = 11 ∧ slot = 0
pub record Initially (s : State) : Type 0 where
  pub raised : flag s ≡ 1
  pub no_tail : tail s ≡ bottom
  pub none_used : (k : NodeNo) → in_use (local s) k ≡ false
  pub lowest : low s ≡ place 1
  pub highest : high s ≡ place 1
  pub idle : (q : ThreadNo) → 1 ≤ q.0 → q.0 ≤ s.shared.threads → line s q ≡ 11
  pub no_slot : (q : ThreadNo) → 1 ≤ q.0 → q.0 ≤ s.shared.threads → slot s q ≡ place 0

-- ---- loop of thread p
pub data Figure (p : ThreadNo) (n : NodeNo) (s s' : State) : Type 0 where
  -- 11  NCS; choose my ∉ local; add my to local
  line11 :
      line s p ≡ 11 → n.0 ≢ 0 → in_use (local s) n ≡ false
      → s' ≡ s ⟪my p ≔ n ⟫ ⟪local≔ put_in (local s) n ⟫ ⟪entered≔ entered s + 1 ⟫ ⟪line p ≔ 12 ⟫
      → Figure p n s s'
  -- 12  next(my) := ⊥
  line12 : line s p ≡ 12 → s' ≡ s ⟪next my s p ≔ bottom ⟫ ⟪line p ≔ 13 ⟫ → Figure p n s s'
  -- 13  locked(my) := true
  line13 : line s p ≡ 13 → s' ≡ s ⟪locked my s p ≔ 1 ⟫ ⟪line p ≔ 14 ⟫ → Figure p n s s'
  -- 14  prev := tail; tail := my; slot := high; high++
  line14 :
      line s p ≡ 14
      → s' ≡ s ⟪prev p ≔ tail s ⟫ ⟪tail≔ my s p ⟫ ⟪slot p ≔ high s ⟫ ⟪high≔ behind (high s) ⟫ ⟪line p ≔ 15 ⟫
      → Figure p n s s'
  -- 15  if prev = ⊥ then (16) else (18)
  line15 : line s p ≡ 15 → s' ≡ s ⟪line p ≔ cond (is_bottom (prev s p)) 16 18 ⟫ → Figure p n s s'
  -- 16  await (flag)
  line16 : line s p ≡ 16 → flag s ≡ 1 → s' ≡ s ⟪line p ≔ 17 ⟫ → Figure p n s s'
  -- 17  flag := false, and on behind the endif
  line17 : line s p ≡ 17 → s' ≡ s ⟪flag≔ 0 ⟫ ⟪line p ≔ 20 ⟫ → Figure p n s s'
  -- 18  next(prev) := my
  line18 : line s p ≡ 18 → s' ≡ s ⟪next prev s p ≔ my s p ⟫ ⟪line p ≔ 19 ⟫ → Figure p n s s'
  -- 19  await (¬locked(my))
  line19 : line s p ≡ 19 → locked s (my s p) ≡ 0 → s' ≡ s ⟪line p ≔ 20 ⟫ → Figure p n s s'
  -- 20  nxmy := succ := next(my)
  line20 :
      line s p ≡ 20 → s' ≡ s ⟪nxmy p ≔ next s (my s p) ⟫ ⟪succ p ≔ next s (my s p) ⟫ ⟪line p ≔ 21 ⟫ → Figure p n s s'
  -- 21  if succ = ⊥ then (22), else on behind the endif
  line21 : line s p ≡ 21 → s' ≡ s ⟪line p ≔ cond (is_bottom (succ s p)) 22 25 ⟫ → Figure p n s s'
  -- 22  if tail = my then tail := ⊥ and on behind the endif, else (23)
  line22 :
      line s p ≡ 22
      → s' ≡ cond (same (tail s) (my s p)) (s ⟪tail≔ bottom ⟫ ⟪line p ≔ 25 ⟫) (s ⟪line p ≔ 23 ⟫)
      → Figure p n s s'
  -- 23  await (next(my) ≠ ⊥)
  line23 : line s p ≡ 23 → (next s (my s p)).0 ≢ 0 → s' ≡ s ⟪line p ≔ 24 ⟫ → Figure p n s s'
  -- 24  nxmy := succ := next(my)
  line24 :
      line s p ≡ 24 → s' ≡ s ⟪nxmy p ≔ next s (my s p) ⟫ ⟪succ p ≔ next s (my s p) ⟫ ⟪line p ≔ 25 ⟫ → Figure p n s s'
  -- 25  mess := succ
  line25 : line s p ≡ 25 → s' ≡ s ⟪mess≔ succ s p ⟫ ⟪line p ≔ 26 ⟫ → Figure p n s s'
  -- 26  succ := ⊥; remove my from local
  line26 :
      line s p ≡ 26 → s' ≡ s ⟪succ p ≔ bottom ⟫ ⟪local≔ take_out (local s) (my s p) ⟫ ⟪line p ≔ 27 ⟫ → Figure p n s s'
  -- 27  CS
  line27 : line s p ≡ 27 → s' ≡ s ⟪line p ≔ 28 ⟫ → Figure p n s s'
  -- 28  succ := mess
  line28 : line s p ≡ 28 → s' ≡ s ⟪succ p ≔ mess s ⟫ ⟪line p ≔ 29 ⟫ → Figure p n s s'
  -- 29  if succ ≠ ⊥ then locked(succ) := false else flag := true endif; low++
  line29 :
      line s p ≡ 29
      → s' ≡ cond (is_bottom (succ s p)) (s ⟪flag≔ 1 ⟫) (s ⟪locked succ s p ≔ 0 ⟫) ⟪low≔ behind (low s) ⟫ ⟪line p ≔ 11 ⟫
      → Figure p n s s'
