-- What the crate's inner functions give, by the place of a number in its record. At a numeral it computes to one variable of the figure, so that getters
-- and setters, which name a place each, need no proof of their own. Assumes nothing.
use Rattle.std.specs.Prelude.{List, [], ◌∷◌, ℕ, ◌-◌, get_or}
use Rattle.lock.specs.State.{◌⟨entered≔◌⟩, ◌⟨flag≔◌⟩, ◌⟨high≔◌⟩, ◌⟨line≔◌⟩, ◌⟨locked≔◌⟩, ◌⟨low≔◌⟩, ◌⟨mess≔◌⟩, ◌⟨my≔◌⟩, ◌⟨next≔◌⟩, ◌⟨nxmy≔◌⟩}
use Rattle.lock.specs.State.{◌⟨prev≔◌⟩, ◌⟨succ≔◌⟩, ◌⟨tail≔◌⟩, ◌⟨used≔◌⟩}
use Rattle.lock.specs.declared.Node.{Node}
use Rattle.lock.specs.declared.Shared.{Shared}
use Rattle.lock.specs.declared.State.{State}
use Rattle.lock.specs.declared.Thread.{Thread}
use Rattle.number.specs.Numbers.{node, place}
use Rattle.cells.specs.Cells.{Shows}

-- x is what f says, as it is and wrapped as a kind of number: a node's, or a place
abbrev pub ShowsAs : {A : Type 0} → (ℕ → A) → List ℕ → ℕ → (State → ℕ) → Type 0
ShowsAs wrap b x f = Shows b x f × Shows b (wrap x) (λ s. wrap (f s))

-- ---- x in place of the number at byte j of a record
abbrev pub shared_with : ℕ → ℕ → Shared → Shared
shared_with j x sh = get_or ((sh ⟨flag≔ x ⟩) ∷ (sh ⟨tail≔ node x ⟩) ∷ (sh ⟨mess≔ node x ⟩) ∷ []) (j - 4) sh

abbrev pub node_with : ℕ → ℕ → Node → Node
node_with j x v = get_or ((v ⟨next≔ node x ⟩) ∷ (v ⟨locked≔ x ⟩) ∷ []) (j - 2) v

abbrev pub thread_with : ℕ → ℕ → Thread → Thread
thread_with j x v = get_or ((v ⟨line≔ x ⟩) ∷ (v ⟨my≔ node x ⟩) ∷ (v ⟨prev≔ node x ⟩) ∷ (v ⟨succ≔ node x ⟩) ∷ (v ⟨nxmy≔ node x ⟩) ∷ []) (j - 2) v

-- ---- of the header's numbers of four bytes, number i; and x in its place
abbrev pub four_of : ℕ → Shared → ℕ
four_of i sh = get_or (sh.low.0 ∷ sh.high.0 ∷ sh.entered ∷ sh.used ∷ []) i 0

abbrev pub shared_with_four : ℕ → ℕ → Shared → Shared
shared_with_four i x sh = get_or ((sh ⟨low≔ place x ⟩) ∷ (sh ⟨high≔ place x ⟩) ∷ (sh ⟨entered≔ x ⟩) ∷ (sh ⟨used≔ x ⟩) ∷ []) i sh
