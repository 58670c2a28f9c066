-- A fresh lock has the shape: no thread has left its idle line, and no node is in use or locked. So nothing is said of any thread or node (`none`), and
-- what is left is arithmetic. Assumes nothing.
use Rattle.std.specs.Prelude.{[], ◌≡◌, refl, ℕ, ◌≤◌}
use Rattle.std.proofs.Common.{arith}
use Rattle.theory.specs.Queue.AtLines.{At, put}
use Rattle.theory.specs.Queue.Seen.{Seen}
use Rattle.theory.specs.Shape.Shape.{Ordered, Shape}

-- `next` of a node is whatever it is: line 12 stores in it before anybody reads it
module _ (th : ℕ → Seen) (used next locked : ℕ → ℕ)
    (idle : (q : ℕ) → (th q).line ≤ 11) (none_used : (n : ℕ) → used n ≡ 0) (none-locked : (n : ℕ) → locked n ≡ 0) where
  -- at 11, or at no line, nothing is said
  none : {a b : ℕ} {X : Type 0} (q : ℕ) → 12 ≤ a → At a b (th q).line X
  none q h = put λ x. absurd (omega (arith, idle q))

  -- the flag is up, the tail empty, and so is the queue: the next place is 1
  pub shape_start : Shape
      (record { flag = 1; tail = 0; mess = 0; low = 1; high = 1; used = used; next = next; locked = locked; owner = λ _. 0; taker = λ _. 0 }) th
  shape_start = record {
    shared = record { flag_range = omega arith; flag_empty = omega arith; tail_empty = λ _. refl; locked_range = λ k. omega (arith, none-locked k) };
    places = record { order = omega arith; place = λ q x. absurd (omega (arith, idle q)); held = λ k q w from to. absurd (omega arith) };
    nodes = record { node = λ q x. absurd (omega (arith, idle q)); owned = λ k q w x. absurd (omega (arith, none_used k)) };
    own = λ q. record {
      private = record {
        line_range = omega (arith, idle q);
        copied = none q (omega arith);
        returned = none q (omega arith);
        none_seen = none q (omega arith);
      };
      cleared = none q (omega arith);
      turn = record {
        still_locked = none q (omega arith);
        for_flag = none q (omega arith);
        flag_found = none q (omega arith);
        behind = none q (omega arith);
        spinning = none q (omega arith);
        inside = none q (omega arith);
      };
      mess = none q (omega arith);
    };
    links = record { link = λ q r x e. absurd (omega (arith, idle r)); last = λ q x e. absurd (omega (arith, idle q)) };
  }

-- nobody has exchanged the tail, and nobody has passed
pub order_start : (th : ℕ → Seen) → ((q : ℕ) → (th q).line ≤ 11) → Ordered th (λ _. 0) 1 1 [] []
order_start th idle = record {
  size = refl;
  names = λ k x. absurd (omega arith);
  first_passed = refl;
  before = λ q x. absurd (omega (arith, idle q));
  past = λ q x. absurd (omega (arith, idle q));
  empty = λ _. refl;
}
