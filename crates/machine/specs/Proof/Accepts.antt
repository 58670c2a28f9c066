-- An accepted step: where it leads, that it keeps a valid state valid, and that it was possible; and a step, accepted or refused, keeps T and K.
-- Assumes nothing.
use Rattle.std.specs.Prelude.{Bool, false, true, ◌≢◌, ◌≡◌, refl}
use Rattle.std.proofs.Common.{inl, inr, ap, arith}
use Rattle.std.proofs.Math.Logic.{by_cases}
use Rattle.std.proofs.Math.Decide.{dec_le, ℕ_discrete}
use Rattle.figure.specs.Figure.{entered, high, local, low}
use Rattle.lock.specs.Judged.{in_table}
use Rattle.lock.specs.State.{thread_at}
use Rattle.lock.specs.Valid.{SameSize, Valid}
use Rattle.lock.specs.declared.State.{State}
use Rattle.lock.specs.declared.Thread.{Thread}
use Rattle.number.specs.Refused.{done}
use Rattle.number.specs.Sizes.{last_place, most_entries}
use Rattle.number.specs.declared.NodeNo.{NodeNo}
use Rattle.number.specs.declared.ThreadNo.{ThreadNo}
use Rattle.machine.specs.Conditions.{NoneApply, conditions}
use Rattle.machine.specs.Demands.{Possible}
use Rattle.machine.specs.Proof.Answer.{Accepted, accepted, executes, unchanged}
use Rattle.machine.specs.Proof.Exactly.{accepted_exactly}
use Rattle.machine.specs.Proof.Kept.{after_size, after_valid}
use Rattle.machine.specs.Step.{after, step}
use Rattle.machine.specs.Stepped.{Stepped}
use Rattle.word.specs.Word.{in_use}

module _ (s : State) (t : ThreadNo) (n : NodeNo) (rule : Valid s) (h : (step s t n).answer ≡ done) where
  abbrev v : Thread
  v = thread_at s t

  ok : Accepted s t n
  ok = accepted s t n h

  pub now_at : (step s t n).state ≡ after v.line s t n
  now_at = ap (λ (r : Stepped). r.state) (executes s t n ok)

  pub still_valid : Valid (step s t n).state
  still_valid = rw now_at (after_valid s t n rule ok)

  pub same_size : SameSize s (step s t n).state
  same_size = rw now_at (after_size s t n rule ok)

pub valid_kept : (s : State) (t : ThreadNo) (n : NodeNo) → Valid s → (step s t n).answer ≡ done → Valid (step s t n).state
valid_kept s t n = still_valid s t n

-- ---- an accepted step is possible

surely : (b : Bool) → (b ≡ false → ⊥) → b ≡ true
surely true h = refl
surely false h = absurd (h refl)

module _ (s : State) (t : ThreadNo) (n : NodeNo) (rule : Valid s) (h : (step s t n).answer ≡ done) where
  not_one : NoneApply (conditions s t n)
  not_one =
      (accepted_exactly s t n rule.sized).0 h

  pub possible : Possible s t n
  possible =
      let no6 = not_one.1.1.0 in
      let no7 = not_one.1.1.1.0 in
      let no9 = not_one.1.1.1.1.1.0 in
      let no10 = not_one.1.1.1.1.1.1.0 in
      let no11 = not_one.1.1.1.1.1.1.1.0 in
      record {
        thread = in_table t.0 s.shared.threads (ok s t n rule h).there;
        named = λ e. by_cases (ℕ_discrete n.0 0) (λ z. z) (λ z. absurd (no6 (inr (e, z))));
        within = λ e. by_cases (dec_le n.0 s.shared.nodes) (λ z. z) (λ z. absurd (no6 (inl (e, λ b. z b.to))));
        entries = λ e. let off : entered s ≢ most_entries = λ z. no7 (e, z) in omega (arith, rule.shared.entered);
        high_places = λ e. let off : (high s).0 ≢ last_place = λ z. no11 (inl (e, z)) in omega (arith, rule.shared.high.to);
        low_places = λ e. let off : (low s).0 ≢ last_place = λ z. no11 (inr (e, z)) in omega (arith, rule.shared.low.to);
        followed = λ k f. ((λ z. no9 (k, f, z)), surely (in_use (local s) k) (λ z. no10 (k, f, z)));
      }

-- ---- accepted or refused, a step leaves T and K

pub size_kept : (s : State) (t : ThreadNo) (n : NodeNo) → Valid s → SameSize s (step s t n).state
size_kept s t n rule = go (ℕ_discrete (step s t n).answer done)
  where
    go : Dec ((step s t n).answer ≡ done) → SameSize s (step s t n).state
    go (yes h) = same_size s t n rule h
    go (no h) = rw (unchanged s t n h) (record { threads = refl; nodes = refl })
