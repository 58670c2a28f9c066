-- Each test of a step says what its condition says. The table's rows agree with document 01's sentences (Table), so each test goes by what its row
-- counts, follows or waits for: four cases each, of which one or two speak. Assumes nothing.
use Rattle.std.specs.Prelude.{Bool, false, not, true, ◌||◌, ◌≢◌, ◌⊎◌, ◌≡◌, refl, ℕ, ◌≤◌, T, eqb, ltb}
use Rattle.std.proofs.Common.{true≢false, inl, inr, ⊎_elim, subst, sym, ◌∙◌, arith, eqb→eq, eqb-true, leb-false, leb-true, ltb-false, ltb-true, ne_eqb}
use Rattle.std.proofs.Math.Path.{ap}
use Rattle.std.proofs.lemmas.Bool.{eqb-false, not-false, not-true}
use Rattle.figure.specs.Figure.{entered, flag, high, line, local, locked, low, my, next}
use Rattle.lines.specs.Lines.{line_at}
use Rattle.machine.specs.Acts.{followed_by}
use Rattle.lines.specs.declared.Follow.{Follow}
use Rattle.lines.specs.declared.Follow.TheVariants.{My, NoNode, Prev, Succ}
use Rattle.lines.specs.declared.Wait.{Wait}
use Rattle.lines.specs.declared.Wait.TheVariants.{ForFlag, ForLink, ForUnlock, NoWait}
use Rattle.lock.specs.State.{node_at, thread_at}
use Rattle.lock.specs.Valid.{Between}
use Rattle.lock.specs.declared.State.{State}
use Rattle.lock.specs.declared.Thread.{Thread}
use Rattle.number.specs.Numbers.{is_bottom}
use Rattle.number.specs.Refused.{◌if◌, followed_empty, followed_unused, must_wait, no_entry_left, no_place_left, node_taken, wrong_node}
use Rattle.number.specs.Sizes.{last_place, most_entries}
use Rattle.number.specs.Tests.{either_holds, first_holds, neither_holds, second_holds}
use Rattle.number.specs.declared.NodeNo.{NodeNo}
use Rattle.number.specs.declared.ThreadNo.{ThreadNo}
use Rattle.machine.specs.Refusals.{bad_node, follows_empty, follows_unused, must_stay, no_entry, no_place, taken_node, wait_number}
use Rattle.machine.specs.Refusals.{Count}
use Rattle.machine.specs.Refusals.Count.{Entries, High, Low, Nothing}
use Rattle.word.specs.Word.{in_use}
use Rattle.machine.specs.Conditions.{◌given-when◌, Condition, Follows, Waits, among, follow_my}
use Rattle.machine.specs.Conditions.Follows.{my_at, prev_at, succ_at}
use Rattle.machine.specs.Conditions.Waits.{at16, at19, at23}
use Rattle.number.specs.FirstThat.{Reflects, never}
use Rattle.machine.specs.Proof.Table.{counts_at, follows_at, waits_at}
use Rattle.machine.specs.Step.{followed}

-- none of three tests holds
outside : (a b c : Bool) → T (not (a || (b || c))) → T c → ⊥
outside false false false h z = z
outside false false true h z = elim h [ ]
outside false true c h z = elim h [ ]
outside true b c h z = elim h [ ]

-- what a row says of its line, said of the line's number
at : {l k : ℕ} (says : ℕ → Bool) → T (says l) → l ≡ k → T (says k)
at says h e = subst (λ (x : ℕ). T (says x)) e h

-- ---- 6, 7, 8, 11: by what the line counts
module _ (s : State) (t : ThreadNo) (n : NodeNo) where
  abbrev K : ℕ
  K = s.shared.nodes

  abbrev Wrong : Condition
  Wrong = wrong_node given-when (((line s t ≡ 11) × (Between 1 n.0 K → ⊥)) ⊎ ((line s t ≢ 11) × (n.0 ≢ 0)))

  -- where the line is not 11 the node must be 0
  elsewhere : line s t ≢ 11 → Reflects (wrong_node if not (is_bottom n)) Wrong
  elsewhere off = record {
    holds = λ e. (inr (off, eqb-false _ _ (not-true _ e)), refl);
    fails = λ e. ⊎_elim (λ h. off h.0) (λ h. h.1 (eqb-true _ _ (not-false _ e)));
  }

  pub judges6 : (c : Count) → T (counts_at c (line s t)) → Reflects (wrong_node if bad_node c K n) Wrong
  judges6 Entries h =
      let e11 = eqb→eq (line s t) 11 h in
      record {
        holds = λ e.
            (inl (e11, λ b. either_holds (is_bottom n) (ltb K n.0) e (λ z. omega (arith, eqb-true n.0 0 z)) (λ z. omega (arith, ltb-true K n.0 z))), refl);
        fails = λ e.
            let not_zero : n.0 ≢ 0 = eqb-false _ _ (neither_holds (is_bottom n) _ e).0 in
            let within : n.0 ≤ K = ltb-false _ _ (neither_holds (is_bottom n) _ e).1 in
            ⊎_elim (λ h. h.1 (record { from = omega arith; to = within })) (λ h. h.0 e11);
      }
  judges6 Nothing h = elsewhere (λ e. at (counts_at Nothing) h e)
  judges6 High h = elsewhere (λ e. at (counts_at High) h e)
  judges6 Low h = elsewhere (λ e. at (counts_at Low) h e)

  -- 7, where entered is at most 1,000,000
  pub judges7 : entered s ≤ most_entries → (c : Count) → T (counts_at c (line s t))
      → Reflects (no_entry_left if no_entry c (entered s)) (no_entry_left given-when ((line s t ≡ 11) × (entered s ≡ most_entries)))
  judges7 most Entries h =
      record {
        holds = λ e. ((eqb→eq (line s t) 11 h, omega (arith, leb-true most_entries (entered s) e)), refl);
        fails = λ e a. omega (arith, leb-false most_entries (entered s) e);
      }
  judges7 most Nothing h = never _ _ (λ a. at (counts_at Nothing) h a.0)
  judges7 most High h = never _ _ (λ a. at (counts_at High) h a.0)
  judges7 most Low h = never _ _ (λ a. at (counts_at Low) h a.0)

  pub judges8 : (c : Count) → T (counts_at c (line s t))
      → Reflects (node_taken if taken_node c (local s) n) (node_taken given-when ((line s t ≡ 11) × (in_use (local s) n ≡ true)))
  judges8 Entries h =
      record {
        holds = λ e. ((eqb→eq (line s t) 11 h, e), refl);
        fails = λ e a. true≢false (sym a.1 ∙ e);
      }
  judges8 Nothing h = never _ _ (λ a. at (counts_at Nothing) h a.0)
  judges8 High h = never _ _ (λ a. at (counts_at High) h a.0)
  judges8 Low h = never _ _ (λ a. at (counts_at Low) h a.0)

  abbrev NoPlace : Condition
  NoPlace = no_place_left given-when (((line s t ≡ 14) × ((high s).0 ≡ last_place)) ⊎ ((line s t ≡ 29) × ((low s).0 ≡ last_place)))

  -- 11, where high and low are at most 1,000,001
  pub judges11 : (high s).0 ≤ last_place → (low s).0 ≤ last_place → (c : Count) → T (counts_at c (line s t))
      → Reflects (no_place_left if no_place c (high s) (low s)) NoPlace
  judges11 p q Nothing h =
      never _ NoPlace (⊎_elim (λ a. at (counts_at Nothing) h a.0) (λ a. at (counts_at Nothing) h a.0))
  judges11 p q Entries h =
      never _ NoPlace (⊎_elim (λ a. at (counts_at Entries) h a.0) (λ a. at (counts_at Entries) h a.0))
  judges11 p q High h =
      record {
        holds = λ e. (inl (eqb→eq (line s t) 14 h, omega (arith, leb-true last_place (high s).0 e)), refl);
        fails = λ e. ⊎_elim (λ a. omega (arith, leb-false last_place (high s).0 e)) (λ a. at (counts_at High) h a.0);
      }
  judges11 p q Low h =
      record {
        holds = λ e. (inr (eqb→eq (line s t) 29 h, omega (arith, leb-true last_place (low s).0 e)), refl);
        fails = λ e. ⊎_elim (λ a. at (counts_at Low) h a.0) (λ a. omega (arith, leb-false last_place (low s).0 e));
      }

-- ---- 9 and 10: by what the line follows
module _ (v : Thread) where
  -- a line that follows nothing follows no node
  nothing : (k : NodeNo) → T (follows_at NoNode v.line) → Follows v k → ⊥
  nothing k h (my_at a e) = outside (eqb v.line 18) (eqb v.line 29) (among v.line follow_my) h a
  nothing k h (prev_at a e) = at (follows_at NoNode) h a
  nothing k h (succ_at a b e) = at (follows_at NoNode) h a

  -- a followed node is the one that the row names ..
  only : (f : Follow) → T (follows_at f v.line) → (k : NodeNo) → Follows v k → k ≡ followed_by f v
  only NoNode h k d = absurd (nothing k h d)
  only My h k (my_at a e) = e
  only My h k (prev_at a e) = absurd (at (follows_at My) h a)
  only My h k (succ_at a b e) = absurd (at (follows_at My) h a)
  only Prev h k (my_at a e) = absurd (at (follows_at My) a (eqb→eq v.line 18 h))
  only Prev h k (prev_at a e) = e
  only Prev h k (succ_at a b e) = absurd (at (follows_at Prev) h a)
  only Succ h k (my_at a e) = absurd (at (follows_at My) a (eqb→eq v.line 29 h))
  only Succ h k (prev_at a e) = absurd (at (follows_at Succ) h a)
  only Succ h k (succ_at a b e) = e

  -- .. and is not 0 where refusal 9 does not apply
  not_zero : (f : Follow) → T (follows_at f v.line) → follows_empty f (followed_by f v) ≡ false → (k : NodeNo) → Follows v k → k.0 ≢ 0
  not_zero NoNode h z k d = absurd (nothing k h d)
  not_zero My h z k d = λ e. eqb-false _ _ z (ap (λ (x : NodeNo). x.0) (sym (only My h k d)) ∙ e)
  not_zero Prev h z k d = λ e. eqb-false _ _ z (ap (λ (x : NodeNo). x.0) (sym (only Prev h k d)) ∙ e)
  not_zero Succ h z k (my_at a e) = absurd (at (follows_at My) a (eqb→eq v.line 29 h))
  not_zero Succ h z k (prev_at a e) = absurd (at (follows_at Succ) h a)
  not_zero Succ h z k (succ_at a b e) = λ q. b (ap (λ (x : NodeNo). x.0) (sym e) ∙ q)

  -- the node that the row names is followed, if it is not 0
  pub follows : (f : Follow) → T (follows_at f v.line) → (followed_by f v).0 ≢ 0 → Follows v (followed_by f v)
  follows NoNode h z = absurd (z refl)
  follows My h z = my_at h refl
  follows Prev h z = prev_at (eqb→eq v.line 18 h) refl
  follows Succ h z = succ_at (eqb→eq v.line 29 h) z refl

  abbrev Empty : Condition
  Empty = followed_empty given-when ((k : NodeNo) × Follows v k × (k.0 ≡ 0))

  -- a row that names a node without a condition
  empty : (f : Follow) → T (follows_at f v.line) → Follows v (followed_by f v) → follows_empty f (followed_by f v) ≡ is_bottom (followed_by f v)
      → Reflects (followed_empty if follows_empty f (followed_by f v)) Empty
  empty f h d q = record {
    holds = λ e. ((followed_by f v, d, eqb-true _ _ (sym q ∙ e)), refl);
    fails = λ e a. not_zero f h e a.0 a.1 a.2;
  }

  pub judges9 : (f : Follow) → T (follows_at f v.line) → Reflects (followed_empty if follows_empty f (followed_by f v)) Empty
  judges9 NoNode h = never _ Empty (λ a. nothing a.0 h a.1)
  judges9 My h = empty My h (my_at h refl) refl
  judges9 Prev h = empty Prev h (prev_at (eqb→eq v.line 18 h) refl) refl
  judges9 Succ h = never _ Empty (λ a. not_zero Succ h refl a.0 a.1 a.2)

  -- 10, where 9 does not apply
  pub judges10 : (used : ℕ) (f : Follow) → T (follows_at f v.line) → follows_empty f (followed_by f v) ≡ false
      → Reflects (followed_unused if follows_unused used (followed_by f v)) (followed_unused given-when ((k : NodeNo) × Follows v k × (in_use used k ≡ false)))
  judges10 used f h z = record {
    holds = λ e.
        let k = followed_by f v in
        let there : k.0 ≢ 0 = eqb-false _ _ (not-true _ (first_holds (not (is_bottom k)) _ e)) in
        ((k, follows f h there, not-true _ (second_holds (not (is_bottom k)) _ e)), refl);
    fails = λ e a.
        let same = only f h a.0 a.1 in
        let there : is_bottom (followed_by f v) ≡ false = ne_eqb _ _ (λ q. not_zero f h z a.0 a.1 (ap (λ (x : NodeNo). x.0) same ∙ q)) in
        let unused : in_use used (followed_by f v) ≡ false = ap (in_use used) (sym same) ∙ a.2 in
        true≢false (sym (rw (there, unused)) ∙ e);
  }

-- ---- 12: by what the line waits for
module _ (s : State) (t : ThreadNo) where
  -- a line that waits for its node follows my
  my_at_19 : line s t ≡ 19 → followed (line s t) s t ≡ my s t
  unfolding line_at
  my_at_19 e = ap (λ (l : ℕ). followed_by (line_at l).follow (thread_at s t)) e

  my_at_23 : line s t ≡ 23 → followed (line s t) s t ≡ my s t
  unfolding line_at
  my_at_23 e = ap (λ (l : ℕ). followed_by (line_at l).follow (thread_at s t)) e

  abbrev Wait12 : Condition
  Wait12 = must_wait given-when Waits s t

  -- the line of a thread that must wait is one of the three
  waiting : {X : Type 0} → Waits s t → (line s t ≡ 16 → flag s ≢ 1 → X) → (line s t ≡ 19 → locked s (my s t) ≢ 0 → X)
      → (line s t ≡ 23 → (next s (my s t)).0 ≡ 0 → X) → X
  waiting (at16 e h) f g k = f e h
  waiting (at19 e h) f g k = g e h
  waiting (at23 e h) f g k = k e h

  pub judges12 : (w : Wait) → T (waits_at w (line s t)) → Reflects (wait_number w if must_stay w (flag s) (node_at s (followed (line s t) s t))) Wait12
  judges12 NoWait h = never _ Wait12 (λ a. waiting a (λ e z. at (waits_at NoWait) h e) (λ e z. at (waits_at NoWait) h e) (λ e z. at (waits_at NoWait) h e))
  judges12 ForFlag h = record {
    holds = λ e. (at16 (eqb→eq (line s t) 16 h) (eqb-false _ _ (not-true _ e)), refl);
    fails = λ e a. waiting a (λ q z. z (eqb-true _ _ (not-false _ e))) (λ q z. at (waits_at ForFlag) h q) (λ q z. at (waits_at ForFlag) h q);
  }
  judges12 ForUnlock h =
      let e19 = eqb→eq (line s t) 19 h in
      rw (my_at_19 e19) (record {
        holds = λ e. (at19 e19 (eqb-false _ _ (not-true _ e)), refl);
        fails = λ e a. waiting a (λ q z. at (waits_at ForUnlock) h q) (λ q z. z (eqb-true _ _ (not-false _ e))) (λ q z. at (waits_at ForUnlock) h q);
      })
  judges12 ForLink h =
      let e23 = eqb→eq (line s t) 23 h in
      rw (my_at_23 e23) (record {
        holds = λ e. (at23 e23 (eqb-true _ _ e), refl);
        fails = λ e a. waiting a (λ q z. at (waits_at ForLink) h q) (λ q z. at (waits_at ForLink) h q) (λ q z. eqb-false _ _ e z);
      })
