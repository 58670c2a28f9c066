-- Rows of events under any tool. Each argument follows the definition of a row (`by_events`): the first event goes on, or it stops. Assumes nothing.
use Rattle.std.specs.Prelude.{Bool, false, true, ◌≢◌, ◌≡◌, take}
use Rattle.std.proofs.Math.Bool.{cond}
use mathlib.Core.List.{List, [], ◌∷◌, ◌++◌}
use Rattle.std.proofs.Math.Path.{ap, refl}
use Rattle.std.proofs.Common.{◌∙◌, arith, length-append}
use Prim.Native.Nat.{ℕ, suc, ◌+◌, ◌≤◌}
use Rattle.std.proofs.Math.ListN.{length}
use Rattle.lock.specs.declared.State.{State}
use Rattle.number.specs.Refused.{done}
use Rattle.machine.specs.Demands.{Tool}
use Rattle.machine.specs.Stepped.{Stepped}
use Rattle.events.specs.Events.{after, answers}
use Rattle.events.specs.Proof.Answers.{Counted, stop_not_done, up_to_stop_counted}
use Rattle.events.specs.Row.{goes_on, row_answers, row_end, stopping, up_to_stop}
use Rattle.events.specs.declared.Event.{Event}

-- two tools have the same row
pub record SameRow (tool tool' : Tool) (s : State) (es : List Event) : Type 0 where
  pub answers : row_answers tool s es ≡ row_answers tool' s es
  pub end : row_end tool s es ≡ row_end tool' s es

module _ (tool : Tool) where
  -- what the tool gives for an event
  abbrev pub given : State → Event → Stepped
  given s e = tool s e.thread e.node

  -- What holds of no events, of an event that goes on if it holds of the later ones, and of an event that stops, holds of every row.
  pub by_events : (P : State → List Event → Type 0)
      → ((s : State) → P s [])
      → ((s : State) (e : Event) (es : List Event) → goes_on (given s e).answer ≡ true → P (given s e).state es → P s (e ∷ es))
      → ((s : State) (e : Event) (es : List Event) → goes_on (given s e).answer ≡ false → P s (e ∷ es))
      → (s : State) (es : List Event) → P s es
  by_events P none on stop s [] = none s
  by_events P none on stop s (e ∷ es) = go (goes_on (given s e).answer) refl (by_events P none on stop (given s e).state es)
    where
      go : (b : Bool) → goes_on (given s e).answer ≡ b → P (given s e).state es → P s (e ∷ es)
      go true h later = on s e es h later
      go false h later = stop s e es h

  -- ---- a row is that of the steps one after the other, up to and including the stop
  pub of_steps : (s : State) (es : List Event) → row_answers tool s es ≡ up_to_stop (answers tool s es)
  unfolding row_answers answers up_to_stop
  of_steps s [] = refl
  of_steps s (e ∷ es) =
      let r = given s e in
      ap (λ (later : List ℕ). r.answer ∷ cond (goes_on r.answer) later []) (of_steps r.state es)

  pub end_of_steps : (s : State) (es : List Event) → row_end tool s es ≡ after tool s (take (length (row_answers tool s es)) es)
  unfolding row_answers row_end after
  end_of_steps =
      by_events (λ s es. row_end tool s es ≡ after tool s (take (length (row_answers tool s es)) es))
      (λ s. refl)
      (λ s e es h later. rw h later)
      (λ s e es h. rw h)

  -- ---- how many answers there are
  pub at_most : (s : State) (es : List Event) → length (row_answers tool s es) ≤ length es
  unfolding row_answers
  at_most =
      by_events (λ s es. length (row_answers tool s es) ≤ length es)
      (λ s. omega arith)
      (λ s e es h later. rw h (omega arith))
      (λ s e es h. rw h (omega arith))

  pub as_many : (s : State) (es : List Event) → stopping (row_answers tool s es) ≡ done → length (row_answers tool s es) ≡ length es
  unfolding row_answers stopping
  as_many =
      by_events (λ s es. stopping (row_answers tool s es) ≡ done → length (row_answers tool s es) ≡ length es)
      (λ s on. refl)
      (λ s e es h later on. rw h (ap suc (later (rw h at on))))
      (λ s e es h on. absurd (stop_not_done _ h (rw h at on)))

  pub counted : (s : State) (es : List Event) → Counted (row_answers tool s es)
  counted s es = rw (of_steps s es) (up_to_stop_counted (answers tool s es))

  -- ---- more events behind a row

  -- where it does not stop, they go on from its end
  pub record Joined (s : State) (es later : List Event) : Type 0 where
    pub answers : row_answers tool s (es ++ later) ≡ row_answers tool s es ++ row_answers tool (row_end tool s es) later
    pub end : row_end tool s (es ++ later) ≡ row_end tool (row_end tool s es) later

  pub joined : (later : List Event) (s : State) (es : List Event) → stopping (row_answers tool s es) ≡ done → Joined s es later
  unfolding row_answers row_end stopping
  joined later =
      by_events (λ s es. stopping (row_answers tool s es) ≡ done → Joined s es later)
      (λ s on. record { answers = refl; end = refl })
      (λ s e es h rest on.
      let j = rest (rw h at on) in
      record { answers = rw h (ap (λ (l : List ℕ). (given s e).answer ∷ l) j.answers); end = rw h j.end })
      (λ s e es h on. absurd (stop_not_done _ h (rw h at on)))

  -- where it stops, they are not taken
  pub record Untaken (s : State) (es later : List Event) : Type 0 where
    pub answers : row_answers tool s (es ++ later) ≡ row_answers tool s es
    pub end : row_end tool s (es ++ later) ≡ row_end tool s es

  pub untaken : (later : List Event) (s : State) (es : List Event) → stopping (row_answers tool s es) ≢ done → Untaken s es later
  unfolding row_answers row_end stopping
  untaken later =
      by_events (λ s es. stopping (row_answers tool s es) ≢ done → Untaken s es later)
      (λ s off. absurd (off refl))
      (λ s e es h rest off.
      let u = rest (rw h at off) in
      record { answers = rw h (ap (λ (l : List ℕ). (given s e).answer ∷ l) u.answers); end = rw h u.end })
      (λ s e es h off. record { answers = rw h; end = rw h })

  -- ---- a row that does not stop, and then an event that does
  module _ (s : State) (es : List Event) (on : stopping (row_answers tool s es) ≡ done) (e : Event) (later : List Event) where
    abbrev r : Stepped
    r = given (row_end tool s es) e

    pub stop_answers : goes_on r.answer ≡ false → row_answers tool s (es ++ e ∷ later) ≡ row_answers tool s es ++ r.answer ∷ []
    unfolding row_answers
    stop_answers h = (joined (e ∷ later) s es on).answers ∙ rw h

    pub stop_end : goes_on r.answer ≡ false → row_end tool s (es ++ e ∷ later) ≡ r.state
    unfolding row_end
    stop_end h = (joined (e ∷ later) s es on).end ∙ rw h

    pub stop_length : goes_on r.answer ≡ false → length (row_answers tool s (es ++ e ∷ later)) ≡ length es + 1
    stop_length h = rw (stop_answers h, length-append (row_answers tool s es) (r.answer ∷ []), as_many s es on)

  -- ---- what each event keeps
  module _ (P : State → Type 0) (keeps : (s : State) (e : Event) → P s → P (given s e).state) where
    -- holds where the row ends,
    pub kept : (s : State) (es : List Event) → P s → P (row_end tool s es)
    unfolding row_end
    kept =
        by_events (λ s es. P s → P (row_end tool s es))
        (λ s p. p)
        (λ s e es h later p. rw h (later (keeps s e p)))
        (λ s e es h p. rw h (keeps s e p))

    -- and a tool that does the same in such states has the same rows from them
    pub same_row : (tool' : Tool) → ((s : State) (e : Event) → P s → given s e ≡ tool' s e.thread e.node)
        → (s : State) (es : List Event) → P s → SameRow tool tool' s es
    unfolding row_answers row_end
    same_row tool' agree =
        by_events (λ s es. P s → SameRow tool tool' s es)
        (λ s p. record { answers = refl; end = refl })
        (λ s e es h later p.
        let rest = later (keeps s e p) in
        record {
          answers = rw (← agree s e p, h) (ap (λ (l : List ℕ). (given s e).answer ∷ l) rest.answers);
          end = rw (← agree s e p, h) rest.end;
        })
        (λ s e es h p. record { answers = rw (← agree s e p, h); end = rw (← agree s e p, h) })
