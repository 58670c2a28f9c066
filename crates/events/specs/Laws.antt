-- The laws of a loop that takes a row of events one at a time, over any tool. The loop's invariant is `SoFar`: it holds at the start (`start`), an event
-- that goes on keeps it (`goes_on_lem`), and from it the row is over where an event stops (`stops_here`) and where no event is left (`at_the_end`). A loop
-- that stores the answers in a buffer has `take i row ++ drop i buffer` there besides (`stored`, `stored_length`, `stored_all`). Rests on Answers.
-- Assumes nothing.
use Rattle.std.specs.Prelude.{Bool, cond, false, true, ◌≡◌, refl, ℕ, ◌+◌, ◌≤◌, ◌<◌, get_or, set, take}
use mathlib.Core.List.{List, [], ◌∷◌, ◌++◌}
use Rattle.std.proofs.Math.Path.{ap}
use Rattle.std.proofs.Common.{sym, ◌∙◌, add-one, arith, drop-cons, length-take-le, take-suc}
use Rattle.std.proofs.Math.ListN.{drop, length, length-drop}
use Rattle.std.proofs.Math.Seq.{drop-length, length_front, take-length}
use Rattle.lock.specs.declared.State.{State}
use Rattle.number.specs.Refused.{done}
use Rattle.number.specs.Tests.{neither_holds}
use Rattle.rows.specs.Rows.{over}
use Rattle.rows.specs.Stored.{set_behind}
use Rattle.machine.specs.Demands.{Tool}
use Rattle.machine.specs.Stepped.{Stepped}
use Rattle.events.specs.Proof.Answers.{count_more, on_counts, stopping_append}
use Rattle.events.specs.Row.{executed, executes, goes_on, how_many_of, row_answers, row_end, stopping, waited, waits}
use Rattle.events.specs.declared.Event.{Event}

-- ---- a list that has a at place i, and then the rest
module _ {A : Type 0} (l : List A) (i : ℕ) (a : A) (rest : List A) (from : drop i l ≡ a ∷ rest) where
  inside : i < length l
  inside = omega (arith, length-drop i l, ap length from)

  here : (d : A) → get_or l i d ≡ a
  here d = cc (drop-cons l i d inside)

  past : drop (i + 1) l ≡ rest
  past = rw (add-one i) (cc (drop-cons l i a inside))

module _ (tool : Tool) (s₀ : State) (es : List Event) where
  -- the answers of the whole row
  abbrev pub row : List ℕ
  row = row_answers tool s₀ es

  -- ---- what a loop knows

  -- The first i events are taken, and none of them stopped: the state is s now, x of them were executed, and w waited.
  pub record SoFar (i : ℕ) (s : State) (x w : ℕ) : Type 0 where
    pub within : i ≤ length es
    pub answered : i ≤ length row
    -- the answers that are left are those of the events that are left, and so is the end
    pub left : drop i row ≡ row_answers tool s (drop i es)
    pub end : row_end tool s₀ es ≡ row_end tool s (drop i es)
    -- the counts so far; no count is above i
    pub executed : x ≡ executed (take i row)
    pub waited : w ≡ waited (take i row)
    pub counted : x + w ≡ i
    pub going : stopping (take i row) ≡ done

  -- The event behind the first i, in state s, is given r.
  pub record Next (i : ℕ) (s : State) (r : Stepped) : Type 0 where
    pub event : Event
    pub there : drop i es ≡ event ∷ drop (i + 1) es
    pub gives : r ≡ tool s event.thread event.node

  -- The row is over: n events are taken, it ends in s, x of them were executed and w waited, and m is the stopping number, or 0.
  pub record Over (n : ℕ) (s : State) (x w m : ℕ) : Type 0 where
    pub taken : n ≡ length row
    pub end : s ≡ row_end tool s₀ es
    pub executed : x ≡ executed row
    pub waited : w ≡ waited row
    pub stopping : m ≡ stopping row

  -- what is so of the answers to the first n events is so of the row, if there are no others
  row_over : {n : ℕ} {s : State} {x w m : ℕ} → n ≡ length row → s ≡ row_end tool s₀ es
      → x ≡ executed (take n row) → w ≡ waited (take n row) → m ≡ stopping (take n row) → Over n s x w m
  row_over {n} taken end x-so w-so m-so =
      let all : take n row ≡ row = ap (λ (k : ℕ). take k row) taken ∙ take-length row in
      record { taken = taken; end = end; executed = x-so ∙ ap executed all; waited = w-so ∙ ap waited all; stopping = m-so ∙ ap stopping all }

  -- ---- before the first event
  pub start : SoFar 0 s₀ 0 0
  unfolding how_many_of stopping
  start = record {
    within = omega arith;
    answered = omega arith;
    left = refl;
    end = refl;
    executed = refl;
    waited = refl;
    counted = refl;
    going = refl;
  }

  -- the event at place i
  pub next_at : (i : ℕ) (s : State) (r : Stepped) (d : Event) → i < length es → r ≡ tool s (get_or es i d).thread (get_or es i d).node → Next i s r
  next_at i s r d h gives = record { event = get_or es i d; there = rw (add-one i) (drop-cons es i d h); gives = gives }

  -- the answers so far, stored in a buffer that has a place for each, leave it as long as it was
  pub stored_length : {i : ℕ} {s : State} {x w : ℕ} → SoFar i s x w → (buffer : List ℕ) → i ≤ length buffer
      → length (take i row ++ drop i buffer) ≡ length buffer
  stored_length {i} f buffer h = length_front buffer (take i row) i (length-take-le i row f.answered ∙ sym (length-take-le i buffer h))

  -- ---- one event more
  module _ {i : ℕ} {s : State} {x w : ℕ} {r : Stepped} (f : SoFar i s x w) (next : Next i s r) where
    abbrev a : ℕ
    a = r.answer

    abbrev later : List Event
    later = drop (i + 1) es

    -- what is left of the row: its answer, and then the row of the later events if it goes on
    abbrev rest : List ℕ
    rest = cond (goes_on a) (row_answers tool r.state later) []

    from : drop i row ≡ a ∷ rest
    unfolding row_answers
    from = f.left ∙ ap (row_answers tool s) next.there ∙ rw (← next.gives)

    ends : row_end tool s₀ es ≡ cond (goes_on a) (row_end tool r.state later) r.state
    unfolding row_end
    ends = f.end ∙ ap (row_end tool s) next.there ∙ rw (← next.gives)

    in_row : i < length row
    in_row = inside row i a rest from

    one_more : take (i + 1) row ≡ take i row ++ a ∷ []
    one_more = rw (add-one i, take-suc row i 0 in_row, here row i a rest from 0)

    tallied : (test : ℕ → Bool) → how_many_of test (take i row) + cond (test a) 1 0 ≡ how_many_of test (take (i + 1) row)
    tallied test = sym (rw (here row i a rest from 0) at (count_more test row i in_row))

    -- where the first i + 1 answers stop, if they do, is at this one
    stop : stopping (take (i + 1) row) ≡ cond (goes_on a) done a
    unfolding stopping
    stop = rw one_more (stopping_append (take i row) (a ∷ []) f.going)

    -- it goes on
    pub goes_on_lem : goes_on a ≡ true → SoFar (i + 1) r.state (x + cond (executes a) 1 0) (w + cond (waits a) 1 0)
    goes_on_lem h = record {
      within = omega (arith, inside es i next.event later next.there);
      answered = omega (arith, in_row);
      left = past row i a rest from ∙ rw h;
      end = ends ∙ rw h;
      executed = rw f.executed (tallied executes);
      waited = rw f.waited (tallied waits);
      counted = omega (arith, on_counts a h, f.counted);
      going = stop ∙ rw h;
    }

    -- it stops
    pub stops_here : goes_on a ≡ false → Over (i + 1) r.state x w a
    stops_here h =
        let nothing : drop i row ≡ a ∷ [] = from ∙ rw h in
        let neither = neither_holds (executes a) (waits a) h in
        row_over (omega (arith, length-drop i row, ap length nothing, in_row))
        (sym (ends ∙ rw h))
        (omega (arith, f.executed, rw neither.0 at (tallied executes)))
        (omega (arith, f.waited, rw neither.1 at (tallied waits)))
        (sym (stop ∙ rw h))

    -- the answer is stored at its place, whether it goes on or stops
    pub stored : (buffer : List ℕ) → i < length buffer → set (take i row ++ drop i buffer) i a ≡ take (i + 1) row ++ drop (i + 1) buffer
    stored buffer h = rw one_more (set_behind (take i row) buffer i a 0 (length-take-le i row f.answered) h)

  -- ---- behind the last event
  pub at_the_end : {i : ℕ} {s : State} {x w : ℕ} → SoFar i s x w → i ≡ length es → Over i s x w done
  unfolding row_answers row_end
  at_the_end {i} {s} f e =
      let nothing : drop i es ≡ [] = ap (λ (k : ℕ). drop k es) e ∙ drop-length es in
      let left : drop i row ≡ [] = f.left ∙ ap (row_answers tool s) nothing in
      row_over (omega (arith, length-drop i row, ap length left, f.answered))
      (sym (f.end ∙ ap (row_end tool s) nothing))
      f.executed
      f.waited
      (sym f.going)

  -- all the answers stored
  pub stored_all : {n : ℕ} {s : State} {x w m : ℕ} → Over n s x w m → (buffer : List ℕ) → take n row ++ drop n buffer ≡ over row buffer
  stored_all o buffer = rw (o.taken, take-length row)
