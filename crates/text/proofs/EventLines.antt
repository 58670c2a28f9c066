-- The lines of a row of events: how they go on, how long they are, and that they are the lines of their fields. By induction over the events. Rests on
-- specs/Proof/Lines. Assumes nothing.
use Rattle.std.specs.Prelude.{Bool, List, [], ◌∷◌, ◌++◌, ◌≡◌, ℕ, ◌+◌, ◌*◌, ◌≤◌}
use Rattle.std.proofs.Math.Bool.{cond, false, true}
use Rattle.std.proofs.Common.{ap, mul-suc, mul-zero, arith, length-append}
use Rattle.std.proofs.Math.Path.{refl}
use Rattle.std.proofs.Math.ListN.{length}
use Rattle.events.specs.Row.{goes_on}
use Rattle.events.specs.declared.Event.{Event}
use Rattle.lock.specs.declared.State.{State}
use Rattle.machine.specs.Step.{advance}
use Rattle.machine.specs.Stepped.{Stepped}
use Rattle.text.specs.Inner.{line_room}
use Rattle.text.specs.Text.{event_fields, event_line, event_lines, numbers}
use Rattle.text.specs.Shown.{fields_from, lines_with}
use Rattle.text.specs.Proof.Lines.{numbers_within}

event_line_within : (n : ℕ) (s : State) (e : Event) (r : Stepped) → length (event_line n s e r) ≤ line_room
unfolding event_line
event_line_within n s e r = numbers_within (event_fields n s e r)

pub lines_none : (n : ℕ) (s : State) → event_lines n s [] ≡ []
unfolding event_lines
lines_none n s = refl

-- The line of the first event, and then the others' where it goes on.
pub lines_cons : (n : ℕ) (s : State) (e : Event) (es : List Event) (r : Stepped) → r ≡ advance s e.thread e.node
    → event_lines n s (e ∷ es) ≡ event_line n s e r ++ cond (goes_on r.answer) (event_lines (n + 1) r.state es) []
unfolding event_lines
lines_cons n s e es r given = rw given

-- The lines are no longer than so many bytes for each event, if each line is no longer than that. What is known of the events and the state, and is kept
-- from one event to the next, may help with that.
pub lines_at_most : (most : ℕ) (Known : ℕ → State → List Event → Type 0)
    → ((n : ℕ) (s : State) (e : Event) (es : List Event) → Known n s (e ∷ es) → let r = advance s e.thread e.node in
    (length (event_line n s e r) ≤ most) × Known (n + 1) r.state es)
    → (n : ℕ) (s : State) (es : List Event) → Known n s es → length (event_lines n s es) ≤ most * length es
lines_at_most most Known turn n s [] known = rw (lines_none n s) (omega (arith, mul-zero most))
lines_at_most most Known turn n s (e ∷ es) known =
    let r : Stepped = advance s e.thread e.node in
    let here = turn n s e es known in
    let others = lines_at_most most Known turn (n + 1) r.state es here.1 in
    let cut = cut_short (goes_on r.answer) (event_lines (n + 1) r.state es) in
    rw (lines_cons n s e es r refl) (simp length-append (omega (arith, here.0, cut, others, mul-suc most (length es))))
  where
    cut_short : (t : Bool) (xs : List ℕ) → length (cond t xs []) ≤ length xs
    cut_short true xs = omega arith
    cut_short false xs = omega arith

-- Whatever the numbers are, each line has room in the array that it is made in.
pub lines_within : (n : ℕ) (s : State) (es : List Event) → length (event_lines n s es) ≤ line_room * length es
lines_within n s es =
    lines_at_most line_room (λ n s es. Unit {0}) (λ n s e es known. (event_line_within n s e (advance s e.thread e.node), tt)) n s es tt

-- They are the lines of their fields.
pub lines_shown : (n : ℕ) (s : State) (es : List Event) → event_lines n s es ≡ lines_with (fields_from n s es)
unfolding event_lines event_line fields_from lines_with
lines_shown n s [] = refl
lines_shown n s (e ∷ es) =
    let r = advance s e.thread e.node in
    ap (λ (l : List ℕ). numbers (event_fields n s e r) ++ l) (go (goes_on r.answer) _ (fields_from (n + 1) r.state es) (lines_shown (n + 1) r.state es))
  where
    go : (t : Bool) (later : List ℕ) (fields : List (List ℕ)) → later ≡ lines_with fields → cond t later [] ≡ lines_with (cond t fields [])
    go true later fields h = h
    go false later fields h = refl
