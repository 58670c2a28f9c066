-- What the fields of the lines show: the answers among them are the row's. By induction over the events. Rests on nothing else. Assumes nothing.
use Rattle.std.specs.Prelude.{Bool, cond, false, true, List, [], ◌∷◌, map, ◌≡◌, refl, ℕ, ◌+◌}
use Rattle.std.proofs.Common.{ap}
use Rattle.events.specs.Row.{goes_on, row_answers}
use Rattle.events.specs.declared.Event.{Event}
use Rattle.lock.specs.declared.State.{State}
use Rattle.machine.specs.Step.{advance}
use Rattle.text.specs.Shown.{answer_in, fields_from}

pub answers_shown : (n : ℕ) (s : State) (es : List Event) → map answer_in (fields_from n s es) ≡ row_answers advance s es
unfolding fields_from row_answers
answers_shown n s [] = refl
answers_shown n s (e ∷ es) =
    let r = advance s e.thread e.node in
    ap (λ (l : List ℕ). r.answer ∷ l) (go (goes_on r.answer) _ (fields_from (n + 1) r.state es) (answers_shown (n + 1) r.state es))
  where
    go : (t : Bool) (later : List ℕ) (fields : List (List ℕ)) → map answer_in fields ≡ later → map answer_in (cond t fields []) ≡ cond t later []
    go true later fields h = h
    go false later fields h = refl
