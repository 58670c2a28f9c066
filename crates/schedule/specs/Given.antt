-- What stands at a place of a schedule: an event or none, a refusal, and the place to go on from; and how the code's answer tells it. Assumes nothing.
use Rattle.std.specs.Prelude.{Bool, false, true, Option, None, Some, Result, Err, Ok, ℕ}
use Rattle.events.specs.Events.{event}
use Rattle.events.specs.declared.Event.{Event}
use Rattle.number.specs.Answer.{number_of}
use Rattle.number.specs.Refused.{done}
use Rattle.number.specs.declared.Refusal.{Refusal}

-- 0 or the refusal, whether an event stands there, the event (zeros where none does), and the place to go on from
pub record Given : Type 0 where
  pub number : ℕ
  pub found : Bool
  pub event : Event
  pub place : ℕ

-- 0 everywhere
abbrev pub no_event : Event
no_event = event 0 0

-- an event, and the place to go on from
abbrev pub one_event : Event → ℕ → Given
one_event e next = record { number = done; found = true; event = e; place = next }

-- a number and no event, and the place stays
abbrev pub stays : ℕ → ℕ → Given
stays number place = record { number = number; found = false; event = no_event; place = place }

-- what is given where the code answers so at a place: an event and the next place; none, at the end; or a refusal
abbrev pub given_from : ℕ → Result (Option (Event × ℕ)) Refusal → Given
given_from place (Ok (Some given)) = one_event given.0 given.1
given_from place (Ok None) = stays done place
given_from place (Err refusal) = stays (number_of refusal) place
