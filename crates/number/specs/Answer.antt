-- Where an answer is an enum: document 01's number of each of its cases. "Where an answer is an enum, a definition gives this paper's number and values for
-- each of its cases. The promises use that definition." Assumes nothing.
use Rattle.std.specs.Prelude.{Bool, cond, ◌≡◌, ◌≢◌, refl, ℕ, eqb}
use Rattle.std.proofs.Common.{Err, Ok, Result, ap, arith, sym, ◌∙◌}
use Rattle.number.specs.Refused.{bad_schedule, bad_size, bad_state, done, followed_empty, followed_unused, must_wait, no_entry_left, no_place_left}
use Rattle.number.specs.Refused.{no_such_thread, node_taken, too_short, wrong_node}
use Rattle.number.specs.declared.Refusal.{Refusal}
use Rattle.number.specs.declared.Refusal.TheVariants.{BadSchedule, BadSize, BadState, FollowedEmpty, FollowedUnused, MustWait, NoEntryLeft, NoPlaceLeft}
use Rattle.number.specs.declared.Refusal.TheVariants.{NoSuchThread, NodeTaken, TooShort, WrongNode}

-- the number of a refusal
abbrev pub number_of : Refusal → ℕ
number_of BadState = bad_state
number_of BadSchedule = bad_schedule
number_of BadSize = bad_size
number_of TooShort = too_short
number_of NoSuchThread = no_such_thread
number_of WrongNode = wrong_node
number_of NoEntryLeft = no_entry_left
number_of NodeTaken = node_taken
number_of FollowedEmpty = followed_empty
number_of FollowedUnused = followed_unused
number_of NoPlaceLeft = no_place_left
number_of MustWait = must_wait

-- the number of an answer: "Success is 0."
abbrev pub answer_of : {A : Type 0} → Result A Refusal → ℕ
answer_of (Ok _) = done
answer_of (Err r) = number_of r

-- the refusal where its test holds
abbrev pub refused_if : Bool → Refusal → Result Unit Refusal
refused_if test r = cond test (Err r) (Ok tt)

-- no refusal has the number of success
pub refused : (r : Refusal) → number_of r ≢ done
refused BadState h = omega arith
refused BadSchedule h = omega arith
refused BadSize h = omega arith
refused TooShort h = omega arith
refused NoSuchThread h = omega arith
refused WrongNode h = omega arith
refused NoEntryLeft h = omega arith
refused NodeTaken h = omega arith
refused FollowedEmpty h = omega arith
refused FollowedUnused h = omega arith
refused NoPlaceLeft h = omega arith
refused MustWait h = omega arith

-- ---- no second case has the same number

-- the refusal with this number (any, where there is none)
abbrev refusal_of : ℕ → Refusal
refusal_of n =
    cond (eqb n (number_of BadState)) BadState (
    cond (eqb n (number_of BadSchedule)) BadSchedule (
    cond (eqb n (number_of BadSize)) BadSize (
    cond (eqb n (number_of TooShort)) TooShort (
    cond (eqb n (number_of NoSuchThread)) NoSuchThread (
    cond (eqb n (number_of WrongNode)) WrongNode (
    cond (eqb n (number_of NoEntryLeft)) NoEntryLeft (
    cond (eqb n (number_of NodeTaken)) NodeTaken (
    cond (eqb n (number_of FollowedEmpty)) FollowedEmpty (
    cond (eqb n (number_of FollowedUnused)) FollowedUnused (
    cond (eqb n (number_of NoPlaceLeft)) NoPlaceLeft (
    MustWait)))))))))))

back : (r : Refusal) → refusal_of (number_of r) ≡ r
back BadState = refl
back BadSchedule = refl
back BadSize = refl
back TooShort = refl
back NoSuchThread = refl
back WrongNode = refl
back NoEntryLeft = refl
back NodeTaken = refl
back FollowedEmpty = refl
back FollowedUnused = refl
back NoPlaceLeft = refl
back MustWait = refl

pub one_refusal : (r r' : Refusal) → number_of r ≡ number_of r' → r ≡ r'
one_refusal r r' e = sym (back r) ∙ ap refusal_of e ∙ back r'

-- what an answer stands for, with its number, tells it apart from every other, if it tells values apart
pub told_apart : {A X : Type 0} (stands_for : Result A Refusal → X) (number : X → ℕ)
    → ((r : Result A Refusal) → number (stands_for r) ≡ answer_of r)
    → ((a a' : A) → stands_for (Ok a) ≡ stands_for (Ok a') → a ≡ a')
    → (r r' : Result A Refusal) → stands_for r ≡ stands_for r' → r ≡ r'
told_apart f number numbers values (Ok a) (Ok a') e = ap Ok (values a a' e)
told_apart f number numbers values (Ok a) (Err r) e = absurd (refused r (sym (sym (numbers (Ok a)) ∙ ap number e ∙ numbers (Err r))))
told_apart f number numbers values (Err r) (Ok a) e = absurd (refused r (sym (numbers (Err r)) ∙ ap number e ∙ numbers (Ok a)))
told_apart f number numbers values (Err r) (Err r') e = ap Err (one_refusal r r' (sym (numbers (Err r)) ∙ ap number e ∙ numbers (Err r')))

-- an answer that has nothing but its number is told by it
pub one_answer : (r r' : Result Unit Refusal) → answer_of r ≡ answer_of r' → r ≡ r'
one_answer = told_apart answer_of (λ n. n) (λ r. refl) (λ a a' e. refl)
