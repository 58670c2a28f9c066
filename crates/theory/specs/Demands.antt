-- Demand 3, as statements about any tool that is offered as a step: what every run from a fresh lock has. Read this file first: every statement stands here,
-- under the sentence that asks for it. (Words in quotes are demand 3's own, docs/PROMISES.md, and document 01's.) proofs/Theorems.antt proves all of it of
-- our step and of the run. Broken.antt has four machines, each with one line spoilt; of each, one of these statements is false. The statements speak of states,
-- events, the tool's answers, the figure's steps and the run alone; what the proof says of the queue besides is in Shape. Assumes nothing.
use Rattle.std.specs.Prelude.{Bool, cond, true, ◌&&◌, List, [], ◌∷◌, ◌++◌, ◌≢◌, ◌↔◌, ◌≡◌, ℕ, ◌+◌, ◌-◌, ◌≤◌, ◌<◌, eqb, leb, get_or, length, take}
use Rattle.ask.specs.Ask.{answered, free, how_many_threads, status}
use Rattle.events.specs.Events.{accepts_all, after, answers}
use Rattle.events.specs.declared.Event.{Event}
use Rattle.figure.specs.Figure.{entered, high, line, low}
use Rattle.lock.specs.Fresh.{fresh_state}
use Rattle.lock.specs.Valid.{Between, Valid}
use Rattle.lock.specs.declared.State.{State}
use Rattle.lock.specs.declared.Thread.{Thread}
use Rattle.number.specs.Numbers.{bottom, thread}
use Rattle.number.specs.Refused.{done, followed_empty, no_place_left}
use Rattle.number.specs.Sizes.{most_nodes, most_threads}
use Rattle.number.specs.declared.ThreadNo.{ThreadNo}
use Rattle.run.specs.Run.{refusal, run, run_bytes, step_answers}
use Rattle.schedule.specs.Schedule.{events_of}
use Rattle.machine.specs.Demands.{Tool}
use Rattle.machine.specs.Step.{step}
use Rattle.theory.specs.FigureSteps.{FigureSteps}

-- ---- the lines that demand 3 names

-- "its idle line"
abbrev pub idle_line : ℕ
idle_line = 11

-- "tail exchange"
abbrev pub exchange_line : ℕ
exchange_line = 14

-- "the critical section"
abbrev pub section_line : ℕ
section_line = 27

-- "at lines 12 to 14": the node is chosen, and the exchange is still to come
abbrev pub is_early : Thread → Bool
is_early v = leb 12 v.line && leb v.line 14

-- ---- a state

-- "Never do two threads stand at the critical section."
abbrev pub OneInside : State → Type 0
OneInside s = (t u : ThreadNo) → line s t ≡ section_line → line s u ≡ section_line → t ≡ u

-- More than is demanded: never do two threads hold the lock, which is "at 20 to 29".
abbrev pub OneHolds : State → Type 0
OneHolds s = (t u : ThreadNo) → Between 20 (line s t) 29 → Between 20 (line s u) 29 → t ≡ u

-- "entered = high - 1 + the number of threads at lines 12 to 14"
abbrev pub EnteredCount : State → Type 0
EnteredCount s = entered s ≡ (high s).0 - 1 + how_many_threads is_early s

-- "free holds exactly when low = high"
abbrev pub FreeExactly : State → Type 0
FreeExactly s = (status s ≡ answered free) ↔ (low s ≡ high s)

-- a thread, 1 to T, that "has left its idle line"
pub record Busy (s : State) (t : ThreadNo) : Type 0 where
  pub exists : Between 1 t.0 s.shared.threads
  pub off : line s t ≢ idle_line

-- ---- lists of threads

-- the whole list begins with the front
abbrev pub Prefix : List ThreadNo → List ThreadNo → Type 0
Prefix front whole = (rest : List ThreadNo) × (whole ≡ front ++ rest)

-- how often thread u stands in the list
unfoldable pub how_often : ThreadNo → List ThreadNo → ℕ
how_often u [] = 0
how_often u (t ∷ ts) = cond (eqb t.0 u.0) 1 0 + how_often u ts

-- what stands past the end of a list: "thread 0 does not exist"
abbrev pub nobody : ThreadNo
nobody = thread 0

-- ---- an answer

-- "9, 10 and 11"
abbrev pub Is9To11 : ℕ → Type 0
Is9To11 answer = Between followed_empty answer no_place_left

-- ---- events, under a tool
module _ (tool : Tool) where
  -- "If some thread has left its idle line, some such thread can step": its event with node 0 is answered 0.
  abbrev pub SomeCanStep : State → Type 0
  SomeCanStep s = (t : ThreadNo) → Busy s t → (u : ThreadNo) × Busy s u × ((tool s u bottom).answer ≡ done)

  -- in state s the event is accepted, and its thread is at line l
  abbrev pub accepted_at : ℕ → State → Event → Bool
  accepted_at l s e = eqb (tool s e.thread e.node).answer done && eqb (line s e.thread) l

  -- the threads of the events accepted at line l, in order; "refused steps counting as not done"
  unfoldable pub done_at : ℕ → State → List Event → List ThreadNo
  done_at l s [] = []
  done_at l s (e ∷ es) =
      let later = done_at l (tool s e.thread e.node).state es in
      cond (accepted_at l s e) (e.thread ∷ later) later

  -- the threads that exchanged the tail, in order
  abbrev pub exchanges : State → List Event → List ThreadNo
  exchanges s es = done_at exchange_line s es

  -- the threads that passed through the section, in order
  abbrev pub passages : State → List Event → List ThreadNo
  passages s es = done_at section_line s es

  -- the threads that passed are the first of those that exchanged the tail ..
  abbrev pub PassagesPrefix : State → List Event → Type 0
  PassagesPrefix s es = Prefix (passages s es) (exchanges s es)

  -- .. so "The n-th passage through it is made by the thread that made the n-th tail exchange." (Both are counted from 0 here.)
  abbrev pub NthPassage : State → List Event → Type 0
  NthPassage s es =
      (i : ℕ) → i < length (passages s es) → (i < length (exchanges s es)) × (get_or (passages s es) i nobody ≡ get_or (exchanges s es) i nobody)

  -- "So after a thread's exchange and before its passage, each other thread passes at most once." The events are those before the exchange, the
  -- exchange e itself, later ones in which its thread does not pass, and the rest.
  abbrev pub PassesOnce : State → List Event → Type 0
  PassesOnce s es =
      (before : List Event) (e : Event) (later rest : List Event) → es ≡ before ++ e ∷ later ++ rest
      → accepted_at exchange_line (after tool s before) e ≡ true
      → let since = passages (after tool s (before ++ e ∷ [])) later in
      how_often e.thread since ≡ 0 → (u : ThreadNo) → how_often u since ≤ 1

  -- "9, 10 and 11 never occur": no event is answered so. (Past the last answer stands 0.)
  abbrev pub Never9To11 : State → List Event → Type 0
  Never9To11 s es = (i : ℕ) → ¬ Is9To11 (get_or (answers tool s es) i done)

  -- all of it, of events es that lead from state s to state s' (`NthPassage` is no field: it follows from `passages_prefix`;
  -- nor is `OneHolds`, which is not demanded)
  pub record Holds (s : State) (es : List Event) (s' : State) : Type 0 where
    pub leads : after tool s es ≡ s'
    pub one_inside : OneInside s'
    pub passages_prefix : PassagesPrefix s es
    pub passes_once : PassesOnce s es
    pub some_can_step : SomeCanStep s'
    pub never_9_to_11 : Never9To11 s es
    pub entered_count : EnteredCount s'
    pub free_exactly : FreeExactly s'
    pub valid : Valid s'

-- ---- "Start from a fresh lock": for every T and K from 1 to 32, from the state that `fresh` gives for them (`fresh_accepted`)
abbrev pub FromFresh : (State → Type 0) → Type 0
FromFresh P = (T K : ℕ) → Between 1 T most_threads → Between 1 K most_nodes → P (fresh_state T K)

-- ---- demand 3 of a tool
module _ (tool : Tool) where
  -- every sequence of the figure's steps from a fresh lock, by threads 1 to T with nodes 1 to K while entries remain, is accepted, and leads where the
  -- figure leads
  abbrev pub TakesFigure : Type 0
  TakesFigure = FromFresh (λ s. (es : List Event) (s' : State) → FigureSteps s es s' → (accepts_all tool s es ≡ true) × (after tool s es ≡ s'))

  -- the events that were done, "refused steps counting as not done"
  unfoldable pub done_of : State → List Event → List Event
  done_of s [] = []
  done_of s (e ∷ es) =
      let r = tool s e.thread e.node in
      let later = done_of r.state es in
      cond (eqb r.answer done) (e ∷ later) later

  -- the events that were done are steps of the figure, and lead where all the events lead
  abbrev pub DoneAreFigure : Type 0
  DoneAreFigure = FromFresh (λ s. (es : List Event) → FigureSteps s (done_of s es) (after tool s es))

  -- "take every sequence of events": any thread and node numbers whatever. The first two fields are there because "Demand 3 speaks of the figure's steps,
  -- so a tool that never moves can't earn it": such a tool has `holds` without doing anything.
  pub record Demand3 : Type 0 where
    pub takes_figure : TakesFigure
    pub done_are_figure : DoneAreFigure
    pub holds : FromFresh (λ s. (es : List Event) → Holds tool s es (after tool s es))

-- ---- runs

-- the events that a run takes: none where it is refused, and else as many as are answered, the one that stops it included
abbrev pub events_taken : State → List ℕ → List ℕ → List Event
events_taken s b out = cond (eqb (refusal s b (length out)) done) (take (length (step_answers s b)) (events_of b)) []

-- The same of a run from state s, over schedule b, with the buffer out for its answers: of the events that it takes and the state that it gives; and neither
-- is it stopped by 9, 10 or 11 nor does it store one of them.
pub record RunHolds (s : State) (b out : List ℕ) : Type 0 where
  pub holds : Holds step s (events_taken s b out) (run s b out).state
  pub stop_never : ¬ Is9To11 (run s b out).report.stop
  pub bytes_never : (i : ℕ) → i < length (events_taken s b out) → ¬ Is9To11 (get_or (run_bytes s b out) i done)
