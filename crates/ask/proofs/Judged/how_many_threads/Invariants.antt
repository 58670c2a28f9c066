-- The loop of `ask::Judged::how_many_threads`: `n` is how many of the threads before t pass. Assumes nothing.
use Rattle.std.proofs.Common.{Bool, ◌≡◌, ℕ, ◌-◌, ◌<◌}
use Rattle.ask.specs.Ask.{how_many_threads_to}
use Rattle.ask.specs.Inner.{OfLine}
use Rattle.saved.specs.Saved.{state_in}
use Rattle.ask.proofs.Judged.how_many_threads.Given as goal

abbrev pub invariant-loop-t : goal.invariant-loop-t
invariant-loop-t g l = (l.n < l.t) × ((test : ℕ → Bool) → OfLine (goal.F-post g l.passes) test → l.n ≡ how_many_threads_to (l.t - 1) (λ v. test v.line) (state_in l.self.bytes.now))
