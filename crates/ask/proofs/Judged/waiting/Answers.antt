-- `ask::Judged::waiting` meets its contract: the test of a line is that of the table's wait. Assumes nothing.
use Rattle.std.proofs.Common.{rules}
use Rattle.ask.specs.Ask.{is_counted}
use Rattle.lines.specs.Lines.{line_at}
use Rattle.ask.proofs.Judged.waiting.Goals as goal

pub returns : goal.returns
returns c = c.how_many_threads.ensures (λ l. is_counted (line_at l).wait) (λ line r inside passed. search rules)
