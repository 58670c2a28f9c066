-- `ask::Judged::status` meets its contract: its second test, by what the cells show and `how_many_threads` ensures. Assumes nothing.
use Rattle.std.proofs.Common.{◌&&◌, ◌≡◌, eq-eqb, ne_eqb, rules, sym, ◌∙◌}
use Rattle.std.specs.Prelude.{leb}
use Rattle.saved.specs.Saved.{state_in}
use Rattle.ask.specs.Ask.{how_many_threads, is_holding, status_of}
use Rattle.ask.proofs.Judged.status.Goals.{After-how_many_threads-holders}
use Rattle.ask.proofs.Judged.status.Goals as goal

holders : (c : After-how_many_threads-holders) → c.how_many_threads-holders.result ≡ how_many_threads is_holding (state_in c.args.self.bytes.now)
holders c = c.how_many_threads-holders.ensures (λ l. leb 20 l && leb l 29) (λ line r inside passed. search rules)

pub returns-then-holders-ne0 : goal.returns-then-holders-ne0
unfolding status_of
returns-then-holders-ne0 c =
    let held = c.args.self.held in
    let not_free = rw (c.is_bottom.ensures, c.tail.ensures _ held, c.flag.ensures _ held) at c.if-is_bottom-flag.false in
    let are = holders (goal.at.returns-then-holders-ne0 c).After-how_many_threads-holders in
    rw (not_free, ne_eqb _ _ (λ z. c.if-holders-ne0.true (are ∙ z)))

pub returns-else-holders-ne0 : goal.returns-else-holders-ne0
unfolding status_of
returns-else-holders-ne0 c =
    let held = c.args.self.held in
    let not_free = rw (c.is_bottom.ensures, c.tail.ensures _ held, c.flag.ensures _ held) at c.if-is_bottom-flag.false in
    let are = holders (goal.at.returns-else-holders-ne0 c).After-how_many_threads-holders in
    rw (not_free, eq-eqb _ _ (sym are ∙ c.if-holders-ne0.false))
