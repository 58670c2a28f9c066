-- `event::event` meets its contract: a saved state is ready for the event of each of its threads (Good). Assumes nothing.
use Rattle.std.proofs.Common.{false, true, ◌≡◌, ◌∙◌, arith, rules}
use Rattle.cells.specs.Proof.Good.{held, laid}
use Rattle.event.specs.Proof.Good.{advanced, no_thread_lem, no_thread_shown, ready}
use Rattle.number.specs.Answer.{answer_of}
use Rattle.number.specs.Refused.{no_such_thread}
use Rattle.rows.specs.Rows.{Bytes}
use Rattle.saved.specs.Saved.{state_in}
use Rattle.event.proofs.event.Goals as goal

pub no_thread-requires : goal.no_thread-requires
no_thread-requires c = laid c.args.b.now c.requires

pub returns-in_err-refuse : goal.returns-in_err-refuse
returns-in_err-refuse c =
    let b = c.args.b.now in
    let bytes : Bytes b = search rules in
    let missing : c.no_thread.result ≡ true = grind arith in
    let number : answer_of c.from_residual.result ≡ no_such_thread = grind arith in
    rw number (no_thread_lem b bytes c.requires c.args.t c.args.n (no_thread_shown b bytes c.requires c.args.t c.no_thread.ensures ∙ missing))

pub execute-requires : goal.execute-requires
execute-requires c =
    let b = c.args.b.now in
    let bytes : Bytes b = search rules in
    let there : c.no_thread.result ≡ false = grind arith in
    ready b bytes c.requires c.args.t c.args.n (no_thread_shown b bytes c.requires c.args.t c.no_thread.ensures ∙ there)

pub returns : goal.returns
returns c =
    let b = c.args.b.now in
    let bytes : Bytes b = search rules in
    let there : c.no_thread.result ≡ false = grind arith in
    advanced b bytes c.requires c.args.t c.args.n (no_thread_shown b bytes c.requires c.args.t c.no_thread.ensures ∙ there) _ _
    (c.execute.ensures (state_in b) (held b bytes c.requires))
