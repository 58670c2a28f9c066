-- `event::execute` meets its contract. In each arm the line is the arm's number, the row is that line's own, and there what is said of the line's function is
-- the event of the definition (Arms). That the last arm is line 29's follows from the range of lines. Assumes nothing.
use Rattle.std.proofs.Common.{◌≡◌, ◌≤◌, arith, rules}
use Rattle.refusals.specs.Lines.{chosen, exchanged, flag_lowered, locked_set, mess_sent, mess_taken, next_cleared, next_read, passed_on, prev_linked, prev_looked}
use Rattle.refusals.specs.Lines.{released, succ_looked, tail_closed, waited}
use Rattle.refusals.specs.Arms.{line_from, line_to}
use Rattle.event.specs.Proof.Arms.{at_line, own, past, strict, waits_at_lem}
use Rattle.event.proofs.execute.Goals as goal

-- ---- what the calls require: a line that does something with my, or with prev, or waits for a number of it, follows it whatever it is
pub clear_next-requires : goal.clear_next-requires
clear_next-requires c = (c.requires, rw c.row_of-in-12.ensures strict.0)

pub lock_my-requires : goal.lock_my-requires
lock_my-requires c = (c.requires, rw c.row_of-in-13.ensures strict.1)

pub go_on-requires : goal.go_on-requires
go_on-requires c = (c.requires, rw c.row_of-in-16.ensures waits_at_lem.0)

pub link_prev-requires : goal.link_prev-requires
link_prev-requires c = (c.requires, rw c.row_of-in-18.ensures strict.2)

pub go_on-requires-in-19 : goal.go_on-requires-in-19
go_on-requires-in-19 c = (c.requires, rw c.row_of-in-19.ensures waits_at_lem.1)

pub read_next-requires : goal.read_next-requires
read_next-requires c = (c.requires, rw c.row_of-in-20.ensures strict.3)

pub go_on-requires-in-23 : goal.go_on-requires-in-23
go_on-requires-in-23 c = (c.requires, rw c.row_of-in-23.ensures waits_at_lem.2)

pub read_next-requires-in-24 : goal.read_next-requires-in-24
read_next-requires-in-24 c = (c.requires, rw c.row_of-in-24.ensures strict.4)

pub go_on-requires-in-27 : goal.go_on-requires-in-27
go_on-requires-in-27 c = (c.requires, rw c.row_of-in-27.ensures waits_at_lem.3)

-- ---- what the arms give
pub returns-in-11 : goal.returns-in-11
returns-in-11 c = at_line 11 chosen c.args.t c.args.n (λ s. (own s c.args.t c.args.n).0) c.row_of.ensures c.line-line.ensures c.in-11.is c.choose.ensures

pub returns-in-12 : goal.returns-in-12
returns-in-12 c = at_line 12 next_cleared c.args.t c.args.n (λ s. (own s c.args.t c.args.n).1) c.row_of-in-12.ensures c.line-line.ensures c.in-12.is c.clear_next.ensures

pub returns-in-13 : goal.returns-in-13
returns-in-13 c = at_line 13 locked_set c.args.t c.args.n (λ s. (own s c.args.t c.args.n).2) c.row_of-in-13.ensures c.line-line.ensures c.in-13.is c.lock_my.ensures

pub returns-in-14 : goal.returns-in-14
returns-in-14 c = at_line 14 exchanged c.args.t c.args.n (λ s. (own s c.args.t c.args.n).3) c.row_of-in-14.ensures c.line-line.ensures c.in-14.is c.exchange.ensures

pub returns-in-15 : goal.returns-in-15
returns-in-15 c = at_line 15 prev_looked c.args.t c.args.n (λ s. (own s c.args.t c.args.n).4) c.row_of-in-15.ensures c.line-line.ensures c.in-15.is c.look_prev.ensures

pub returns-in-16 : goal.returns-in-16
returns-in-16 c = at_line 16 waited c.args.t c.args.n (λ s. (own s c.args.t c.args.n).5) c.row_of-in-16.ensures c.line-line.ensures c.in-16.is c.go_on.ensures

pub returns-in-17 : goal.returns-in-17
returns-in-17 c = at_line 17 flag_lowered c.args.t c.args.n (λ s. (own s c.args.t c.args.n).6) c.row_of-in-17.ensures c.line-line.ensures c.in-17.is c.lower_flag.ensures

pub returns-in-18 : goal.returns-in-18
returns-in-18 c = at_line 18 prev_linked c.args.t c.args.n (λ s. (own s c.args.t c.args.n).7) c.row_of-in-18.ensures c.line-line.ensures c.in-18.is c.link_prev.ensures

pub returns-in-19 : goal.returns-in-19
returns-in-19 c = at_line 19 waited c.args.t c.args.n (λ s. (own s c.args.t c.args.n).8) c.row_of-in-19.ensures c.line-line.ensures c.in-19.is c.go_on-in-19.ensures

pub returns-in-20 : goal.returns-in-20
returns-in-20 c = at_line 20 next_read c.args.t c.args.n (λ s. (own s c.args.t c.args.n).9) c.row_of-in-20.ensures c.line-line.ensures c.in-20.is c.read_next.ensures

pub returns-in-21 : goal.returns-in-21
returns-in-21 c = at_line 21 succ_looked c.args.t c.args.n (λ s. (own s c.args.t c.args.n).10) c.row_of-in-21.ensures c.line-line.ensures c.in-21.is c.look_succ.ensures

pub returns-in-22 : goal.returns-in-22
returns-in-22 c = at_line 22 tail_closed c.args.t c.args.n (λ s. (own s c.args.t c.args.n).11) c.row_of-in-22.ensures c.line-line.ensures c.in-22.is c.close_tail.ensures

pub returns-in-23 : goal.returns-in-23
returns-in-23 c = at_line 23 waited c.args.t c.args.n (λ s. (own s c.args.t c.args.n).12) c.row_of-in-23.ensures c.line-line.ensures c.in-23.is c.go_on-in-23.ensures

pub returns-in-24 : goal.returns-in-24
returns-in-24 c = at_line 24 next_read c.args.t c.args.n (λ s. (own s c.args.t c.args.n).13) c.row_of-in-24.ensures c.line-line.ensures c.in-24.is c.read_next-in-24.ensures

pub returns-in-25 : goal.returns-in-25
returns-in-25 c = at_line 25 mess_sent c.args.t c.args.n (λ s. (own s c.args.t c.args.n).14) c.row_of-in-25.ensures c.line-line.ensures c.in-25.is c.send_mess.ensures

pub returns-in-26 : goal.returns-in-26
returns-in-26 c = at_line 26 released c.args.t c.args.n (λ s. (own s c.args.t c.args.n).15) c.row_of-in-26.ensures c.line-line.ensures c.in-26.is c.release.ensures

pub returns-in-27 : goal.returns-in-27
returns-in-27 c = at_line 27 waited c.args.t c.args.n (λ s. (own s c.args.t c.args.n).16) c.row_of-in-27.ensures c.line-line.ensures c.in-27.is c.go_on-in-27.ensures

pub returns-in-28 : goal.returns-in-28
returns-in-28 c = at_line 28 mess_taken c.args.t c.args.n (λ s. (own s c.args.t c.args.n).17) c.row_of-in-28.ensures c.line-line.ensures c.in-28.is c.take_mess.ensures

-- the last arm is that of line 29
pub returns-in_default : goal.returns-in_default
returns-in_default c =
    let a = c.args in
    let l = c.line-line.result in
    let shown = c.line-line.ensures _ c.requires.held in
    let least : 11 ≤ l = omega (arith, shown, line_from a.b.now a.t c.requires) in
    let last : l ≡ 29 = omega (arith, shown, line_to a.b.now a.t c.requires, past l 18 least (search rules)) in
    at_line 29 passed_on a.t a.n (λ s. (own s a.t a.n).18) c.row_of-in_default.ensures c.line-line.ensures last c.pass_on.ensures
