use Rattle.std.proofs.Common.{◌+◌, rules, tests}
use Rattle.std.proofs.lemmas.Iterator.{IsFirst-from_position, YieldsList-from_slice}
use Rattle.std.proofs.lemmas.List.{take_rest}
use Rattle.console.proofs.Spaces.{FirstSpace, Other, Space, both_read, first_not_read, no_space_read, second_not_read}
use Rattle.console.proofs.numerals.two_numbers.Goals.{After-position}
use Rattle.console.proofs.numerals.two_numbers.Goals as goal

-- `position` finds the first space.
found : (c : After-position) → FirstSpace c.args.bytes.now c.position.result
found c =
    IsFirst-from_position _ _ c.position.result Space Other c.position.ensures.ran (YieldsList-from_slice _ c.iter.ensures.rest)
    (λ x q k. search (rules, tests)) (λ x q k. search (rules, tests))

pub returns-in_err-space : goal.returns-in_err-space
returns-in_err-space c =
    rw c.from_residual.ensures (no_space_read c.args.bytes.now (rw c.in_err-space.was at (found (goal.at.returns-in_err-space c).After-position)))

pub returns-in_err-number : goal.returns-in_err-number
returns-in_err-number c =
    let first = rw c.in_ok-space.was at (found (goal.at.returns-in_err-number c).After-position) in
    rw c.from_residual-in_err-number.ensures (first_not_read c.args.bytes.now _ first c.in_err-number.ensures)

pub returns-in_err-number-2 : goal.returns-in_err-number-2
returns-in_err-number-2 c =
    let bs = c.args.bytes.now in
    let i = c.in_ok-space.space in
    let first = rw c.in_ok-space.was at (found (goal.at.returns-in_err-number-2 c).After-position) in
    rw c.from_residual-in_err-number-2.ensures
    (second_not_read bs i first (rw (take_rest bs (i + 1)) at c.in_err-number-2.ensures))

pub returns : goal.returns
returns c =
    let bs = c.args.bytes.now in
    let i = c.in_ok-space.space in
    let first = rw c.in_ok-space.was at (found (goal.at.returns c).After-position) in
    both_read bs i first _ _ c.in_ok-number.ensures (rw (take_rest bs (i + 1)) at c.in_ok-number-2.ensures)
