use Rattle.std.proofs.Common.{arith, rules, tests}
use Rattle.std.proofs.lemmas.Bool.Decides.{nat_tests}
use Rattle.console.specs.Parts.{ReadsNumber}
use Rattle.console.proofs.Folding.{callable, folded}
use Rattle.console.proofs.numerals.number.Goals as goal

pub try_fold-requires-clause-callable : goal.try_fold-requires-clause-callable
try_fold-requires-clause-callable c =
    callable _ (λ f v x r h k. search (rules, tests)) c.iter.result _ (λ f v x k. search rules) (rw c.iter.ensures.rest c.if-bytes-gt-MOST_DIGITS.false)

pub returns : goal.returns
returns c =
    let e = c.if-is_empty.ensures in
    let read : ReadsNumber c.iter.result.rest.now c.try_fold.result =
    folded _ (λ f v x r h k. search (rules, tests)) c.iter.result c.try_fold.new.self _ c.try_fold.result
    (rw c.iter.ensures.rest (grind (arith, nat_tests))) (rw c.iter.ensures.rest c.if-bytes-gt-MOST_DIGITS.false) c.try_fold.ensures.ran in
    rw c.iter.ensures.rest at read
