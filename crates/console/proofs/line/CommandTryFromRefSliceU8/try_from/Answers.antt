use Rattle.std.proofs.Common.{◌≡◌, Err, arith, codes, refl}
use Rattle.std.proofs.lemmas.Bool.Decides.{Decides-eqb}
use Rattle.std.proofs.lemmas.Grind.{common_steps}
use Rattle.std.proofs.lemmas.Slice.Eq.{strip_prefix_is}
use Rattle.console.proofs.Spelling.{rain_not_read, rain_read}
use Rattle.console.specs.declared.refusal.Refusal.TheVariants.{NotWellFormed}
use Rattle.console.proofs.line.CommandTryFromRefSliceU8.try_from.Goals as goal

pub returns-in_err-leaf : goal.returns-in_err-leaf
returns-in_err-leaf c =
    let none = rw c.in_err-leaf.ensures.ok_part at c.two_numbers.ensures in
    let refused : c.from_residual.result ≡ Err NotWellFormed = grind (arith, common_steps) in
    let parts = rw c.in-Some.is at (strip_prefix_is Decides-eqb c.args.line.now (codes "R ") c.strip_prefix.result c.strip_prefix.ensures.cases) in
    rw refused (rain_not_read _ _ parts none, refl)

pub returns-in_ok-leaf : goal.returns-in_ok-leaf
returns-in_ok-leaf c =
    let parts = rw c.in-Some.is at (strip_prefix_is Decides-eqb c.args.line.now (codes "R ") c.strip_prefix.result c.strip_prefix.ensures.cases) in
    rain_read _ _ _ _ parts (rw c.in_ok-leaf.ensures.ok_part at c.two_numbers.ensures)
