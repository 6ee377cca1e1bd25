use Rattle.std.proofs.Common.{sym, ap, subst, arith}
use Rattle.questions.proofs.Asked.{refused_with}
use Rattle.site.specs.Fill.{Filled, Fits}
use Rattle.site.proofs.Taken.{more_left}
use Rattle.site.proofs.loading.Loading.fill.Goals as goal

pub take_record-requires-clause-more : goal.take_record-requires-clause-more
take_record-requires-clause-more g c =
    let so_far = c.loop-i.invariant in
    more_left _ _ _ _ (subst (Fits _ c.args.count) (sym (ap (λ x. x.now) so_far.2)) c.requires.fits) (omega (arith, so_far.1))

pub returns-in_err-take_record-clause-done : goal.returns-in_err-take_record-clause-done
returns-in_err-take_record-clause-done g c =
    subst (Filled _ _ _ _ _) (sym (refused_with c.from_residual.ensures.1))
    (λ n h. let stopped = c.in_err-take_record.ensures.done n (omega (arith, c.loop-i.invariant.1)) in cc)
