use Rattle.std.proofs.Common.{ap, ◌∙◌}
use Rattle.site.proofs.Ended.{ended}
use Rattle.site.proofs.loading.Loading.build.Goals as goal

pub returns : goal.returns
returns g c =
    let filled = c.in_ok-fill.ensures in
    ended _ _ _ _ _ _ filled.done.0 filled.done.1
    (ap (λ x. x.now) (filled.file ∙ c.bytes.ensures.file)) c.requires.close c.requires.fits.most _ c.one_tree.ensures
