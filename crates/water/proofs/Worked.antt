-- The worked examples, by pouring all at once.
use Rattle.std.proofs.Common.{◌≡◌, true, List, [], ◌∷◌, sym, refl, ◌∙◌, arith}
use Rattle.std.proofs.lemmas.Bool.{false≢true}
use Rattle.water.specs.Tree.{Tree, has_leaf, dried}
use Rattle.water.specs.Sound.{Sound}
use Rattle.water.specs.Pour.{poured, excess}
use Rattle.water.specs.Water.{outflow}
use Rattle.water.specs.Level.{level, has_basin}
use Rattle.water.specs.Examples.{Step, rain, level_is, outflow_is, dry_again, Shown, waters, seven, worked}
use Rattle.water.proofs.Dry.{sound_dried, within_dried}
use Rattle.water.proofs.Keep.{sound_kept}
use Rattle.water.proofs.Walk.{rain_is, rain_from}
use Rattle.water.proofs.Levels.{level_is_lem}

-- What is left to compute of each step.
abbrev Computes : Tree → List Step → Type 0
Computes t [] = Unit {0}
Computes t (rain a v ws ∷ ss) = (has_leaf a t ≡ true) × (waters (poured a v t) ≡ ws) × Computes (poured a v t) ss
Computes t (level_is a v ∷ ss) = (has_basin a t ≡ true) × (level a t ≡ v) × Computes t ss
Computes t (outflow_is v ∷ ss) = (outflow t ≡ v) × Computes t ss
Computes t (dry_again ∷ ss) = Computes (dried t) ss

shows : (ss : List Step) (t : Tree) → Sound t → Computes t ss → Shown t ss
shows [] t h k = tt
shows (rain a v ws ∷ ss) t h k = (
  poured a v t,
  rain_from a v t (poured a v t) h k.0 refl,
  λ z m. rain_is a v t z h k.0 m,
  k.1,
  shows ss (poured a v t) (sound_kept a v t h) k.2,
)
shows (level_is a v ∷ ss) t h k =
    let q = level_is_lem a 0 t h.formed.numbered k.0 in
    ((q.0, q.1, sym q.2 ∙ k.1), shows ss t h k.2)
shows (outflow_is v ∷ ss) t h k = (k.0, shows ss t h k.1)
shows (dry_again ∷ ss) t h k = shows ss (dried t) (sound_dried t h) k

seven_sound : Sound seven
seven_sound = record {
  formed = record {
    numbered = (((refl, refl, refl, refl), refl, refl, refl), refl, refl, refl);
    shaped = (
      (
        (omega arith, omega arith, omega arith, refl, refl, λ e. absurd (false≢true e)),
        omega arith,
        omega arith,
        refl,
        refl,
        λ e. absurd (false≢true e),
      ),
      tt,
      omega arith,
      refl,
      refl,
      λ e. refl,
    );
    outlet = refl;
    few = omega arith;
  };
  within = within_dried seven;
}

computed : Computes seven worked
unfolding poured excess
computed = (
  refl,
  refl,
  (refl, refl, (refl, refl, (refl, refl, (refl, refl, (refl, refl, (refl, (refl, refl, (refl, refl, tt)))))))),
)

pub worked_shown : Shown seven worked
worked_shown = shows worked seven seven_sound computed
