-- The number of the first covering zone in words is the one that the search finds.
use Rattle.std.proofs.Common.{◌≡◌, ℕ, zero, suc, Bool, true, false, cond, List, [], ◌∷◌, length, refl, arith}
use Rattle.raster.specs.declared.zones.Zone.{Zone}
use Rattle.raster.specs.Zones.{covers, first_covering, NoneCovers, OfTheFirst}

-- One zone more that does not cover the cell.
none_more : (z : Zone) (zs : List Zone) (row col n : ℕ) → covers z row col ≡ false → NoneCovers n zs row col
    → NoneCovers (suc n) (z ∷ zs) row col
none_more z zs row col n e none zero h = e
none_more z zs row col n e none (suc k) h = none k (omega arith)

-- A number that is right with a zone in front that does not cover the cell is right without it.
right_after : (z : Zone) (zs : List Zone) (row col n : ℕ) → covers z row col ≡ false → OfTheFirst (z ∷ zs) row col n
    → OfTheFirst zs row col n
right_after z zs row col n e right =
    record {
      first = λ k h on none. right.first (suc k) (omega arith) on (none_more z zs row col k e none);
      none = λ none. right.none (none_more z zs row col (length zs) e none);
    }

step : (z : Zone) (zs : List Zone) (row col n : ℕ) (b : Bool) → covers z row col ≡ b
    → (OfTheFirst zs row col n → n ≡ first_covering zs row col) → OfTheFirst (z ∷ zs) row col n
    → n ≡ cond b z.number (first_covering zs row col)
step z zs row col n true e others right = right.first 0 (omega arith) e (λ k h. absurd (omega arith))
step z zs row col n false e others right = others (right_after z zs row col n e right)

pub is_found : (zs : List Zone) (row col n : ℕ) → OfTheFirst zs row col n → n ≡ first_covering zs row col
is_found [] row col n right = right.none (λ k h. absurd (omega arith))
is_found (z ∷ zs) row col n right =
    step z zs row col n (covers z row col) refl (is_found zs row col n) right
