-- A file's records as a tree in postorder.
use Rattle.std.specs.Prelude.{ℕ, zero, suc, List, [], ◌∷◌, ◌++◌}
use Rattle.terrain.specs.Format.{Format}
use Rattle.terrain.specs.declared.record.Kind.TheVariants.{Basin, Merge, Outlet}
use Rattle.terrain.specs.declared.record.Record.{Record}
use Rattle.water.specs.Tree.{Tree, basin, outlet, merge}
use Rattle.site.specs.Spell.{record_in}

-- The records of a tree as a file has them: the left side, the right side, the record itself.
abbrev pub postorder : Tree → List Record
postorder (basin n o w) = record { kind = Basin; left = 0; right = 0; own = o } ∷ []
postorder (outlet n w) = record { kind = Outlet; left = 0; right = 0; own = 0 } ∷ []
postorder (merge n o w c a b l r) =
    (postorder l ++ postorder r) ++ (record { kind = Merge; left = a; right = b; own = o } ∷ [])

-- The first n records of a file.
abbrev pub records_in : Format → List ℕ → ℕ → List Record
records_in e file zero = []
records_in e file (suc i) = records_in e file i ++ (record_in e file i ∷ [])
