-- What becomes of litres that come to one record.
use Rattle.std.specs.Prelude.{ℕ, ◌+◌, ◌-◌, min}
use Rattle.site.specs.declared.node.Node.{Node}
use Rattle.site.specs.declared.node.Node.TheVariants.{Unused, Basin, Outlet, Merge}

-- The record after v litres came: a basin or a merge takes what it has room for, an outlet all.
abbrev pub filled_node : ℕ → Node → Node
filled_node v Unused = Unused
filled_node v (Basin o w) = Basin o (w + min v (o - w))
filled_node v (Outlet w) = Outlet (w + v)
filled_node v (Merge o w c a b) = Merge o (w + min v (o - w)) c a b

-- What the record does not take.
abbrev pub over_node : ℕ → Node → ℕ
over_node v Unused = v
over_node v (Basin o w) = v - (o - w)
over_node v (Outlet w) = 0
over_node v (Merge o w c a b) = v - (o - w)

-- The water that an outlet has taken; of any other record 0.
abbrev pub drained : Node → ℕ
drained Unused = 0
drained (Basin o w) = 0
drained (Outlet w) = w
drained (Merge o w c a b) = 0
