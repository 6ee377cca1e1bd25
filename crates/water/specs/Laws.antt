-- The laws of pouring, each of every tree.
use Rattle.std.specs.Prelude.{◌≡◌, ℕ, ◌+◌, ◌-◌, ◌<◌, ◌≤◌, true, false}
use Rattle.water.specs.Tree.{Tree, dried, full, is_open, volume}
use Rattle.water.specs.Sound.{Within, Sound}
use Rattle.water.specs.Pour.{poured, excess}
use Rattle.water.specs.Parts.{Part}
use Rattle.water.specs.Water.{held, outflow, closed_water, room}

-- Pouring nothing changes nothing and lets nothing out.
abbrev pub NothingLaw : Type 0
NothingLaw = (a : ℕ) (t : Tree) → (poured a 0 t ≡ t) × (excess a 0 t ≡ 0)

-- Pouring u and then v litres at a leaf is pouring u + v.
abbrev pub AddingLaw : Type 0
AddingLaw = (a u v : ℕ) (t : Tree) →
    (poured a v (poured a u t) ≡ poured a (u + v) t) × (excess a u t + excess a v (poured a u t) ≡ excess a (u + v) t)

-- A tree that has let any litre out takes none any more, at any leaf.
abbrev pub BrimLaw : Type 0
BrimLaw = (a b u v : ℕ) (t : Tree) → 0 < excess a u t →
    (poured b v (poured a u t) ≡ poured a u t) × (excess b v (poured a u t) ≡ v)

-- Pouring at a and pouring at b may be exchanged: the tree and all that leaves it are the same.
abbrev pub OrderLaw : Type 0
OrderLaw = (a b u v : ℕ) (t : Tree) →
    (poured b v (poured a u t) ≡ poured a u (poured b v t))
    × (excess a u t + excess b v (poured a u t) ≡ excess b v t + excess a u (poured b v t))

-- Nothing is lost or made.
abbrev pub BalanceLaw : Type 0
BalanceLaw = (a v : ℕ) (t : Tree) → held (poured a v t) + excess a v t ≡ held t + v

-- On a site every litre that falls is in a closed record or has flowed out.
abbrev pub SiteBalanceLaw : Type 0
SiteBalanceLaw = (a v : ℕ) (t : Tree) → Sound t →
    closed_water (poured a v t) + outflow (poured a v t) ≡ closed_water t + outflow t + v

-- Pouring changes nothing but water.
abbrev pub ShapeLaw : Type 0
ShapeLaw = (a v : ℕ) (t : Tree) → dried (poured a v t) ≡ dried t

-- A site whose water stands as it may keeps it so under any pouring.
abbrev pub SoundLaw : Type 0
SoundLaw = (a v : ℕ) (t : Tree) → Sound t → Sound (poured a v t)

-- A full tree takes nothing and lets every litre pass.
abbrev pub FullLaw : Type 0
FullLaw = (a v : ℕ) (t : Tree) → full t ≡ true → (poured a v t ≡ t) × (excess a v t ≡ v)

-- A tree that lets a litre out is full.
abbrev pub OverflowLaw : Type 0
OverflowLaw = (a v : ℕ) (t : Tree) → Within t → 0 < excess a v t → full (poured a v t) ≡ true

-- What a closed tree has no room for leaves it.
abbrev pub ClosedLaw : Type 0
ClosedLaw = (a v : ℕ) (t : Tree) → is_open t ≡ false → excess a v t ≡ v - room t

-- Nothing leaves a tree that has an outlet.
abbrev pub OpenLaw : Type 0
OpenLaw = (a v : ℕ) (t : Tree) → is_open t ≡ true → excess a v t ≡ 0

-- The room of a closed tree is its volume less its water.
abbrev pub RoomLaw : Type 0
RoomLaw = (t : Tree) → is_open t ≡ false → Within t → held t + room t ≡ volume t

-- No depression holds more than its volume.
abbrev pub VolumeLaw : Type 0
VolumeLaw = (t s : Tree) → Within t → Part t s → is_open s ≡ false → held s ≤ volume s

-- A tree is full exactly when it is closed and holds its volume.
abbrev pub FullVolumeLaw : Type 0
FullVolumeLaw = (t : Tree) → Within t →
    (full t ≡ true → (is_open t ≡ false) × (held t ≡ volume t)) × (is_open t ≡ false → held t ≡ volume t → full t ≡ true)
