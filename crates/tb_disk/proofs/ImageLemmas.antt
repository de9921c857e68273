-- What a crash may leave at least.
use Rattle.std.proofs.Common.{◌≡◌, ◌+◌, ◌≤◌, ℕ, List, length, arith, refl, subst}
use Rattle.tb_disk.specs.Steps.{Wrote, Tore, CutTo, Synced, over, Torn, MaybeCut}
use Rattle.tb_disk.specs.Past.{Past, Began, Then, contents_of, MayLeave, IsMade}
use Rattle.tb_disk.proofs.Noting.{over-torn, take-cut, Torn-longest}

-- a write of which nothing reached the disk
pub Torn-none : (place count longest : ℕ) (image : List ℕ) → Torn place count longest image image
Torn-none place count longest image = record {
  before = refl;
  behind = refl;
  no_shorter = omega arith;
  no_longer = omega arith;
}

-- a write of which the disk holds other bytes
pub Torn-any : (place : ℕ) (bytes others image : List ℕ) → length others ≡ length bytes → place ≤ length image
    → Torn place (length bytes) (place + length bytes) image (over place others image)
Torn-any place bytes others image as_many within =
    subst (λ (n : ℕ). Torn place n (place + n) image (over place others image)) as_many
    (over-torn place others image within)

-- a cut of which nothing reached the disk
pub MaybeCut-none : (n : ℕ) (image : List ℕ) → MaybeCut n image image
MaybeCut-none n image = record {
  front = refl;
  no_shorter = omega arith;
  no_longer = omega arith;
}

-- the contents are always one of the images
pub contents-left : (past : Past) → IsMade past → MayLeave past (contents_of past)
contents-left (Began first) made = refl
contents-left (Then (Wrote place bytes) older) made =
    (contents_of older, contents-left older made.1, over-torn place bytes (contents_of older) made.0)
contents-left (Then (Tore place count left) older) made = (
  contents_of older,
  contents-left older made.1,
  Torn-longest place count (place + count)
      (contents_of older) left made.0,
)
contents-left (Then (CutTo n) older) made =
    (contents_of older, contents-left older made.1, take-cut n (contents_of older) made.0)
contents-left (Then Synced older) made = refl
