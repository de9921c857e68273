-- Steps of a reading that gave something: what holds of each value of the step before holds of what was given.
use Rattle.std.proofs.Common.{◌≡◌, Bool, true, false, Option, Some, None, refl, subst, cond}
use Rattle.std.specs.Option.{option_and_then, option_map}

-- what was given; its type stands in its name's place, where it can't be told from the value
abbrev pub given : {A : Type 0} → A → Option A
given x = Some x

-- what is given twice is one
pub some_is : {A : Type 0} (x y : A) → given x ≡ given y → x ≡ y
some_is x y e = cc

-- through a map
pub from_map : {A B : Type 0} (P : B → Type 0) (f : A → B) (o : Option A) (y : B)
    → option_map f o ≡ Some y
    → ((x : A) → o ≡ Some x → P (f x))
    → P y
from_map P f (Some x) y e h = subst P (some_is (f x) y e) (h x refl)
from_map P f None y e h = absurd cc

-- through a second step
pub from_then : {A B : Type 0} (P : B → Type 0) (f : A → Option B) (o : Option A) (y : B)
    → option_and_then f o ≡ Some y
    → ((x : A) → o ≡ Some x → f x ≡ Some y → P y)
    → P y
from_then P f (Some x) y e h = h x refl e
from_then P f None y e h = absurd cc

-- through a test
pub from_test : {A : Type 0} (P : A → Type 0) (b : Bool) (x y : A)
    → cond b (Some x) None ≡ Some y
    → (b ≡ true → P x)
    → P y
from_test P true x y e h = subst P (some_is x y e) (h refl)
from_test P false x y e h = absurd cc
