-- On clean rows matchit's search gives the row that takes the path.
use Rattle.std.proofs.Common.{◌≡◌, ℕ, ◌-◌, ◌<◌, List, [], ◌∷◌, length, refl, ap, sym, ◌∙◌, inl, inr, true, false, Bool, Some, None, Option, arith, suc, zero, get_or}
use Rattle.std.specs.Prelude.{◌==◌, ◌&&◌, not, if◌then◌else◌, nat_lt}
use Rattle.std.specs.List.{list_all, AllByRecursion}
use Rattle.std.proofs.lemmas.Bool.{cases_Bool}
use Rattle.matchit.specs.Rows.{RowsOf, param_token, catch_all_token}
use Rattle.matchit.specs.Seek.{seek, step, own, or_else, param_step, has_slash}
use Rattle.tb_wire.specs.Rows.{takes, pick, is_shaped, part, are_clean}

-- both of two tests hold
pub both_true : (a b : Bool) → (a && b) ≡ true → (a ≡ true) × (b ≡ true)
both_true true b h = (refl, h)
both_true false b h = cc (h)

-- a test fails where its opposite holds
pub not_true : (a : Bool) → not a ≡ true → a ≡ false
not_true true h = cc (h)
not_true false h = refl

-- neither a byte nor a parameter is a rest of all segments
less_257 : (x : ℕ) → nat_lt x 257 ≡ true → (x == catch_all_token) ≡ false
less_257 x h = grind arith

-- nor is a byte
less_256 : (x : ℕ) → nat_lt x 256 ≡ true → (x == catch_all_token) ≡ false
less_256 x h = grind arith

-- and a byte is no parameter
not_param : (x : ℕ) → nat_lt x 256 ≡ true → (x == param_token) ≡ false
not_param x h = grind arith

-- a row does not go on with a rest of all segments
shaped_head : (x : ℕ) (t : List ℕ) → is_shaped (x ∷ t) ≡ true → (x == catch_all_token) ≡ false
shaped_head x [] h = less_257 x h
shaped_head x (y ∷ t) h = less_256 x ((both_true (nat_lt x 256) (is_shaped (y ∷ t)) h).0)

-- what follows the first part of a row is shaped like one
shaped_tail : (x : ℕ) (t : List ℕ) → is_shaped (x ∷ t) ≡ true → is_shaped t ≡ true
shaped_tail x [] h = refl
shaped_tail x (y ∷ t) h = (both_true (nat_lt x 256) (is_shaped (y ∷ t)) h).1

-- a parameter ends its row
param_ends : (x : ℕ) (t : List ℕ) → (x == param_token) ≡ true → is_shaped (x ∷ t) ≡ true → t ≡ []
param_ends x [] e h = refl
param_ends x (y ∷ t) e h =
    let n = not_param x ((both_true (nat_lt x 256) (is_shaped (y ∷ t)) h).0) in
    let bad : true ≡ false = sym e ∙ n in
    cc (bad)

-- numbers that the test finds equal are the same
pub same_number : (x y : ℕ) → (x == y) ≡ true → x ≡ y
same_number x y h = grind (arith, h)

module _ {K : Type 0} where
  -- no row goes on with a parameter
  abbrev no_param : RowsOf K → Bool
  no_param [] = true
  no_param (([], k) ∷ rest) = no_param rest
  no_param ((x ∷ t, k) ∷ rest) = not (x == param_token) && no_param rest

  -- the first row and the others, of rows of which none goes on with a parameter
  np_parts : (x : ℕ) (t : List ℕ) (k : K) (rest : RowsOf K)
      → no_param ((x ∷ t, k) ∷ rest) ≡ true
      → ((x == param_token) ≡ false) × (no_param rest ≡ true)
  np_parts x t k rest h =
      let (a, b) = both_true (not (x == param_token)) (no_param rest) h in (not_true (x == param_token) a, b)

  -- the first row and the others, of clean rows
  clean_parts : (t : List ℕ) (k : K) (rest : RowsOf K)
      → are_clean ((t, k) ∷ rest) ≡ true
      → (is_shaped t ≡ true) × (list_all (λ r. part t r.0) rest ≡ true) × (are_clean rest ≡ true)
  unfolding are_clean
  clean_parts t k rest h =
      let (a, b) = both_true (is_shaped t) (list_all (λ r. part t r.0) rest && are_clean rest) h in
      let (d, e) = both_true (list_all (λ r. part t r.0) rest) (are_clean rest) b in
      (a, d, e)

  -- nothing else is found
  or_none : (o : Option K) → or_else o None ≡ o
  or_none None = refl
  or_none (Some k) = refl

  -- without rows nothing is found
  seek_nil : (n : ℕ) (p : List ℕ) → seek {K = K} n [] p ≡ None
  unfolding seek param_step
  seek_nil n [] = refl
  seek_nil (suc n) (b ∷ p) = seek_nil n p
  seek_nil zero (b ∷ p) = elim (cases_Bool (has_slash (b ∷ p))) [
    | inl e ↦ rw (e, seek_nil 0 p) refl
    | inr e ↦ rw (e, seek_nil 0 p, seek_nil (suc (length p) - 1) p) refl
  ]

  -- a parameter that takes all of the path leaves the rows that end here
  seek_all : (rs : RowsOf K) (p : List ℕ) → seek (length p) rs p ≡ own rs
  unfolding seek
  seek_all rs [] = refl
  seek_all rs (b ∷ p) = seek_all rs p

  -- the same by its length
  seek_at : (n : ℕ) (rs : RowsOf K) (p : List ℕ) → n ≡ length p → seek n rs p ≡ own rs
  seek_at n rs p e = ap (λ (k : ℕ). seek k rs p) e ∙ seek_all rs p

  -- at the end of the path the row that ends here decides
  own_pick : (rs : RowsOf K) → own rs ≡ pick rs []
  unfolding pick takes
  own_pick [] = refl
  own_pick (([], k) ∷ rest) = refl
  own_pick ((x ∷ t, k) ∷ rest) = own_pick rest

  -- where no row goes on with a parameter, none is left behind one
  no_step : (rs : RowsOf K) → no_param rs ≡ true → step param_token rs ≡ []
  no_step [] h = refl
  no_step (([], k) ∷ rest) h = no_step rest h
  no_step ((x ∷ t, k) ∷ rest) h = let (a, b) = np_parts x t k rest h in rw (a) (no_step rest b)

  -- where no parameter begins, the rows that go on with the byte decide
  step_pick : (rs : RowsOf K) (b : ℕ) (p : List ℕ) → no_param rs ≡ true → pick rs (b ∷ p) ≡ pick (step b rs) p
  unfolding pick takes
  step_pick [] b p h = refl
  step_pick (([], k) ∷ rest) b p h = step_pick rest b p h
  step_pick ((x ∷ t, k) ∷ rest) b p h =
      let (first, more) = np_parts x t k rest h in
      let ih = step_pick rest b p more in
      elim (cases_Bool (x == b)) [
        | inl e ↦ rw (first, e) (ap (λ (o : Option K). if takes t p then Some k else o) ih)
        | inr e ↦ rw (first, e) ih
      ]

  -- of clean rows none goes on with a rest of all segments
  no_catch_all : (rs : RowsOf K) → are_clean rs ≡ true → step catch_all_token rs ≡ []
  no_catch_all [] h = refl
  no_catch_all (([], k) ∷ rest) h = no_catch_all rest ((clean_parts [] k rest h).2)
  no_catch_all ((x ∷ t, k) ∷ rest) h =
      let (a, b, d) = clean_parts (x ∷ t) k rest h in rw (shaped_head x t a) (no_catch_all rest d)

  -- a parameter stands alone among clean rows
  data Either (rs : RowsOf K) : Type 0 where
    plain_rows : no_param rs ≡ true → Either rs
    one_param : (k : K) → rs ≡ (param_token ∷ [], k) ∷ [] → Either rs

  -- rows below one that ends here
  under_end : (k : K) (rest : RowsOf K)
      → list_all (λ r. part [] r.0) rest ≡ true
      → Either rest
      → Either (([], k) ∷ rest)
  under_end k rest h (plain_rows n) = plain_rows n
  under_end k rest h (one_param j e) = let bad = rw (e) at h in cc (bad)

  -- rows below one that goes on with a byte
  under_byte : (x : ℕ) (t : List ℕ) (k : K) (rest : RowsOf K)
      → (x == param_token) ≡ false
      → list_all (λ r. part (x ∷ t) r.0) rest ≡ true
      → Either rest
      → Either ((x ∷ t, k) ∷ rest)
  under_byte x t k rest n h (plain_rows m) = plain_rows (rw (n) m)
  under_byte x t k rest n h (one_param j e) = let bad = rw (e, n) at h in cc (bad)

  -- beside a parameter no row stands
  none_beside : (x : ℕ) (t : List ℕ) (rest : RowsOf K)
      → (x == param_token) ≡ true
      → list_all (λ r. part (x ∷ t) r.0) rest ≡ true
      → rest ≡ []
  none_beside x t [] e h = refl
  none_beside x t (([], k) ∷ rest) e h = let bad = rw (e) at h in cc (bad)
  none_beside x t ((y ∷ s, k) ∷ rest) e h = let bad = rw (e) at h in cc (bad)

  -- so a parameter stands alone
  under_param : (x : ℕ) (t : List ℕ) (k : K) (rest : RowsOf K)
      → (x == param_token) ≡ true
      → is_shaped (x ∷ t) ≡ true
      → list_all (λ r. part (x ∷ t) r.0) rest ≡ true
      → Either ((x ∷ t, k) ∷ rest)
  under_param x t k rest e s h =
      one_param k (ap₃ (same_number x param_token e) (param_ends x t e s) (none_beside x t rest e h))
    where
      ap₃ : x ≡ param_token → t ≡ [] → rest ≡ [] → ◌≡◌ {A = RowsOf K} ((x ∷ t, k) ∷ rest) ((param_token ∷ [], k) ∷ [])
      ap₃ a b c = cc

  -- clean rows have no parameter next, or are one parameter
  either : (rs : RowsOf K) → are_clean rs ≡ true → Either rs
  either [] h = plain_rows refl
  either (([], k) ∷ rest) h = let (s, a, b) = clean_parts [] k rest h in under_end k rest a (either rest b)
  either ((x ∷ t, k) ∷ rest) h =
      let (s, a, b) = clean_parts (x ∷ t) k rest h in
      elim (cases_Bool (x == param_token)) [
        | inl e ↦ under_param x t k rest e s a
        | inr e ↦ under_byte x t k rest e a (either rest b)
      ]

  -- the rows that go on with a byte are clean again
  apart_step : (x b : ℕ) (t : List ℕ) (rest : RowsOf K)
      → (x == param_token) ≡ false
      → (x == b) ≡ true
      → no_param rest ≡ true
      → list_all (λ r. part (x ∷ t) r.0) rest ≡ true
      → list_all (λ r. part t r.0) (step b rest) ≡ true
  apart_step x b t [] n e m h = refl
  apart_step x b t (([], k) ∷ rest) n e m h =
      apart_step x b t rest n e m ((both_true (part (x ∷ t) []) (list_all (λ r. part (x ∷ t) r.0) rest) h).1)
  apart_step x b t ((y ∷ s, k) ∷ rest) n e m h =
      let (p, more) = both_true (part (x ∷ t) (y ∷ s)) (list_all (λ r. part (x ∷ t) r.0) rest) h in
      let (q, np) = np_parts y s k rest m in
      let ih = apart_step x b t rest n e np more in
      elim (cases_Bool (y == b)) [
        | inl f ↦
            let xy : (x == y) ≡ true = rw (same_number x b e, same_number y b f) (grind arith) in
            let inner = rw (n, q, xy) at p in
            rw (f, inner) ih
        | inr f ↦ rw (f) ih
      ]

  -- and the rows that go on with it are clean
  clean_step : (rs : RowsOf K) (b : ℕ) → no_param rs ≡ true → are_clean rs ≡ true → are_clean (step b rs) ≡ true
  unfolding are_clean
  clean_step [] b n h = refl
  clean_step (([], k) ∷ rest) b n h = clean_step rest b n ((clean_parts [] k rest h).2)
  clean_step ((x ∷ t, k) ∷ rest) b n h =
      let (s, a, d) = clean_parts (x ∷ t) k rest h in
      let (q, np) = np_parts x t k rest n in
      let ih = clean_step rest b np d in
      elim (cases_Bool (x == b)) [
        | inl e ↦ rw (e, shaped_tail x t s, apart_step x b t rest q e np a) ih
        | inr e ↦ rw (e) ih
      ]

  -- a parameter takes what is left, unless a slash stands in it
  single : (k : K) (b : ℕ) (p : List ℕ)
      → (param_token == b) ≡ false
      → seek 0 ((param_token ∷ [], k) ∷ []) (b ∷ p) ≡ pick ((param_token ∷ [], k) ∷ []) (b ∷ p)
  unfolding seek param_step pick takes
  single k b p n = elim (cases_Bool (has_slash (b ∷ p))) [
    | inl e ↦ rw (n, seek_nil 0 p, e, seek_nil 0 p) refl
    | inr e ↦ rw (n, seek_nil 0 p, e, seek_at (suc (length p) - 1) (([], k) ∷ []) p (omega arith)) refl
  ]

  -- where no parameter comes next, the search goes on behind the byte
  turn : (rs : RowsOf K) (b : ℕ) (p : List ℕ)
      → no_param rs ≡ true
      → are_clean rs ≡ true
      → seek 0 rs (b ∷ p) ≡ seek 0 (step b rs) p
  unfolding seek param_step
  turn rs b p n h = elim (cases_Bool (has_slash (b ∷ p))) [
    | inl e ↦ rw (no_step rs n, no_catch_all rs h, e, seek_nil 0 p) (or_none (seek 0 (step b rs) p))
    | inr e ↦ rw (no_step rs n, no_catch_all rs h, e, seek_nil (suc (length p) - 1) p) (or_none (seek 0 (step b rs) p))
  ]

  -- one step of the search is one of the choice, of either kind of rows
  by_kind : (rs : RowsOf K) (b : ℕ) (p : List ℕ) → (param_token == b) ≡ false → are_clean rs ≡ true
      → ((others : RowsOf K) → are_clean others ≡ true → seek 0 others p ≡ pick others p)
      → Either rs
      → seek 0 rs (b ∷ p) ≡ pick rs (b ∷ p)
  by_kind rs b p byte h more (plain_rows n) =
      turn rs b p n h ∙ more (step b rs) (clean_step rs b n h) ∙ sym (step_pick rs b p n)
  by_kind rs b p byte h more (one_param k e) = rw (e) (single k b p byte)

  -- the search gives the row that takes the path
  pub exact : (path : List ℕ)
      → AllByRecursion (λ b. (param_token == b) ≡ false) path
      → (rs : RowsOf K)
      → are_clean rs ≡ true
      → seek 0 rs path ≡ pick rs path
  unfolding seek
  exact [] bytes rs h = own_pick rs
  exact (b ∷ p) bytes rs h = by_kind rs b p bytes.0 h (exact p bytes.1) (either rs h)

-- a byte is no parameter
not_token : (b : ℕ) → b < 256 → (param_token == b) ≡ false
not_token b h = grind arith

-- so no byte of a path is one
pub bytes_of : (p : List ℕ) → ((i : ℕ) → get_or p i 0 < 256) → AllByRecursion (λ b. (param_token == b) ≡ false) p
bytes_of [] h = tt
bytes_of (b ∷ p) h = (not_token b (h 0), bytes_of p (λ i. h (suc i)))
