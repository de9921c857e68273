-- The first row of a table whose cause holds.
use Rattle.std.proofs.Common.{◌≡◌, false, Bool, Some, None, List, [], ◌∷◌, ◌++◌, map, All, inl, inr, refl, ap}
use Rattle.std.specs.Prelude.{if◌then◌else◌}
use Rattle.std.specs.Option.{option_map_or}
use Rattle.std.proofs.lemmas.Bool.{cases_Bool}
use Rattle.std.proofs.lemmas.List.Elements.{All-nil, All-cons}
use Rattle.tb_terms.specs.declared.refusal.Refusal.{Refusal}
use Rattle.tb_terms.specs.Rows.{Row, first_of, refusal_in}

-- rows told as answers give the answer of the first refusal, and the last answer where there is none
pub first_of-refused : {V : Type 0} (told : Refusal → V) (rows : List Row) (last : V)
    → first_of (map (λ (row : Row). (told row.0, row.1)) rows) last ≡ option_map_or told (refusal_in rows) last
first_of-refused told [] last = refl
first_of-refused told (row ∷ rows) last =
    elim (cases_Bool row.1) [ inl holds ↦ rw holds refl | inr fails ↦ rw fails (first_of-refused told rows last) ]

-- rows behind others count by their first answer alone
pub first_of-append : {V : Type 0} (front one other : List (V × Bool)) (last : V)
    → first_of one last ≡ first_of other last
    → first_of (front ++ one) last ≡ first_of (front ++ other) last
first_of-append [] one other last same = same
first_of-append (row ∷ rows) one other last same =
    ap (λ v. if row.1 then row.0 else v) (first_of-append rows one other last same)

-- where no cause of the first rows holds, the others decide
pub refusal_in-append : (front rows : List Row) → refusal_in front ≡ None → refusal_in (front ++ rows) ≡ refusal_in rows
refusal_in-append [] rows none = refl
refusal_in-append (row ∷ front) rows none =
    elim (cases_Bool row.1) [
      | inl holds ↦ absurd (let found : Some row.0 ≡ None = rw holds at none in cc)
      | inr fails ↦ rw fails (refusal_in-append front rows (rw fails at none))
    ]

-- where a cause of the first rows holds, it decides
pub refusal_in-front : (front rows : List Row) (refused : Refusal)
    → refusal_in front ≡ Some refused
    → refusal_in (front ++ rows) ≡ Some refused
refusal_in-front [] rows refused found = absurd cc
refusal_in-front (row ∷ front) rows refused found =
    elim (cases_Bool row.1) [
      | inl holds ↦ rw holds (rw holds at found)
      | inr fails ↦ rw fails (refusal_in-front front rows refused (rw fails at found))
    ]

-- where nothing is refused no cause holds
pub refusal_in-none : (rows : List Row) → refusal_in rows ≡ None → All (λ row. row.1 ≡ false) rows
refusal_in-none [] none = All-nil (λ row. row.1 ≡ false)
refusal_in-none (row ∷ rows) none =
    elim (cases_Bool row.1) [
      | inl holds ↦ absurd (let found : Some row.0 ≡ None = rw holds at none in cc)
      | inr fails ↦ All-cons (λ row. row.1 ≡ false) row rows fails (refusal_in-none rows (rw fails at none))
    ]
