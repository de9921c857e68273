-- Each code that replies are told by has its phrase in the registry of codes.
use Rattle.std.proofs.Common.{◌≡◌, ℕ, ◌<◌, ◌≤◌, List, [], ◌∷◌, length, Some, true, refl, subst, inl, inr, arith, rules}
use Rattle.std.specs.Prelude.{◌==◌, is_some, unwrap_or}
use Rattle.std.specs.List.{AllByRecursion}
use Rattle.std.proofs.lemmas.Bool.{cases_Bool}
use Rattle.http.specs.StatusCode.{IsStatusCode, reason_phrase}
use Rattle.tb_wire.specs.Codes.{phrases, phrase_in, phrase_of, is_told}
use Rattle.tb_wire.proofs.Picks.{same_number}

-- what is asked of a row of the table
pub record IsRow (row : ℕ × List ℕ) : Type 0 where
  pub least : 100 ≤ row.0
  pub most : row.0 < 1000
  pub reason : reason_phrase row.0 ≡ Some row.1
  pub few : length row.1 ≤ 31

-- and of a code that is told by a phrase
pub record IsPhrase (code : ℕ) (phrase : List ℕ) : Type 0 where
  pub least : 100 ≤ code
  pub most : code < 1000
  pub reason : reason_phrase code ≡ Some phrase
  pub few : length phrase ≤ 31

-- a row's code has the row's phrase
of_row : (row : ℕ × List ℕ) (code : ℕ) → IsRow row → (row.0 == code) ≡ true → IsPhrase code row.1
of_row row code is same =
    subst (λ (c : ℕ). IsPhrase c row.1) (same_number row.0 code same)
    (record { least = is.least; most = is.most; reason = is.reason; few = is.few })

-- and so has each code in a table of such rows
of_table : (rows : List (ℕ × List ℕ)) (code : ℕ) → AllByRecursion IsRow rows → is_some (phrase_in rows code) ≡ true
    → IsPhrase code (unwrap_or (phrase_in rows code) [])
of_table [] code are told = absurd (cc (told))
of_table (row ∷ rows) code are told = elim (cases_Bool (row.0 == code)) [
  | inl e ↦ rw (e) (of_row row code are.0 e)
  | inr e ↦ rw (e) (of_table rows code are.1 (rw (e) at told))
]

-- a row from its four facts
row : (code : ℕ) (phrase : List ℕ) → 100 ≤ code → code < 1000 → reason_phrase code ≡ Some phrase → length phrase ≤ 31
    → IsRow (code, phrase)
row code phrase least most reason few = record { least = least; most = most; reason = reason; few = few }

-- the table is such a one
are_rows : AllByRecursion IsRow phrases
are_rows = (
  row _ _ (omega arith) (omega arith) refl (search rules),
  (
    row _ _ (omega arith) (omega arith) refl (search rules),
    (
      row _ _ (omega arith) (omega arith) refl (search rules),
      (
        row _ _ (omega arith) (omega arith) refl (search rules),
        (
          row _ _ (omega arith) (omega arith) refl (search rules),
          (
            row _ _ (omega arith) (omega arith) refl (search rules),
            (
              row _ _ (omega arith) (omega arith) refl (search rules),
              (
                row _ _ (omega arith) (omega arith) refl (search rules),
                (
                  row _ _ (omega arith) (omega arith) refl (search rules),
                  (
                    row _ _ (omega arith) (omega arith) refl (search rules),
                    (
                      row _ _ (omega arith) (omega arith) refl (search rules),
                      (
                        row _ _ (omega arith) (omega arith) refl (search rules),
                        (
                          row _ _ (omega arith) (omega arith) refl (search rules),
                          (
                            row _ _ (omega arith) (omega arith) refl (search rules),
                            tt,
                          ),
                        ),
                      ),
                    ),
                  ),
                ),
              ),
            ),
          ),
        ),
      ),
    ),
  ),
)

-- its phrase is that of the registry
pub reason_told : (code : ℕ) → is_told code ≡ true → reason_phrase code ≡ Some (phrase_of code)
reason_told code told = (of_table phrases code are_rows told).reason

-- which has at most 31 bytes
pub few_told : (code : ℕ) → is_told code ≡ true → length (phrase_of code) ≤ 31
few_told code told = (of_table phrases code are_rows told).few

-- and the code is one of HTTP
pub status_told : (code : ℕ) → is_told code ≡ true → IsStatusCode code
status_told code told = let is = of_table phrases code are_rows told in (is.least, is.most)
