-- The movements of a history of entries grow by what its next entry means on it.
use Rattle.std.proofs.Common.{◌≡◌, ℕ, zero, suc, List, [], ◌∷◌, ◌++◌, Option, Some, None, length, take, get_or, ap, sym, ◌∙◌, inl, inr, subst, append-nil, append_assoc, arith}
use Rattle.std.specs.Prelude.{IfSome, option_to_list}
use Rattle.std.proofs.Math.Seq.{take-suc}
use Rattle.std.proofs.lemmas.Bool.{cases_lt}
use Rattle.std.proofs.lemmas.List.{take_all}
use Rattle.tb_movements.specs.Movements.{Movement}
use Rattle.tb_movements.specs.Legal.{Passes, IsLegal}
use Rattle.tb_movements.specs.Translated.{movements_after, movements_of, EachPasses}
use Rattle.tb_movements.proofs.HistoryLemmas.{IsLegal-none, IsLegal-push}

-- one more entry behind some that stand behind others
movements_after-push : {E : Type 0} (meaning : List E → E → Option Movement) (before rest : List E) (entry : E)
    → movements_after meaning before (rest ++ entry ∷ [])
    ≡ movements_after meaning before rest ++ option_to_list (meaning (before ++ rest) entry)
movements_after-push meaning before [] entry =
    append-nil (option_to_list (meaning before entry))
    ∙ ap (λ b. option_to_list (meaning b entry)) (sym (append-nil before))
movements_after-push {E} meaning before (first ∷ rest) entry =
    let now : List Movement = option_to_list (meaning before first) in
    let after : List E = before ++ first ∷ [] in
    let later : List Movement = movements_after meaning after rest in
    ap (λ movements. now ++ movements) (movements_after-push meaning after rest entry)
    ∙ sym (append_assoc now later (option_to_list (meaning (after ++ rest) entry)))
    ∙ ap (λ b. (now ++ later) ++ option_to_list (meaning b entry)) (append_assoc before (first ∷ []) rest)

-- the movements of a history and one more entry
pub movements_of-push : {E : Type 0} (meaning : List E → E → Option Movement) (entries : List E) (entry : E)
    → movements_of meaning (entries ++ entry ∷ [])
    ≡ movements_of meaning entries ++ option_to_list (meaning entries entry)
movements_of-push meaning entries entry = movements_after-push meaning [] entries entry

-- a legal history stays legal with what passes on it, or nothing
legal_more : (history : List Movement) (new : Option Movement)
    → IsLegal history
    → IfSome new (Passes history)
    → IsLegal (history ++ option_to_list new)
legal_more history None legal passes = subst IsLegal (sym (append-nil history)) legal
legal_more history (Some movement) legal passes = IsLegal-push history movement legal passes

-- where each entry's movement passes, those of each front are legal
legal_up_to : {E : Type 0} (meaning : List E → E → Option Movement) (entries : List E) (d : E)
    → EachPasses meaning entries
    → (n : ℕ) → IsLegal (movements_of meaning (take n entries))
legal_up_to meaning entries d each zero = IsLegal-none
legal_up_to meaning entries d each (suc n) =
    let so_far = legal_up_to meaning entries d each n in
    let next = meaning (take n entries) (get_or entries n d) in
    elim (cases_lt n (length entries)) [
      | inl short ↦
          subst IsLegal
          (sym (ap (movements_of meaning) (take-suc entries n d short)
          ∙ movements_of-push meaning (take n entries) (get_or entries n d)))
          (legal_more (movements_of meaning (take n entries)) next so_far (each n d short))
      | inr past ↦
          subst (λ front. IsLegal (movements_of meaning front))
          (take_all n entries past ∙ sym (take_all (suc n) entries (omega arith))) so_far
    ]

-- and so are all of them
pub IsLegal-translated : {E : Type 0} (meaning : List E → E → Option Movement) (entries : List E)
    → EachPasses meaning entries
    → IsLegal (movements_of meaning entries)
IsLegal-translated meaning [] each = IsLegal-none
IsLegal-translated meaning (first ∷ rest) each =
    let entries : List _ = first ∷ rest in
    subst (λ front. IsLegal (movements_of meaning front)) (take_all (length entries) entries (omega arith))
    (legal_up_to meaning entries first each (length entries))
