-- What the lists of numbers give back.
use Rattle.std.proofs.Common.{◌≡◌, ℕ, zero, suc, ◌<◌, get_or, List, [], ◌∷◌, ◌++◌, length, map, sym, ap, ◌∙◌, subst, refl, arith}
use Rattle.std.proofs.lemmas.List.{length-map}
use Rattle.std.specs.Prelude.{Bool, Option, Contains}
use Rattle.std.proofs.Math.Seq.{take-append_seam}
use Rattle.tb_message.specs.declared.message.Entry.{Entry}
use Rattle.tb_message.specs.Spelling.{spelling}
use Rattle.tb_lock.specs.Meanings.{History, repeated}
use Rattle.tb_session.specs.declared.called.Called.{Called}
use Rattle.tb_session.specs.declared.called.Outcome.{Outcome}
use Rattle.tb_session.specs.declared.called.Outcome.TheVariants as outcome
use Rattle.tb_session.specs.Calls.{ComesOut}
use Rattle.tb_session.specs.Codes.{spelled_all, code_of, kind_in, kind_at, outcome_code, entry_in, entry_of, key_code, ask_code, fixed_code, operator_in, told_code, moments_code, IsAnswered}

-- the entry in a call's code
pub entry-code : (c : Called) → entry_in (code_of c) ≡ entry_of c.outcome
entry-code c = take-append_seam (entry_of c.outcome) (key_code c.key ++ ask_code c.ask)

-- the operator's name in the fixed part
pub operator-fixed : (name : List ℕ) (told : Bool) (faults : ℕ) (moments : Option (List ℕ))
    → operator_in (fixed_code name told faults moments) ≡ name
operator-fixed name told faults moments = take-append_seam name (told_code told ∷ faults ∷ moments_code moments)

-- an element of a list, mapped
pub get_or-map : {A B : Type 0} (f : A → B) (xs : List A) (k : ℕ) (x : A) → k < length xs
    → get_or (map f xs) k (f x) ≡ f (get_or xs k x)
get_or-map f [] k x within = absurd (let bad : ⊥ = omega arith in bad)
get_or-map f (y ∷ ys) zero x within = refl
get_or-map f (y ∷ ys) (suc k) x within = get_or-map f ys k x (omega arith)

-- what a list has, mapped, stands in the mapped list
pub Contains-map : {A B : Type 0} (f : A → B) (xs : List A) (x : A) → Contains xs x → Contains (map f xs) (f x)
Contains-map f xs x has = (has.0, omega (arith, has.1, length-map xs f), get_or-map f xs has.0 x has.1 ∙ ap f has.2)

-- only a message that stands is told to the lock as a repeat
stood_by : (operator : List ℕ) (history : List Entry) (c : Called) (o : Outcome) (before after : ℕ)
    → ComesOut operator history c o before after
    → kind_at (outcome_code o) ≡ repeated
    → Contains (spelled_all history) (entry_of o)
stood_by operator history c (outcome.Added e) before after out is = absurd (let bad : ⊥ = cc in bad)
stood_by operator history c (outcome.Stood e) before after out is = Contains-map spelling history e out.1
stood_by operator history c (outcome.Doubted e) before after out is = absurd (let bad : ⊥ = cc in bad)
stood_by operator history c outcome.Told before after out is = absurd (let bad : ⊥ = cc in bad)
stood_by operator history c outcome.Lacked before after out is = absurd (let bad : ⊥ = cc in bad)

-- the entry of a repeat stands in the history on which it was answered
pub repeat-stands : (fixed : List ℕ) (history : List Entry) (c : Called) (before after readings : ℕ) (code : List ℕ)
    (prefix : History)
    → code ≡ code_of c
    → prefix ≡ spelled_all history
    → IsAnswered fixed history c before after readings
    → kind_in code ≡ repeated
    → Contains prefix (entry_in code)
repeat-stands fixed history c before after readings code prefix coded is answered repeat =
    subst (λ (l : History). Contains l (entry_in code)) (sym is)
    (subst (λ (l : List ℕ). Contains (spelled_all history) l)
    (sym (ap (λ (l : List ℕ). entry_in l) coded ∙ entry-code c))
    (stood_by (operator_in fixed) history c c.outcome before after answered.comes_out
    (ap (λ (l : List ℕ). kind_in l) (sym coded) ∙ repeat)))
