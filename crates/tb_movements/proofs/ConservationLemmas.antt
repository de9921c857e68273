-- What all participants hold is what was issued.
use Rattle.std.proofs.Common.{◌≡◌, ◌≢◌, ℕ, ◌+◌, ◌≤◌, Bool, true, false, not, cond, ◌&&◌, ◌==◌, List, [], ◌∷◌, ◌++◌, sum_by, All, AllPairs, Contains, refl, ap, sym, ◌∙◌, inl, inr, subst, arith, eqb-true}
use Rattle.std.specs.List.{prefix_len}
use Rattle.std.proofs.lemmas.Bool.{cases_Bool, cond-true, cond-false, and_parts}
use Rattle.std.proofs.lemmas.List.Elements.{All-head, All-tail, All-take}
use Rattle.std.proofs.lemmas.List.Sums.{sum_by-cons, sum_by_push}
use Rattle.tb_units.proofs.SumLemmas.{sum_by_agree, sum_by_none, sum_by-filter-cons}
use Rattle.tb_holdings.proofs.HolderLemmas.{sum_by_plus, sum_by_once, sum_by_one}
use Rattle.tb_movements.specs.Movements.{Movement, Settled, Transferred, Pledged, Released, Redeemed, Credit, credited_to, credited_in_all, brought, taken, issues, redeems}
use Rattle.tb_movements.specs.Holdings.{is_redeemed, before_redemption, balance, held, issued, outstanding, paid}
use Rattle.tb_movements.specs.Marks.{pledged}
use Rattle.tb_movements.specs.Legal.{Passes, IsLegal, Reaches, AreParticipants, Conservation}
use Rattle.tb_movements.proofs.SumLemmas.{sum_by_minus, sum_by_zero, list_any-take_while}
use Rattle.tb_movements.proofs.HistoryLemmas.{by_movements, IsLegal-take, is_redeemed-before, is_redeemed-now, before_redemption-stays, before_redemption-now}
use Rattle.tb_movements.proofs.MarkLemmas.{pledges, pledged-push, pledged-none}

-- all that came to the holder of the security
abbrev pub all_brought : ℕ → ℕ → List Movement → ℕ
all_brought holder security history = sum_by (brought holder security) history

-- all that left it
abbrev pub all_taken : ℕ → ℕ → List Movement → ℕ
all_taken holder security history = sum_by (taken holder security) history

-- of a security that isn't redeemed, nobody has pledged and given away more than came to it
abbrev pub IsCovered : List Movement → Type 0
IsCovered history =
    (holder security : ℕ)
    → is_redeemed security history ≡ false
    → pledged holder security history + all_taken holder security history ≤ all_brought holder security history

-- so much can still be pledged or given away
abbrev HasFree : List Movement → ℕ → ℕ → ℕ → Type 0
HasFree history par holder security =
    par + (pledged holder security history + all_taken holder security history) ≤ all_brought holder security history

-- the same of equal holders and securities
HasFree-same : (before : List Movement) (par one holder of security : ℕ)
    → one ≡ holder
    → of ≡ security
    → HasFree before par one of
    → HasFree before par holder security
HasFree-same before par one holder of security same_holder same_security has =
    subst (λ s. HasFree before par holder s) same_security (subst (λ h. HasFree before par h of) same_holder has)

-- what a movement that passes takes or pledges was free
takes_free : (before : List Movement) (movement : Movement)
    → Passes before movement
    → IsCovered before
    → (holder security : ℕ)
    → is_redeemed security before ≡ false
    → HasFree before (pledges holder security movement + taken holder security movement) holder security
takes_free before (Settled of credits) passes covered holder security live =
    let so_far = covered holder security live in omega arith
takes_free before (Released of number caller par) passes covered holder security live =
    let so_far = covered holder security live in omega arith
takes_free before (Redeemed of) passes covered holder security live =
    let so_far = covered holder security live in omega arith
takes_free before (Transferred from to of par) passes covered holder security live =
    elim (cases_Bool (holder == from && security == of)) [
      | inl own ↦
          let parts = and_parts (holder == from) (security == of) own in
          let from_of = covered from of passes.0 in
          let live_of = cond-false {A = ℕ} (is_redeemed of before) 0 (balance from of before) passes.0 in
          let there : HasFree before par from of = omega (arith, passes.2, from_of, live_of) in
          let here = HasFree-same before par from holder of security
          (sym (eqb-true holder from parts.0)) (sym (eqb-true security of parts.1)) there in
          omega (arith, here, cond-true {A = ℕ} (holder == from && security == of) par 0 own)
      | inr other ↦
          omega (
            arith,
            covered holder security live,
            cond-false {A = ℕ} (holder == from && security == of) par 0 other,
          )
    ]
takes_free before (Pledged of number pledgee on par) passes covered holder security live =
    elim (cases_Bool (of == holder && on == security)) [
      | inl own ↦
          let parts = and_parts (of == holder) (on == security) own in
          let of_on = covered of on passes.0 in
          let live_on = cond-false {A = ℕ} (is_redeemed on before) 0 (balance of on before) passes.0 in
          let there : HasFree before par of on = omega (arith, passes.2, of_on, live_on) in
          let here = HasFree-same before par of holder on security
          (eqb-true of holder parts.0) (eqb-true on security parts.1) there in
          omega (arith, here, cond-true {A = ℕ} (of == holder && on == security) par 0 own)
      | inr other ↦
          omega (
            arith,
            covered holder security live,
            cond-false {A = ℕ} (of == holder && on == security) par 0 other,
          )
    ]

-- so each legal history is covered
pub IsCovered-legal : (history : List Movement) → IsLegal history → IsCovered history
IsCovered-legal =
    by_movements IsCovered (λ holder security live. omega arith)
    (λ before movement legal covered passes holder security live.
    let was = is_redeemed-before security before movement live in
    omega (
      arith,
      takes_free before movement passes covered holder security was,
      pledged-push holder security before movement,
      sum_by_push (taken holder security) before movement,
      sum_by_push (brought holder security) before movement,
    ))

-- the participants, each once
abbrev AreOnce : List ℕ → Type 0
AreOnce participants = AllPairs (λ one other. one ≢ other) participants

-- what a participant is credited has the first credit where it is its own
credited_to-cons : (holder : ℕ) (credit : Credit) (credits : List Credit)
    → credited_to holder (credit ∷ credits)
    ≡ cond (holder == credit.holder) credit.par 0 + credited_to holder credits
credited_to-cons holder credit credits =
    sum_by-filter-cons (λ one. one.par) (λ one. holder == one.holder) credit credits

-- what all participants are credited are all credits
sum_credited : (participants : List ℕ)
    → AreOnce participants
    → (credits : List Credit)
    → All (λ credit. Contains participants credit.holder) credits
    → sum_by (λ holder. credited_to holder credits) participants ≡ credited_in_all credits
sum_credited participants once [] all = sum_by_none participants
sum_credited participants once (credit ∷ credits) all =
    let P : Credit → Type 0 = λ one. Contains participants one.holder in
    let own : ℕ → ℕ = λ holder. cond (holder == credit.holder) credit.par 0 in
    sum_by_agree (λ holder. credited_to holder (credit ∷ credits)) (λ holder. own holder + credited_to holder credits)
    participants (λ holder. credited_to-cons holder credit credits)
    ∙ (sum_by_plus own (λ holder. credited_to holder credits) participants
    ∙ omega (
      arith,
      sum_by_once credit.holder credit.par participants once (All-head P credit credits all),
      sum_credited participants once credits (All-tail P credit credits all),
      sum_by-cons (λ (one : Credit). one.par) credit credits,
    ))

-- what the movement moves of the security between participants
abbrev moves : ℕ → Movement → ℕ
moves security (Settled _ _) = 0
moves security (Transferred from to of par) = cond (security == of) par 0
moves security (Pledged _ _ _ _ _) = 0
moves security (Released _ _ _ _) = 0
moves security (Redeemed _) = 0

-- what a movement brings all participants is issued or moved
sum_brought : (participants : List ℕ)
    → AreOnce participants
    → (security : ℕ) (movement : Movement)
    → Reaches participants movement
    → sum_by (λ holder. brought holder security movement) participants
    ≡ issues security movement + moves security movement
sum_brought participants once security (Settled of credits) reaches =
    let credited : Bool → ℕ → ℕ = λ here holder. cond here (credited_to holder credits) 0 in
    let all : sum_by (credited (security == of)) participants ≡ cond (security == of) (credited_in_all credits) 0 =
    elim (security == of) as (λ here. sum_by (credited here) participants ≡ cond here (credited_in_all credits) 0) [
      | true ↦ sum_credited participants once credits reaches
      | false ↦ sum_by_none participants
    ] in
    omega arith
sum_brought participants once security (Transferred from to of par) reaches =
    let all = sum_by_one to par (security == of) participants once reaches.1 in
    omega arith
sum_brought participants once security (Pledged _ _ _ _ _) reaches = sum_by_none participants
sum_brought participants once security (Released _ _ _ _) reaches = sum_by_none participants
sum_brought participants once security (Redeemed _) reaches = sum_by_none participants

-- and what it takes from them is moved
sum_taken : (participants : List ℕ)
    → AreOnce participants
    → (security : ℕ) (movement : Movement)
    → Reaches participants movement
    → sum_by (λ holder. taken holder security movement) participants ≡ moves security movement
sum_taken participants once security (Settled of credits) reaches = sum_by_none participants
sum_taken participants once security (Transferred from to of par) reaches =
    sum_by_one from par (security == of) participants once reaches.0
sum_taken participants once security (Pledged _ _ _ _ _) reaches = sum_by_none participants
sum_taken participants once security (Released _ _ _ _) reaches = sum_by_none participants
sum_taken participants once security (Redeemed _) reaches = sum_by_none participants

-- a sum over participants and movements is the same in either order
sum_swapped : (participants : List ℕ) (share : ℕ → Movement → ℕ) (whole : Movement → ℕ) (history : List Movement)
    → All (λ movement. sum_by (λ holder. share holder movement) participants ≡ whole movement) history
    → sum_by (λ holder. sum_by (share holder) history) participants ≡ sum_by whole history
sum_swapped participants share whole [] all = sum_by_none participants
sum_swapped participants share whole (movement ∷ history) all =
    let P : Movement → Type 0 = λ one. sum_by (λ holder. share holder one) participants ≡ whole one in
    let rest : ℕ → ℕ = λ holder. sum_by (share holder) history in
    sum_by_agree (λ holder. sum_by (share holder) (movement ∷ history)) (λ holder. share holder movement + rest holder)
    participants (λ holder. sum_by-cons (share holder) movement history)
    ∙ (sum_by_plus (λ holder. share holder movement) rest participants
    ∙ omega (
      arith,
      All-head P movement history all,
      sum_swapped participants share whole history (All-tail P movement history all),
      sum_by-cons whole movement history,
    ))

-- what all participants have left of a security that isn't redeemed
sum_balance : (participants : List ℕ) (history : List Movement)
    → IsLegal history
    → AreParticipants participants history
    → (security : ℕ)
    → is_redeemed security history ≡ false
    → sum_by (λ holder. balance holder security history) participants ≡ issued security history
sum_balance participants history legal are security live =
    let came = sum_swapped participants (λ holder. brought holder security)
    (λ movement. issues security movement + moves security movement) history
    (λ k d short. sum_brought participants are.once security _ (are.all k d short)) in
    let went = sum_swapped participants (λ holder. taken holder security) (moves security) history
    (λ k d short. sum_taken participants are.once security _ (are.all k d short)) in
    let both = sum_by_plus (issues security) (moves security) history in
    let less = sum_by_minus
    (λ holder. all_brought holder security history) (λ holder. all_taken holder security history)
    (λ holder. let covered = IsCovered-legal history legal holder security live in omega arith) participants in
    omega arith

-- nothing is held of a redeemed security
pub held-redeemed : (history : List Movement) (holder security : ℕ)
    → is_redeemed security history ≡ true
    → held holder security history ≡ 0
held-redeemed history holder security redeemed =
    cond-true {A = ℕ} (is_redeemed security history) 0 (balance holder security history) redeemed

-- what all participants hold is what is issued and not redeemed
sum_held : (participants : List ℕ) (history : List Movement)
    → IsLegal history
    → AreParticipants participants history
    → (security : ℕ)
    → sum_by (λ holder. held holder security history) participants ≡ outstanding security history
sum_held participants history legal are security =
    let redeemed : Bool = is_redeemed security history in
    elim (cases_Bool redeemed) [
      | inl is ↦
          sum_by_zero (λ holder. held holder security history) participants
          (λ holder. held-redeemed history holder security is)
          ∙ sym (cond-true {A = ℕ} redeemed 0 (issued security history) is)
      | inr live ↦
          sum_by_agree (λ holder. held holder security history) (λ holder. balance holder security history) participants
          (λ holder. cond-false {A = ℕ} redeemed 0 (balance holder security history) live)
          ∙ sum_balance participants history legal are security live
          ∙ sym (cond-false {A = ℕ} redeemed 0 (issued security history) live)
    ]

-- a movement that passes issues nothing of a redeemed security
issues-none : (before : List Movement) (movement : Movement)
    → Passes before movement
    → (security : ℕ)
    → is_redeemed security before ≡ true
    → issues security movement ≡ 0
issues-none before (Settled of credits) passes security redeemed =
    elim (cases_Bool (security == of)) [
      | inl own ↦
          let said : true ≡ false =
          sym redeemed ∙ (ap (λ s. is_redeemed s before) (eqb-true security of own) ∙ passes) in
          absurd (cc)
      | inr other ↦ cond-false {A = ℕ} (security == of) (credited_in_all credits) 0 other
    ]
issues-none before (Transferred _ _ _ _) passes security redeemed = refl
issues-none before (Pledged _ _ _ _ _) passes security redeemed = refl
issues-none before (Released _ _ _ _) passes security redeemed = refl
issues-none before (Redeemed _) passes security redeemed = refl

-- what redeems the security is its redemption
redeems-is : (security : ℕ) (movement : Movement) → redeems security movement ≡ true → movement ≡ Redeemed security
redeems-is security (Settled of credits) is = absurd (cc)
redeems-is security (Transferred _ _ _ _) is = absurd (cc)
redeems-is security (Pledged _ _ _ _ _) is = absurd (cc)
redeems-is security (Released _ _ _ _) is = absurd (cc)
redeems-is security (Redeemed of) is = ap (λ s. Redeemed s) (sym (eqb-true security of is))

-- all that was ever issued of the security, if it was redeemed, was issued before
abbrev WasIssuedBefore : ℕ → List Movement → Type 0
WasIssuedBefore security history =
    is_redeemed security history ≡ true
    → issued security (before_redemption security history) ≡ issued security history

-- of each legal history
issued-before : (security : ℕ) (history : List Movement) → IsLegal history → WasIssuedBefore security history
issued-before security =
    by_movements (WasIssuedBefore security) (λ redeemed. refl)
    (λ before movement legal so_far passes redeemed.
    elim (cases_Bool (is_redeemed security before)) [
      | inl was ↦
          ap (issued security) (before_redemption-stays security before movement was)
          ∙ omega (
            arith,
            so_far was,
            sum_by_push (issues security) before movement,
            issues-none before movement passes security was,
          )
      | inr live ↦
          let now : redeems security movement ≡ true = sym (is_redeemed-now security before movement live) ∙ redeemed in
          let Q : Movement → Type 0 = λ one.
          issued security (before_redemption security (before ++ one ∷ [])) ≡ issued security (before ++ one ∷ []) in
          subst Q (sym (redeems-is security movement now))
          (ap (issued security) (before_redemption-now security before live)
          ∙ omega (arith, sum_by_push (issues security) before (Redeemed security)))
    ])

-- what all participants were paid is all that was issued
sum_paid : (participants : List ℕ) (history : List Movement)
    → IsLegal history
    → AreParticipants participants history
    → (security : ℕ)
    → is_redeemed security history ≡ true
    → sum_by (λ holder. paid holder security history) participants ≡ issued security history
sum_paid participants history legal are security redeemed =
    let n : ℕ = prefix_len (λ movement. not (redeems security movement)) history in
    let front : List Movement = before_redemption security history in
    let live : is_redeemed security front ≡ false = list_any-take_while (redeems security) history in
    let reached : All (Reaches participants) front = All-take (Reaches participants) n history are.all in
    sum_by_agree (λ holder. paid holder security history) (λ holder. held holder security front) participants
    (λ holder. cond-true {A = ℕ} (is_redeemed security history) (held holder security front) 0 redeemed)
    ∙ sum_held participants front (IsLegal-take n history legal) (record { once = are.once; all = reached }) security
    ∙ cond-false {A = ℕ} (is_redeemed security front) 0 (issued security front) live
    ∙ issued-before security history legal redeemed

-- nobody has pledged more than it holds
pledged-le-held : (history : List Movement)
    → IsLegal history
    → (holder security : ℕ) → pledged holder security history ≤ held holder security history
pledged-le-held history legal holder security =
    elim (cases_Bool (is_redeemed security history)) [
      | inl redeemed ↦ omega (arith, pledged-none holder security history redeemed)
      | inr live ↦
          omega (
            arith,
            IsCovered-legal history legal holder security live,
            cond-false {A = ℕ} (is_redeemed security history) 0 (balance holder security history) live,
          )
    ]

-- par is conserved
pub IsConserved-legal : Conservation
IsConserved-legal participants history legal are = record {
  holdings = sum_held participants history legal are;
  payments = sum_paid participants history legal are;
  covered = pledged-le-held history legal;
}
