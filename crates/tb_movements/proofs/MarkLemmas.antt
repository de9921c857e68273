-- What is left of the marks, and what is pledged, as a history grows.
use Rattle.std.proofs.Common.{◌≡◌, ℕ, ◌+◌, ◌-◌, ◌≤◌, Bool, true, false, cond, if◌then◌else◌, ◌&&◌, ◌||◌, ◌==◌, List, [], ◌∷◌, ◌++◌, Option, None, Some, find, sum_by, refl, ap, ap₂, sym, ◌∙◌, inl, inr, subst, append-nil, arith, eqb-true}
use Rattle.std.specs.Prelude.{filter_map, IsSomeAnd}
use Rattle.std.proofs.lemmas.Bool.{cases_Bool, cond-true, cond-false, and_parts}
use Rattle.std.proofs.lemmas.List.Elements.{filter_map-append}
use Rattle.std.proofs.lemmas.List.Sums.{sum_by_push, sum_by-le-sum_by}
use Rattle.tb_units.proofs.PlaceLemmas.{find-append_some}
use Rattle.tb_units.proofs.SumLemmas.{sum_by-filter}
use Rattle.tb_movements.specs.Movements.{Movement, Settled, Transferred, Pledged, Released, Redeemed, redeems}
use Rattle.tb_movements.specs.Holdings.{is_redeemed}
use Rattle.tb_movements.specs.Marks.{Mark, mark_made, marks, releases, released_of, left_of, is_named, is_on, mark_of, pledged}
use Rattle.tb_movements.specs.Legal.{Passes, IsLegal}
use Rattle.tb_movements.proofs.SumLemmas.{sum_by_zero}
use Rattle.tb_movements.proofs.HistoryLemmas.{by_movements, or_false, is_redeemed-before, is_redeemed-push}

-- the mark that a pledge makes
abbrev pub made : ℕ → ℕ → ℕ → ℕ → ℕ → Mark
made holder number pledgee security par =
    record { holder = holder; number = number; pledgee = pledgee; security = security; par = par }

-- a movement that makes none leaves the marks
pub marks-same : (history : List Movement) (movement : Movement)
    → mark_made movement ≡ None
    → marks (history ++ movement ∷ []) ≡ marks history
marks-same history movement none =
    filter_map-append mark_made history (movement ∷ [])
    ∙ ap (λ new. marks history ++ filter_map (λ (m : Option Mark). m) (new ∷ [])) none
    ∙ append-nil (marks history)

-- a pledge adds its mark
pub marks-pledged : (history : List Movement) (holder number pledgee security par : ℕ)
    → marks (history ++ Pledged holder number pledgee security par ∷ [])
    ≡ marks history ++ made holder number pledgee security par ∷ []
marks-pledged history holder number pledgee security par =
    filter_map-append mark_made history (Pledged holder number pledgee security par ∷ [])

-- what is left of a mark, by whether its security was redeemed and what was released
abbrev remaining : ℕ → Bool → ℕ → ℕ
remaining par redeemed released = cond redeemed 0 (par - released)

-- less is left of a mark as the history grows
pub left_of-le : (history : List Movement) (movement : Movement) (mark : Mark)
    → left_of (history ++ movement ∷ []) mark ≤ left_of history mark
left_of-le history movement mark =
    let more : List Movement = history ++ movement ∷ [] in
    let released : ℕ = released_of mark.holder mark.number history in
    let later : ℕ = released_of mark.holder mark.number more in
    let sum = sum_by_push (releases mark.holder mark.number) history movement in
    elim (cases_Bool (is_redeemed mark.security more)) [
      | inl redeemed ↦ omega (arith, cond-true {A = ℕ} _ 0 (mark.par - later) redeemed)
      | inr live ↦
          let before = is_redeemed-before mark.security history movement live in
          omega (
            arith,
            sum,
            cond-false {A = ℕ} _ 0 (mark.par - later) live,
            cond-false {A = ℕ} _ 0 (mark.par - released) before,
          )
    ]

-- at most what was pledged is left
left_of-le-par : (history : List Movement) (mark : Mark) → left_of history mark ≤ mark.par
left_of-le-par history mark =
    let released : ℕ = released_of mark.holder mark.number history in
    elim (is_redeemed mark.security history) as (λ redeemed. remaining mark.par redeemed released ≤ mark.par) [
      | true ↦ omega arith
      | false ↦ omega arith
    ]

-- a movement that releases nothing of the mark and doesn't redeem its security leaves it
pub left_of-same : (history : List Movement) (movement : Movement) (mark : Mark)
    → redeems mark.security movement ≡ false
    → releases mark.holder mark.number movement ≡ 0
    → left_of (history ++ movement ∷ []) mark ≡ left_of history mark
left_of-same history movement mark live none =
    let more : List Movement = history ++ movement ∷ [] in
    let released : ℕ = released_of mark.holder mark.number history in
    let sum = sum_by_push (releases mark.holder mark.number) history movement in
    let same : released_of mark.holder mark.number more ≡ released = omega arith in
    ap (remaining mark.par (is_redeemed mark.security more)) same
    ∙ ap (λ redeemed. remaining mark.par redeemed released)
    (is_redeemed-push mark.security history movement
    ∙ ap (λ redeemed. is_redeemed mark.security history || redeemed) live
    ∙ or_false (is_redeemed mark.security history))

-- what is left where par more was released
remaining-less : (par released later more : ℕ) (redeemed : Bool)
    → later ≡ released + more
    → remaining par redeemed later ≡ remaining par redeemed released - more
remaining-less par released later more true is = omega arith
remaining-less par released later more false is = omega arith

-- a release takes so much from the mark that it names
pub left_of-released : (history : List Movement) (holder number caller par : ℕ) (mark : Mark)
    → left_of (history ++ Released holder number caller par ∷ []) mark
    ≡ (if is_named holder number mark then left_of history mark - par else left_of history mark)
left_of-released history holder number caller par mark =
    let movement : Movement = Released holder number caller par in
    let more : List Movement = history ++ movement ∷ [] in
    let redeemed : Bool = is_redeemed mark.security history in
    let released : ℕ = released_of mark.holder mark.number history in
    let later : ℕ = released_of mark.holder mark.number more in
    let named : Bool = is_named holder number mark in
    let left : ℕ = left_of history mark in
    let sum = sum_by_push (releases mark.holder mark.number) history movement in
    let same : is_redeemed mark.security more ≡ redeemed =
    is_redeemed-push mark.security history movement ∙ or_false redeemed in
    ap (λ r. remaining mark.par r later) same
    ∙ elim (cases_Bool named) [
      | inl own ↦
          let all : later ≡ released + par = omega (arith, sum, cond-true {A = ℕ} named par 0 own) in
          remaining-less mark.par released later par redeemed all ∙ sym (cond-true named (left - par) left own)
      | inr other ↦
          let all : later ≡ released = omega (arith, sum, cond-false {A = ℕ} named par 0 other) in
          ap (remaining mark.par redeemed) all ∙ sym (cond-false named (left - par) left other)
    ]

-- what is left where the security may be redeemed now
remaining-redeemed : (par released : ℕ) (before now : Bool)
    → remaining par (before || now) released ≡ cond now 0 (remaining par before released)
remaining-redeemed par released true true = refl
remaining-redeemed par released true false = refl
remaining-redeemed par released false true = refl
remaining-redeemed par released false false = refl

-- a redemption leaves nothing of the marks of the security
pub left_of-redeemed : (history : List Movement) (security : ℕ) (mark : Mark)
    → left_of (history ++ Redeemed security ∷ []) mark
    ≡ (if mark.security == security then 0 else left_of history mark)
left_of-redeemed history security mark =
    let movement : Movement = Redeemed security in
    let more : List Movement = history ++ movement ∷ [] in
    let released : ℕ = released_of mark.holder mark.number history in
    let sum = sum_by_push (releases mark.holder mark.number) history movement in
    let none : released_of mark.holder mark.number more ≡ released = omega arith in
    ap (remaining mark.par (is_redeemed mark.security more)) none
    ∙ ap (λ redeemed. remaining mark.par redeemed released) (is_redeemed-push mark.security history movement)
    ∙ remaining-redeemed mark.par released (is_redeemed mark.security history) (mark.security == security)

-- what the mark adds to what is pledged of the holder's par of the security
abbrev pub pledged_part : ℕ → ℕ → List Movement → Mark → ℕ
pledged_part holder security history mark = cond (is_on holder security mark) (left_of history mark) 0

-- what is pledged is the sum of these parts
pub pledged-parts : (holder security : ℕ) (history : List Movement)
    → pledged holder security history ≡ sum_by (pledged_part holder security history) (marks history)
pledged-parts holder security history = sum_by-filter (left_of history) (is_on holder security) (marks history)

-- what the movement pledges
abbrev pub pledges : ℕ → ℕ → Movement → ℕ
pledges holder security (Settled _ _) = 0
pledges holder security (Transferred _ _ _ _) = 0
pledges holder security (Pledged of number pledgee on par) = cond (of == holder && on == security) par 0
pledges holder security (Released _ _ _ _) = 0
pledges holder security (Redeemed _) = 0

-- the marks that stand pledge no more as the history grows
parts-le : (holder security : ℕ) (history : List Movement) (movement : Movement) (standing : List Mark)
    → sum_by (pledged_part holder security (history ++ movement ∷ [])) standing
    ≤ sum_by (pledged_part holder security history) standing
parts-le holder security history movement standing =
    let more : List Movement = history ++ movement ∷ [] in
    sum_by-le-sum_by (pledged_part holder security more) (pledged_part holder security history) standing
    (λ mark. elim (is_on holder security mark) as
    (λ on. cond on (left_of more mark) 0 ≤ cond on (left_of history mark) 0) [
      | true ↦ left_of-le history movement mark
      | false ↦ omega arith
    ])

-- a movement that makes no mark pledges no more
pledged-same : (holder security : ℕ) (history : List Movement) (movement : Movement)
    → mark_made movement ≡ None
    → pledged holder security (history ++ movement ∷ []) ≤ pledged holder security history
pledged-same holder security history movement none =
    let more : List Movement = history ++ movement ∷ [] in
    omega (
      arith,
      pledged-parts holder security history,
      pledged-parts holder security more,
      parts-le holder security history movement (marks history),
      ap (sum_by (pledged_part holder security more)) (marks-same history movement none),
    )

-- at most what the movement pledges comes to what is pledged
pub pledged-push : (holder security : ℕ) (history : List Movement) (movement : Movement)
    → pledged holder security (history ++ movement ∷ [])
    ≤ pledged holder security history + pledges holder security movement
pledged-push holder security history (Settled of credits) =
    omega (arith, pledged-same holder security history (Settled of credits) refl)
pledged-push holder security history (Transferred from to of par) =
    omega (arith, pledged-same holder security history (Transferred from to of par) refl)
pledged-push holder security history (Released of number caller par) =
    omega (arith, pledged-same holder security history (Released of number caller par) refl)
pledged-push holder security history (Redeemed of) =
    omega (arith, pledged-same holder security history (Redeemed of) refl)
pledged-push holder security history (Pledged of number pledgee on par) =
    let movement : Movement = Pledged of number pledgee on par in
    let more : List Movement = history ++ movement ∷ [] in
    let new : Mark = made of number pledgee on par in
    let part : Mark → ℕ = pledged_part holder security more in
    let last : part new ≤ cond (of == holder && on == security) par 0 =
    elim (of == holder && on == security) as (λ here. cond here (left_of more new) 0 ≤ cond here par 0) [
      | true ↦ left_of-le-par more new
      | false ↦ omega arith
    ] in
    omega (
      arith,
      pledged-parts holder security history,
      pledged-parts holder security more,
      parts-le holder security history movement (marks history),
      ap (sum_by part) (marks-pledged history of number pledgee on par),
      sum_by_push part (marks history) new,
      last,
    )

-- nothing is left of a mark of a redeemed security
left_of-none : (history : List Movement) (security : ℕ) (mark : Mark)
    → is_redeemed security history ≡ true
    → (mark.security == security) ≡ true
    → left_of history mark ≡ 0
left_of-none history security mark redeemed of =
    let gone : is_redeemed mark.security history ≡ true =
    ap (λ s. is_redeemed s history) (eqb-true mark.security security of) ∙ redeemed in
    cond-true {A = ℕ} (is_redeemed mark.security history) 0
    (mark.par - released_of mark.holder mark.number history) gone

-- nothing is pledged of a redeemed security
pub pledged-none : (holder security : ℕ) (history : List Movement)
    → is_redeemed security history ≡ true
    → pledged holder security history ≡ 0
pledged-none holder security history redeemed =
    pledged-parts holder security history
    ∙ sum_by_zero (pledged_part holder security history) (marks history)
    (λ mark. elim (cases_Bool (is_on holder security mark)) [
      | inl on ↦
          let parts = and_parts (mark.holder == holder) (mark.security == security) on in
          cond-true (is_on holder security mark) (left_of history mark) 0 on
          ∙ left_of-none history security mark redeemed parts.1
      | inr off ↦ cond-false (is_on holder security mark) (left_of history mark) 0 off
    ])

-- what isn't found in a list isn't found in its front
front_none : {X : Type 0} (p : X → Bool) (front back : List X) (found : Option X)
    → find p front ≡ found
    → find p (front ++ back) ≡ None
    → find p front ≡ None
front_none p front back None is none = is
front_none p front back (Some x) is none =
    let both : Some x ≡ None = sym (find-append_some p front back x is) ∙ none in absurd (cc)

-- a mark that isn't there wasn't before
mark_of-before : (holder number : ℕ) (history : List Movement) (movement : Movement)
    → mark_of holder number (history ++ movement ∷ []) ≡ None
    → mark_of holder number history ≡ None
mark_of-before holder number history movement none =
    front_none (is_named holder number) (marks history) (filter_map mark_made (movement ∷ []))
    (mark_of holder number history) refl
    (sym (ap (find (is_named holder number)) (filter_map-append mark_made history (movement ∷ []))) ∙ none)

-- a movement that passes releases nothing of a mark that isn't there
releases_named : (holder number : ℕ) (before : List Movement) (movement : Movement)
    → Passes before movement
    → mark_of holder number before ≡ None
    → releases holder number movement ≡ 0
releases_named holder number before (Settled of credits) passes none = refl
releases_named holder number before (Transferred from to of par) passes none = refl
releases_named holder number before (Pledged of under pledgee on par) passes none = refl
releases_named holder number before (Redeemed of) passes none = refl
releases_named holder number before (Released of under caller par) passes none =
    elim (cases_Bool (holder == of && number == under)) [
      | inl named ↦
          let parts = and_parts (holder == of) (number == under) named in
          let gone : mark_of of under before ≡ None =
          sym (ap₂ (λ h n. mark_of h n before) (eqb-true holder of parts.0) (eqb-true number under parts.1)) ∙ none in
          let Q : Option Mark → Type 0 =
          λ found. IsSomeAnd found (λ mark. (mark.pledgee ≡ caller) × (par ≤ left_of before mark)) in
          absurd (subst Q gone passes)
      | inr other ↦ cond-false {A = ℕ} (holder == of && number == under) par 0 other
    ]

-- nothing was released of a mark that isn't there, so a new mark is whole
pub releases-none : (holder number : ℕ) (history : List Movement)
    → IsLegal history
    → mark_of holder number history ≡ None
    → released_of holder number history ≡ 0
releases-none holder number =
    by_movements
    (λ history. mark_of holder number history ≡ None → released_of holder number history ≡ 0) (λ none. refl)
    (λ before movement legal so_far passes none.
    let was = mark_of-before holder number before movement none in
    omega (
      arith,
      sum_by_push (releases holder number) before movement,
      so_far was,
      releases_named holder number before movement passes was,
    ))
