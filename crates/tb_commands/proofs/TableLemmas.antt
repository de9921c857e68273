-- Tables of bids that are read from the input.
use Rattle.std.proofs.Common.{◌≡◌, ◌⊎◌, ℕ, ◌+◌, ◌<◌, ◌≤◌, List, [], ◌++◌, length, Option, Some, None, inl, inr, sym, subst, ap, ◌∙◌, refl, arith, append_assoc, append-nil}
use Rattle.std.specs.Prelude.{IfSome}
use Rattle.std.proofs.lemmas.List.{length-append}
use Rattle.tb_link.specs.Sources.{SourceState, before_left}
use Rattle.tb_message.specs.declared.message.Message.{Message}
use Rattle.tb_core.specs.House.{IsBid}
use Rattle.tb_desk.specs.Turn.{AreBids, AreNumbered}
use Rattle.tb_import.specs.Tables.{IsFirstBad, IsTable, most_bytes}
use Rattle.tb_import.proofs.CallerLemmas.{table-sound}
use Rattle.tb_lines.specs.Reads.{ReadsToEnd, ReadsWithoutFault}
use Rattle.tb_commands.specs.TableInput.{HasRows, HasText}
use Rattle.tb_lines.specs.Told.{WhereTold}

-- the messages of a table can be sent as bids
sendable : (bytes : List ℕ) (rows : List (ℕ × Message)) → IsTable bytes rows → AreBids rows × AreNumbered rows
sendable = table-sound IsBid (λ auction bidder rate amount. tt)

-- what is told of the bytes that are left
told-left : (front : List ℕ) (old left : Option (List ℕ)) (bytes : List ℕ)
    → old ≡ before_left front left
    → old ≡ Some bytes
    → (rest : List ℕ) × (left ≡ Some rest) × (bytes ≡ front ++ rest)
told-left front old None bytes is told = absurd (let none : None ≡ Some bytes = sym is ∙ told in cc)
told-left front old (Some rest) bytes is told =
    (rest, refl, (let same : Some bytes ≡ Some (front ++ rest) = sym told ∙ is in cc))

-- nothing before what is left
pub before_left-nothing : (left : Option (List ℕ)) → left ≡ before_left [] left
before_left-nothing None = refl
before_left-nothing (Some rest) = refl

-- one piece before another
before_left-more : (one other : List ℕ) (left : Option (List ℕ))
    → before_left one (before_left other left) ≡ before_left (one ++ other) left
before_left-more one other None = refl
before_left-more one other (Some rest) = ap Some (sym (append_assoc one other rest))

-- a piece more was read
pub read-more : (old mid new : Option (List ℕ)) (text piece text' : List ℕ)
    → old ≡ before_left text mid
    → mid ≡ before_left piece new
    → text' ≡ text ++ piece
    → old ≡ before_left text' new
read-more old mid new text piece text' first second more =
    first
    ∙ (ap (before_left text) second
    ∙ (before_left-more text piece new ∙ ap (λ (t : List ℕ). before_left t new) (sym more)))

-- each read gave a byte of the text so far, and then there was at most one more
pub ReadsToEnd-text : (before now after : ℕ) (text : List ℕ) (old left : Option (List ℕ))
    → old ≡ before_left text left
    → now ≤ before + length text
    → after ≤ now + 1
    → WhereTold old (ReadsToEnd before after)
ReadsToEnd-text before now after text old left is few one = λ bytes told.
    let parts = told-left text old left bytes is told in
    omega (arith, ap length parts.2, length-append text parts.0)

-- the input was read to its end
pub HasText-end : (text : List ℕ) (input input' : SourceState)
    → input.left ≡ before_left text input'.left
    → IfSome input'.left (λ left. left ≡ [])
    → HasText text input input'
HasText-end text input input' is none = λ bytes told.
    let parts = told-left text input.left input'.left bytes is told in (
      parts.0,
      parts.1,
      parts.2,
      inl (subst (λ (left : Option (List ℕ)). IfSome left (λ rest. rest ≡ [])) parts.1 none),
    )

-- or more of it than a table may have
pub HasText-long : (text : List ℕ) (input input' : SourceState)
    → input.left ≡ before_left text input'.left
    → most_bytes < length text
    → HasText text input input'
HasText-long text input input' is long = λ bytes told.
    let parts = told-left text input.left input'.left bytes is told in
    (parts.0, parts.1, parts.2, inr long)

-- the text of the input is a table, and so the input is
pub HasRows-text : (text : List ℕ) (input input' : SourceState) (rows : List (ℕ × Message))
    → HasText text input input'
    → IsTable text rows
    → input'.faults ≡ input.faults
    → HasRows input input' rows
HasRows-text text input input' rows has table same = record {
  table = record { no_fault = same; told = λ bytes told. whole bytes (has bytes told) };
  bids = (sendable text rows table).0;
  numbered = (sendable text rows table).1;
}
  where
    whole : (bytes : List ℕ)
        → (rest : List ℕ) × (input'.left ≡ Some rest) × (bytes ≡ text ++ rest)
        × ((rest ≡ []) ⊎ (most_bytes < length text))
        → IsTable bytes rows × (input'.left ≡ Some [])
    whole bytes parts = elim parts.3 [
      | inl none ↦ (
        subst (λ (b : List ℕ). IsTable b rows)
            (sym (parts.2 ∙ (ap (λ (r : List ℕ). text ++ r) none ∙ append-nil text))) table,
        parts.1 ∙ ap Some none,
      )
      | inr long ↦ absurd (omega (arith, long, table.few_bytes))
    ]

-- so is its first bad record
pub IsFirstBad-text : (text : List ℕ) (input input' : SourceState) (record_at : ℕ)
    → HasText text input input'
    → IsFirstBad text record_at
    → input'.faults ≡ input.faults
    → ReadsWithoutFault input input' (λ bytes. IsFirstBad bytes record_at)
IsFirstBad-text text input input' record_at has bad same =
    record { no_fault = same; told = λ bytes told. whole bytes (has bytes told) }
  where
    whole : (bytes : List ℕ)
        → (rest : List ℕ) × (input'.left ≡ Some rest) × (bytes ≡ text ++ rest)
        × ((rest ≡ []) ⊎ (most_bytes < length text))
        → IsFirstBad bytes record_at
    whole bytes parts = elim parts.3 [
      | inl none ↦ subst (λ (b : List ℕ). IsFirstBad b record_at)
          (sym (parts.2 ∙ (ap (λ (r : List ℕ). text ++ r) none ∙ append-nil text))) bad
      | inr long ↦ elim bad [
        | inl header ↦ inl (
          inl (omega (arith, long, ap length parts.2, length-append text parts.0)),
          header.1,
        )
        | inr row ↦ absurd (omega (arith, long, row.few_bytes))
      ]
    ]
