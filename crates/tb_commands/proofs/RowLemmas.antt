-- The lines of rows, one after another.
use Rattle.std.proofs.Common.{◌≡◌, ℕ, zero, suc, ◌+◌, ◌<◌, List, [], ◌∷◌, ◌++◌, length, length-take, map, take, get_or, Option, Some, sym, subst, ap, ◌∙◌, refl, arith, append_assoc}
use Rattle.std.proofs.lemmas.List.{append-nil, take_more}
use Rattle.tb_message.specs.declared.verdict.Verdict.{Verdict}
use Rattle.tb_commands.specs.ImportRun.{SentRow, row_line, verdict_lines}
use Rattle.tb_commands.specs.Turns.{told}

-- the first elements with the next one
taken-next : {X : Type 0} (list : List X) (at : ℕ) (one : X)
    → at < length list
    → one ≡ get_or list at one
    → take (at + 1) list ≡ take at list ++ one ∷ []
taken-next {X} list at one within is =
    take_more list at one within ∙ ap (λ (x : X). take at list ++ x ∷ []) (sym is)

-- one more row and its verdict have their line behind those before them
verdict_lines-push : (rows : List SentRow) (given : List Verdict) (row : SentRow) (said : Verdict)
    → length given ≡ length rows
    → verdict_lines (rows ++ row ∷ []) (given ++ said ∷ []) ≡ verdict_lines rows given ++ row_line row (told said)
verdict_lines-push [] [] row said same = append-nil (row_line row (told said))
verdict_lines-push [] (one ∷ given) row said same = absurd (omega (arith, same))
verdict_lines-push (first ∷ rows) [] row said same = absurd (omega (arith, same))
verdict_lines-push (first ∷ rows) (one ∷ given) row said same =
    ap (λ (t : List ℕ). row_line first (told one) ++ t) (verdict_lines-push rows given row said (omega (arith, same)))
    ∙ sym (append_assoc (row_line first (told one)) (verdict_lines rows given) (row_line row (told said)))

-- the first places hold the verdicts
pub place-holds : (given : List Verdict) (rest : List (Option Verdict)) (at : ℕ) (found : Option Verdict)
    → at < length given
    → found ≡ get_or (map Some given ++ rest) at found
    → (said : Verdict) × (found ≡ Some said) × (said ≡ get_or given at said)
place-holds [] rest at found within is = absurd (omega (arith, within))
place-holds (one ∷ given) rest zero found within is = (one, is, refl)
place-holds (one ∷ given) rest (suc at) found within is =
    place-holds given rest at found (omega (arith, within)) is

-- what was read of the places is held by the list that they are
pub holds-at : (places all : List (Option Verdict)) (at : ℕ) (found : Option Verdict) (said : Verdict)
    → found ≡ get_or places at found
    → places ≡ all
    → found ≡ Some said
    → Some said ≡ get_or all at (Some said)
holds-at places all at found said read same is =
    subst (λ (f : Option Verdict). f ≡ get_or all at f) is
    (subst (λ (p : List (Option Verdict)). found ≡ get_or p at found) same read)

-- behind the lines of the rows before it a row has the line of the verdict in its place
pub record PutsLine (before : List ℕ) (rows : List SentRow) (given : List Verdict) (rest : List (Option Verdict))
    (at : ℕ) (row : SentRow) (said : Verdict) (text text' : List ℕ) : Type 0
  where
    pub within : at < length rows
    pub many : length given ≡ length rows
    pub row_is : row ≡ get_or rows at row
    pub said_is : Some said ≡ get_or (map Some given ++ rest) at (Some said)
    pub so_far : text ≡ before ++ verdict_lines (take at rows) (take at given)
    pub line : text' ≡ text ++ row_line row (told said)

-- so the text has the lines of one row more
pub verdict_lines-next : (before : List ℕ) (rows : List SentRow) (given : List Verdict) (rest : List (Option Verdict))
    (at : ℕ) (row : SentRow) (said : Verdict) (text text' : List ℕ)
    → PutsLine before rows given rest at row said text text'
    → text' ≡ before ++ verdict_lines (take (at + 1) rows) (take (at + 1) given)
verdict_lines-next before rows given rest at row said text text' puts =
    let below : at < length given = omega (arith, puts.within, puts.many) in
    let held = place-holds given rest at (Some said) below puts.said_is in
    let one : said ≡ held.0 = (let some : Some said ≡ Some held.0 = held.1 in cc) in
    let says : said ≡ get_or given at said = (let there = held.2 in cc) in
    let long : length (take at given) ≡ length (take at rows) =
    omega (arith, length-take at given, length-take at rows, puts.within, below) in
    puts.line
    ∙ (ap (λ (t : List ℕ). t ++ row_line row (told said)) puts.so_far
    ∙ (append_assoc before (verdict_lines (take at rows) (take at given)) (row_line row (told said))
    ∙ (ap (λ (t : List ℕ). before ++ t) (sym (verdict_lines-push (take at rows) (take at given) row said long))
    ∙ (ap (λ (r : List SentRow). before ++ verdict_lines r (take at given ++ said ∷ []))
    (sym (taken-next rows at row puts.within puts.row_is))
    ∙ ap (λ (g : List Verdict). before ++ verdict_lines (take (at + 1) rows) g)
    (sym (taken-next given at said below says))))))
