-- What is asked of a command, and what it is asked by.
use Rattle.std.proofs.Common.{◌≡◌, ◌<◌, List, [], ◌∷◌, ◌++◌, map, length, get_or, subst, sym, ◌∙◌, arith}
use Rattle.std.specs.Prelude.{All, Any}
use Rattle.std.proofs.lemmas.List.{get_or-map, get_or_default, length-map}
use Rattle.std.proofs.lemmas.List.Elements.{All-cons, All-head, All-nil, All-tail}
use Rattle.tb_units.proofs.ListLemmas.{All-back, All-front}
use Rattle.tb_disk.specs.Disks.{DiskState}
use Rattle.tb_message.specs.declared.message.Entry.{Entry}
use Rattle.tb_commands.specs.DiskRun.{Stays}
use Rattle.tb_commands.specs.Standings.{Standing}
use Rattle.tb_host.specs.Headline.{OneHistory, Wording}

-- what holds of what an element is made of holds so of the element
pub Any-map : {A B : Type 0} (f : A → B) (P : B → Type 0) (xs : List A) → Any P (map f xs) → Any (λ x. P (f x)) xs
Any-map f P [] some = absurd (omega (arith, some.2))
Any-map {A} {B} f P (x ∷ xs) some =
    let within : some.0 < length (x ∷ xs) = omega (arith, some.2, length-map (x ∷ xs) f) in
    let y : A = get_or (x ∷ xs) some.0 x in
    let same : f y ≡ some.1 = sym (get_or-map f (x ∷ xs) some.0 x some.1 within) ∙ some.3 in
    (some.0, y, within, get_or_default (x ∷ xs) some.0 y x within, subst P (sym same) some.4)

-- so of each entry
pub each-map : {A B : Type 0} (f : A → B) (P : Entry → B → Type 0) (asked : List A) (from : List B)
    (entries : List Entry)
    → from ≡ map f asked
    → All (λ e. Any (P e) from) entries
    → All (λ e. Any (λ one. P e (f one)) asked) entries
each-map f P asked from [] same own = All-nil (λ e. Any (λ one. P e (f one)) asked)
each-map {A} {B} f P asked from (e ∷ entries) same own =
    All-cons (λ x. Any (λ one. P x (f one)) asked) e entries
    (Any-map f (P e) asked
    (subst (λ (list : List B). Any (P e) list) same (All-head (λ x. Any (P x) from) e entries own)))
    (each-map f P asked from entries same (All-tail (λ x. Any (P x) from) e entries own))

-- One history, of what was answered in it, with what was added and what is in doubt.
pub OneHistory-here : {A : Type 0} (words : Wording A) (disk : DiskState) (first last : Standing) (more : List Entry)
    (asked : List A)
    → Stays last disk
    → All (words.answered first.history last.history) asked
    → All (λ e. Any (words.added last.history e) asked) (more ++ last.doubt)
    → ((e : Entry) → Any (words.added last.history e) asked → Any (words.doubted last.history e) asked)
    → OneHistory words first last more asked
OneHistory-here words disk first last more asked stays answered own alike = record {
  legal = stays.legal;
  answered = answered;
  own = All-front (λ e. Any (words.added last.history e) asked) more last.doubt own;
  doubted = λ k d within.
      alike (get_or last.doubt k d)
      (All-back (λ e. Any (words.added last.history e) asked) more last.doubt own k d within);
}
