-- Key words and the names in them.
use Rattle.std.proofs.Common.{◌≡◌, ◌≢◌, [], ◌∷◌, ◌++◌, refl, true, false, Some, None, Option}
use Rattle.std.proofs.Common.{codes, ◌∙◌, ap, sym, subst, inl, inr, take, drop, arith}
use Rattle.std.specs.Prelude.{◌==◌, IfSome, IfNone, unwrap_or}
use Rattle.std.specs.List.{list_all}
use Rattle.std.specs.Str.{bytes_eq}
use Rattle.std.proofs.lemmas.Bool.{cases_Bool}
use Rattle.std.proofs.lemmas.Bool.Decides.{nat_tests}
use Rattle.std.proofs.lemmas.Slice.Eq.{bytes_eq-Decides}
use Rattle.std.proofs.lemmas.List.{take-append-drop}
use Rattle.tb_units.specs.Names.{is_name, is_name_byte}
use Rattle.tb_message.specs.declared.key.Key.{Key}
use Rattle.tb_message.specs.declared.key.Key.TheVariants as key
use Rattle.tb_message.specs.Keys.{key_of}
use Rattle.tb_words.specs.Items.{Text}
use Rattle.tb_words.specs.Commands.{IsKey, key_text}

-- each byte of a name is one that names have
name_bytes : (name : Text) → is_name name ≡ true → list_all is_name_byte name ≡ true
unfolding is_name
name_bytes name named = grind (arith, named)

-- a name doesn't begin with `op:`
unmarked : (name : Text) → list_all is_name_byte name ≡ true → bytes_eq (take 3 name) (codes "op:") ≡ false
unmarked [] bytes = refl
unmarked (a ∷ []) bytes = elim (cases_Bool (a == 111)) [ inl e ↦ rw (e) refl | inr e ↦ rw (e) refl ]
unmarked (a ∷ b ∷ []) bytes = grind (arith, nat_tests)
unmarked (a ∷ b ∷ c ∷ name) bytes = grind (arith, nat_tests, bytes)

-- the text of a key is read as that key
pub key_known : (caller : Key) → IsKey caller → key_of (key_text caller) ≡ Some caller
key_known (key.Submitter name) named = rw (unmarked name (name_bytes name named), named) refl
key_known (key.Operator name) named = rw (named) refl

-- a text that is read as a key is the text of that key
pub key_says : (text : Text) (caller : Key) → key_of text ≡ Some caller → IsKey caller × (text ≡ key_text caller)
key_says text caller read = elim (cases_Bool (bytes_eq (take 3 text) (codes "op:"))) [
  | inl marked ↦ elim (cases_Bool (is_name (drop 3 text))) [
    | inl named ↦
        let same : key.Operator (drop 3 text) ≡ caller =
        ap (λ found. unwrap_or found caller) (rw (marked, named) at read) in
        let front : take 3 text ≡ codes "op:" = (bytes_eq-Decides _ _).0 marked in
        subst (λ k. IsKey k × (text ≡ key_text k)) same
        (named, sym (take-append-drop 3 text) ∙ ap (λ t. t ++ drop 3 text) front)
    | inr other ↦ let bad = rw (marked, other) at read in cc (bad)
  ]
  | inr plain ↦ elim (cases_Bool (is_name text)) [
    | inl named ↦
        let same : key.Submitter text ≡ caller = ap (λ found. unwrap_or found caller) (rw (plain, named) at read) in
        subst (λ k. IsKey k × (text ≡ key_text k)) same (named, refl)
    | inr other ↦ let bad = rw (plain, other) at read in cc (bad)
  ]
]

-- the key that a text is read as
pub key_some : (text : Text) (read : Option Key)
    → read ≡ key_of text
    → IfSome read (λ caller. IsKey caller × (text ≡ key_text caller))
key_some text None is = tt
key_some text (Some caller) is = key_says text caller (sym is)

-- a text that is read as no key is the text of none
pub key_none : (text : Text) (read : Option Key)
    → read ≡ key_of text
    → IfNone read ((caller : Key) → IsKey caller → text ≢ key_text caller)
key_none text (Some caller) is = tt
key_none text None is = λ caller held same.
    let bad : ◌≡◌ {A = Option Key} None (Some caller) = is ∙ ap key_of same ∙ key_known caller held in
    cc (bad)
