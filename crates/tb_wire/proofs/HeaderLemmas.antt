-- Headers by name, one after the other.
use Rattle.std.proofs.Common.{◌≡◌, ℕ, ◌+◌, ◌<◌, List, [], ◌∷◌, ◌++◌, length, get_or, take, map, true, false, Bool, refl, ap, sym, ◌∙◌, subst, arith}
use Rattle.std.specs.Prelude.{◌||◌, zero, suc}
use Rattle.std.specs.List.{filter, list_any}
use Rattle.std.proofs.lemmas.List.{take_more, map-append, append-nil}
use Rattle.std.proofs.lemmas.List.Elements.{filter-append}
use Rattle.httparse.specs.Spans.{header_bytes}
use Rattle.httparse.specs.declared.spans.HeaderSpan.{HeaderSpan}
use Rattle.std.proofs.lemmas.List.Folds.{list_any-append}
use Rattle.tb_wire.specs.Headers.{is_word, values_of, closes, Stands}
use Rattle.tb_wire.specs.declared.headers.Standing.{Standing}

-- a header of another name adds no value
other_value : (name : List ℕ) (header : List ℕ × List ℕ)
    → is_word name header.0 ≡ false
    → values_of name (header ∷ []) ≡ []
other_value name header other = rw (other) refl

-- and one of the name its value
named_value : (name : List ℕ) (header : List ℕ × List ℕ) → is_word name header.0 ≡ true
    → values_of name (header ∷ []) ≡ header.1 ∷ []
named_value name header named = rw (named) refl

-- the values of one list of headers, then those of the other
values_of-append : (name : List ℕ) (xs ys : List (List ℕ × List ℕ))
    → values_of name (xs ++ ys) ≡ values_of name xs ++ values_of name ys
values_of-append name xs ys =
    ap (map (λ (h : List ℕ × List ℕ). h.1)) (filter-append (λ (h : List ℕ × List ℕ). is_word name h.0) xs ys)
    ∙ map-append (λ (h : List ℕ × List ℕ). h.1) (filter (λ (h : List ℕ × List ℕ). is_word name h.0) xs)
    (filter (λ (h : List ℕ × List ℕ). is_word name h.0) ys)

-- the values of the headers up to one, and its own
pub values_of-push : (name text : List ℕ) (before more : List HeaderSpan) (header : HeaderSpan)
    → more ≡ before ++ header ∷ []
    → values_of name (map (header_bytes text) more)
    ≡ values_of name (map (header_bytes text) before) ++ values_of name (header_bytes text header ∷ [])
values_of-push name text before more header is =
    ap (λ (hs : List HeaderSpan). values_of name (map (header_bytes text) hs)) is
    ∙ (ap (values_of name) (map-append (header_bytes text) before (header ∷ []))
    ∙ values_of-append name (map (header_bytes text) before) (header_bytes text header ∷ []))

-- a standing stays where a header of another name comes
pub stands-other : (text : List ℕ) (standing : Standing) (values : List (List ℕ))
    (name : List ℕ) (header : List ℕ × List ℕ)
    → is_word name header.0 ≡ false
    → Stands text standing values
    → Stands text standing (values ++ values_of name (header ∷ []))
stands-other text standing values name header other stands =
    let nothing = ap (λ (vs : List (List ℕ)). values ++ vs) (other_value name header other) ∙ append-nil values in
    subst (Stands text standing) (sym nothing) stands

-- one of the name adds its value
pub stands-named : (text : List ℕ) (standing : Standing) (values : List (List ℕ))
    (name : List ℕ) (header : List ℕ × List ℕ)
    → is_word name header.0 ≡ true → Stands text standing (values ++ header.1 ∷ [])
    → Stands text standing (values ++ values_of name (header ∷ []))
stands-named text standing values name header named stands =
    let one = ap (λ (vs : List (List ℕ)). values ++ vs) (named_value name header named) in
    subst (Stands text standing) (sym one) stands

-- what a header adds to a standing, it adds behind those before it
pub stands-next : (name text : List ℕ) (headers : List HeaderSpan) (k : ℕ) (d : HeaderSpan) (old new : Standing)
    → k < length headers
    → ((values : List (List ℕ)) → Stands text old values
    → Stands text new (values ++ values_of name (header_bytes text (get_or headers k d) ∷ [])))
    → Stands text old (values_of name (map (header_bytes text) (take k headers)))
    → Stands text new (values_of name (map (header_bytes text) (take (k + 1) headers)))
stands-next name text headers k d old new on adds stands =
    let push = values_of-push name text (take k headers) (take (k + 1) headers) (get_or headers k d)
    (take_more headers k d on) in
    subst (Stands text new) (sym push) (adds (values_of name (map (header_bytes text) (take k headers))) stands)

-- one of two tests is enough
or_true : (b : Bool) → (b || true) ≡ true
or_true true = refl
or_true false = refl

-- one header by which a request asks to close is enough
pub any_found : (text : List ℕ) (headers : List HeaderSpan) (i : ℕ) (d : HeaderSpan) → i < length headers
    → closes (header_bytes text (get_or headers i d)) ≡ true → list_any closes (map (header_bytes text) headers) ≡ true
any_found text [] i d on is = absurd (let bad : ⊥ = omega arith in bad)
any_found text (h ∷ hs) zero d on is = rw (is) refl
any_found text (h ∷ hs) (suc i) d on is =
    rw (any_found text hs i d (omega arith) is) (or_true (closes (header_bytes text h)))

-- none so far, and not this one
pub any_more : (text : List ℕ) (headers : List HeaderSpan) (i : ℕ) (d : HeaderSpan) → i < length headers
    → list_any closes (map (header_bytes text) (take i headers)) ≡ false
    → closes (header_bytes text (get_or headers i d)) ≡ false
    → list_any closes (map (header_bytes text) (take (i + 1) headers)) ≡ false
any_more text headers i d on none other =
    ap (λ (hs : List HeaderSpan). list_any closes (map (header_bytes text) hs)) (take_more headers i d on)
    ∙ (ap (list_any closes) (map-append (header_bytes text) (take i headers) (get_or headers i d ∷ []))
    ∙ (list_any-append closes (map (header_bytes text) (take i headers)) (header_bytes text (get_or headers i d) ∷ [])
    ∙ rw (none, other) refl))
